use Rattle.std.proofs.Common.{◌∙◌, ap, sym, false}
use Rattle.dep_graph.specs.Arcs.{nodes_in}
use Rattle.wave_core.specs.Cores.{has_print}
use Rattle.dep_trace.specs.Traces.{is_named}
use Rattle.dep_trace.proofs.TraceLemmas.{moved-none, moved-same, named-print}
use Rattle.dep_trace.proofs.trace.note_removed.Goals as goal

pub returns-in_ok-note_nodes-in-Some : goal.returns-in_ok-note_nodes-in-Some
returns-in_ok-note_nodes-in-Some c =
    moved-same c.args.origins.now.entries c.note_nodes.new.origins.entries c.args.file.now (is_named c.in-Some.nodes.now) (has_print (nodes_in c.args.graph.now c.args.file.now))
    (λ k. named-print c.in-Some.nodes.now k ∙ sym (ap (λ o. has_print o k) c.in-Some.ensures.nodes)) c.in_ok-note_nodes-in-Some.ensures

pub returns-in-None : goal.returns-in-None
returns-in-None c = moved-same c.args.origins.now.entries c.args.origins.now.entries c.args.file.now (λ k. false) (has_print (nodes_in c.args.graph.now c.args.file.now)) (λ k. sym (ap (λ o. has_print o k) c.in-None.ensures.absent)) (moved-none c.args.origins.now.entries c.args.file.now)
