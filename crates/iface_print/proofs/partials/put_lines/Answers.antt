use Rattle.std.proofs.Common.{sym}
use Rattle.decl_index.specs.Found.{shown_declaration}
use Rattle.iface_print.specs.Partials.{partial_line}
use Rattle.iface_print.proofs.PlaceLemmas.{next_place, last_place}
use Rattle.iface_print.proofs.partials.put_lines.Goals as goal

pub returns-in-None : goal.returns-in-None
returns-in-None g c = last_place (partial_line (g.A.Answers.meanings c.args.answers.now)) c.args.index.now c.args.number c.loop-place.place _ _ (sym c.in-None.ensures.declared) c.loop-place.invariant

pub loop-place-preserved : goal.loop-place-preserved
loop-place-preserved g c =
    next_place (partial_line (g.A.Answers.meanings c.args.answers.now)) c.args.index.now c.args.number c.loop-place.place (shown_declaration c.in-Some.declared) _ _ _ (sym c.in-Some.ensures.declared)
    c.in_ok-put_partial_line-in-Some.ensures c.loop-place.invariant
