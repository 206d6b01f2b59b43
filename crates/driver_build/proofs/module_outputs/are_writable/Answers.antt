use Rattle.std.proofs.Common.{sym, subst}
use Rattle.std.specs.List.{AllByRecursion}
use Rattle.std.proofs.lemmas.List.{drop_all}
use Rattle.swiftdeps.specs.Written.{IsWritable}
use Rattle.project_sources.proofs.ParsedLemmas.{item_first}
use Rattle.driver_build.proofs.module_outputs.are_writable.Goals as goal

pub loop-graph-init : goal.loop-graph-init
loop-graph-init c = λ all. all

pub loop-graph-preserved : goal.loop-graph-preserved
loop-graph-preserved c = λ others.
    c.loop-graph.invariant (subst (λ gs. AllByRecursion IsWritable gs) (sym (item_first _ _ c.graph-item.result c.loop-graph-test.true (sym c.graph-item.is)))
    (c.is_writable.ensures.0 (c.if-not-is_writable.false), others))

pub returns : goal.returns
returns c = λ _. c.loop-graph.invariant (subst (λ gs. AllByRecursion IsWritable gs) (sym (drop_all _ _ c.loop-graph-test.false)) tt)
