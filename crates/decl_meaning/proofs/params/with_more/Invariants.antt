use Rattle.std.proofs.Common.{◌≡◌, drop, map}
use Rattle.type_infer.specs.Readings.{params_query}
use Rattle.decl_meaning.specs.Asking.{read, items_in, behind}
use Rattle.decl_meaning.proofs.params.with_more.Given as goal

abbrev pub invariant-loop-part : goal.invariant-loop-part
invariant-loop-part g l =
    let m = g.A.Answers.meanings l.answers in
    behind (items_in l.params) (read m (params_query l.path (map (λ p. p.1) (drop l.part-index l.more))) l.asked) ≡ behind (items_in l.fn.before) (read m (params_query l.path (map (λ p. p.1) l.more)) l.fn.asked)
