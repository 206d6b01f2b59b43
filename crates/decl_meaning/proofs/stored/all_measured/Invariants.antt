use Rattle.std.proofs.Common.{◌≡◌, drop}
use Rattle.type_infer.specs.Readings.{all_measured, stored_in}
use Rattle.decl_meaning.specs.Asking.{read, items_in, behind}
use Rattle.decl_meaning.proofs.stored.all_measured.Given as goal

abbrev pub invariant-loop-member : goal.invariant-loop-member
invariant-loop-member g l =
    let m = g.A.Answers.meanings l.answers in
    behind (items_in l.found) (read m (all_measured l.context (stored_in l.path (drop l.member-index l.members))) l.asked) ≡ read m (all_measured l.context (stored_in l.path l.members)) l.fn.asked
