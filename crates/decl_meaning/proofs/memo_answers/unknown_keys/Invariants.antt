use Rattle.std.proofs.Common.{◌≡◌, ◌++◌, Bool, not}
use Rattle.std.specs.Option.{is_some}
use Rattle.std.specs.List.{filter}
use Rattle.std.specs.BTreeMap.{get}
use Rattle.queries.specs.Queries.{seen}
use Rattle.query_evaluator.specs.Memos.{known}
use Rattle.dep_key.specs.declared.key.Key.{Key}
use Rattle.dep_key.specs.KeyOrder.{key_order}
use Rattle.type_infer.specs.Meanings.{rules}
use Rattle.decl_meaning.proofs.memo_answers.unknown_keys.Given as goal

abbrev pub invariant-loop-key : goal.invariant-loop-key
invariant-loop-key l =
    let test : Key → Bool = λ key. not (is_some (seen (rules l.index) (known (get key_order l.memo)) key)) in
    l.keys.items ++ filter test l.key-iterator ≡ filter test l.fn.asked.keys
