use Rattle.std.proofs.Common.{drop}
use Rattle.std.specs.BTreeMap.{get}
use Rattle.query_evaluator.specs.Memos.{IsTrueMemo}
use Rattle.dep_key.specs.KeyOrder.{key_order}
use Rattle.type_infer.specs.Meanings.{rules, module_keys}
use Rattle.decl_meaning.proofs.SettleLemmas.{AreAnsweredBut}
use Rattle.decl_meaning.proofs.meanings.answer_all.Given as goal

abbrev pub invariant-loop-key : goal.invariant-loop-key
invariant-loop-key l = record {
  memo : IsTrueMemo (rules l.index) (module_keys l.index) (get key_order l.memo);
  answered : AreAnsweredBut l.index (get key_order l.memo) l.keys (drop l.key-index l.keys);
}
