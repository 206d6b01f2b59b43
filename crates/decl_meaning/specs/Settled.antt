-- All keys of a module are answered.
use Rattle.std.specs.Prelude.{◌≡◌, List, Option, Some}
use Rattle.queries.specs.Queries.{Among, seen, solution}
use Rattle.query_evaluator.specs.Memos.{known}
use Rattle.dep_key.specs.declared.key.Key.{Key}
use Rattle.swift_ast.specs.declared.declarations.FileTree.{FileTree}
use Rattle.type_rules.specs.declared.meaning.Meaning.{Meaning}
use Rattle.type_infer.specs.Meanings.{rules, module_keys, meaning_in}
use Rattle.type_infer.specs.Demand.{or_circular}

-- The memo has the answers of all keys of a list.
pub record AreAnswered (files : List FileTree) (memo : Key → Option (Option Meaning)) (keys : List Key) : Type 0 where
  pub at : (key : Key) → Among keys key → memo key ≡ Some (solution (rules files) (module_keys files) key)

-- What the memo knows of a key is what the key means, and where it knows nothing, the key means Circular.
pub record IsSettled (files : List FileTree) (memo : Key → Option (Option Meaning)) : Type 0 where
  pub at : (key : Key) → or_circular (seen (rules files) (known memo)) key ≡ meaning_in files key
