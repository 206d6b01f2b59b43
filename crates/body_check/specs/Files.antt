-- What checking a file gives where keys mean something: its errors, its units of code, and what it uses.
use Rattle.std.specs.Prelude.{◌≡◌, false, List, [], Option, Some, None}
use Rattle.queries.specs.Queries.{Among, value_with}
use Rattle.dep_key.specs.declared.key.Key.{Key}
use Rattle.dep_key.specs.KeyOrder.{key_order}
use Rattle.type_rules.specs.declared.meaning.Meaning.{Meaning}
use Rattle.swift_ast.specs.declared.declarations.FileTree.{FileTree}
use Rattle.typed_code.specs.declared.units.Unit.{Unit as CodeUnit}
use Rattle.checks.specs.Checks.{Checked}
use Rattle.checks.specs.Logs.{made, nothing, set_of}
use Rattle.checks.specs.OwnKeys.{answering, with_own, uses, asks}
use Rattle.expr_check.specs.declared.line.Line.{Line}
use Rattle.expr_check.specs.Messages.{line_order, orders}
use Rattle.body_check.specs.Declarations.{file_check}

abbrev pub file_checked : (Key → Meaning) → FileTree → Checked Line (List CodeUnit)
file_checked meanings file = value_with (answering meanings) (file_check file)

-- the errors of a file, by line, column and text, equal ones once
unfoldable pub file_errors : (Key → Meaning) → FileTree → List Line
file_errors meanings file = set_of line_order (file_checked meanings file).errors

abbrev pub units_or_none : Option (List CodeUnit) → List CodeUnit
units_or_none None = []
units_or_none (Some units) = units

-- the units of code of a file, of those declarations that have no error
unfoldable pub file_units : (Key → Meaning) → FileTree → List CodeUnit
file_units meanings file = units_or_none (file_checked meanings file).value

-- the keys that the implementation of a file uses, in ascending order, each once
unfoldable pub file_uses : (Key → Meaning) → FileTree → List Key
file_uses meanings file = set_of key_order (uses meanings (file_check file))

-- all keys that checking a file asks, those of its own declarations among them
unfoldable pub file_asks : (Key → Meaning) → FileTree → List Key
file_asks meanings file = asks meanings (file_check file)

-- ---- laws

-- what checking a file gives where keys mean one thing, and where they mean another
pub record GivesTheSame (meanings others : Key → Meaning) (file : FileTree) : Type 0 where
  pub errors : file_errors meanings file ≡ file_errors others file
  pub units : file_units meanings file ≡ file_units others file
  pub uses : file_uses meanings file ≡ file_uses others file
  pub asks : file_asks meanings file ≡ file_asks others file

-- Where two modules mean the same by each key that checking a file asks in the one, the file has the same errors, the same code and the
-- same uses in both. A file without changes, of whose keys none has moved, need not be compiled again.
abbrev pub SameMeaningsGiveTheSame : Type 0
SameMeaningsGiveTheSame = (meanings others : Key → Meaning) (file : FileTree) → ((key : Key) → Among (file_asks meanings file) key → meanings key ≡ others key) → GivesTheSame meanings others file

-- From nothing, a program that enters what it says and what it uses into two sets, as it goes, ends with the errors and the uses of the file.
abbrev pub MadeIsTheFile : Type 0
MadeIsTheFile = (meanings : Key → Meaning) (file : FileTree) →
    made orders meanings (with_own meanings (file_check file)) nothing ≡ ((file_checked meanings file).value, record { errors = file_errors meanings file; asked = file_uses meanings file; muted = false })
