-- What checking the files of a module asks, and what it gives where nothing has changed.
use Rattle.std.specs.Prelude.{◌≡◌, ℕ, Bool, true, false, List}
use Rattle.queries.specs.Queries.{Among}
use Rattle.dep_key.specs.declared.key.Key.{Key}
use Rattle.swift_ast.specs.declared.declarations.FileTree.{FileTree}
use Rattle.type_infer.specs.Meanings.{meaning_in}
use Rattle.type_infer.specs.Plain.{HasPlainNames}
use Rattle.type_infer.specs.Sound.{is_asked_kind}
use Rattle.iface_print.specs.Coverage.{IsUse, CoversChanges}
use Rattle.body_check.specs.Files.{file_uses, file_asks, GivesTheSame}

-- What the implementations of the files of a module use.
abbrev pub implementation : List FileTree → FileTree → List Key
implementation files f = file_uses (meaning_in files) f

-- Whatever checking a file asks is a use of it, of a kind that look-ups ask: what its implementation uses, or, of its own keys, what
-- its definitions use.
abbrev pub AskedKeysAreUses : Type 0
AskedKeysAreUses = (files : List FileTree) → HasPlainNames files → (f : FileTree) → Among files f → (key : Key) → Among (file_asks (meaning_in files) f) key →
    (is_asked_kind key.kind ≡ true) × IsUse (implementation files) files f key

-- A file that hasn't changed, and of whose uses none has moved, has the same errors, the same code and the same uses.
abbrev pub UnchangedFilesGiveTheSame : Type 0
UnchangedFilesGiveTheSame = (changed : List ℕ → Bool) (p s : List FileTree) → HasPlainNames p → HasPlainNames s → CoversChanges (implementation p) changed p s →
    (f : FileTree) → Among p f → changed f.path ≡ false → GivesTheSame (meaning_in p) (meaning_in s) f
