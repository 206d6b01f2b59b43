-- The object and the partial text of a file, what they ask, and that they are functions of the answers.
use Rattle.std.specs.Prelude.{◌≡◌, ℕ, Bool, true, false, List, [], ◌∷◌, ◌++◌, flat_map, if◌then◌else◌}
use Rattle.queries.specs.Queries.{Among}
use Rattle.dep_key.specs.declared.key.Key.{Key}
use Rattle.dep_key.specs.KeyBuilders.{nominal}
use Rattle.type_rules.specs.declared.meaning.Meaning.{Meaning}
use Rattle.swift_ast.specs.declared.declarations.FileTree.{FileTree}
use Rattle.decl_index.specs.Declarations.{Item, Declaration, GlobalItem, FuncItem, AliasItem, StructItem, StoredItem, ComputedItem, ExtensionItem, declarations_in}
use Rattle.type_infer.specs.Meanings.{meaning_in}
use Rattle.type_infer.specs.Plain.{HasPlainNames}
use Rattle.type_infer.specs.Sound.{is_asked_kind}
use Rattle.iface_print.specs.Coverage.{IsUse, CoversChanges}
use Rattle.iface_print.specs.Partials.{is_kept, partial_text}
use Rattle.body_check.specs.Files.{file_units, file_asks}
use Rattle.object_emit.specs.Objects.{object_text}
use Rattle.file_coverage.specs.Laws.{implementation}
use Rattle.object_coverage.specs.CodeKeys.{unit_keys}

-- ---- objects

-- The object text of a file, of the code of those declarations that have no error.
abbrev pub object_of : (Key → Meaning) → FileTree → List ℕ
object_of meanings f = object_text meanings f.path (file_units meanings f)

-- the keys that the code of a file is laid out by
abbrev pub code_keys : (Key → Meaning) → FileTree → List Key
code_keys meanings f = flat_map unit_keys (file_units meanings f)

-- The keys that making the object of a file asks: to check it, and to lay out its code.
abbrev pub object_asks : (Key → Meaning) → FileTree → List Key
object_asks meanings f = file_asks meanings f ++ code_keys meanings f

-- ---- partial texts

-- The key that the line of a declaration is made from: its own, and of a stored property that of its struct's stored properties.
abbrev pub item_asks : Key → Item → List Key
item_asks key (GlobalItem x) = key ∷ []
item_asks key (ComputedItem x) = key ∷ []
item_asks key (FuncItem x) = key ∷ []
item_asks key (AliasItem x) = key ∷ []
item_asks key (StructItem x) = nominal key.name ∷ []
item_asks key (StoredItem x) = nominal key.context ∷ []
item_asks key (ExtensionItem x) = []

-- what is kept to the file has no line
abbrev pub line_asks : Declaration → List Key → List Key
line_asks d [] = []
line_asks d (key ∷ keys) = if is_kept d key then [] else item_asks key d.item

-- The keys that making the partial text of a file asks.
abbrev pub partial_asks : FileTree → List Key
partial_asks f = flat_map (λ d. line_asks d d.keys) (declarations_in f)

-- ---- laws

-- where keys mean the same by two answers
abbrev pub MeanTheSame : (Key → Meaning) → (Key → Meaning) → List Key → Type 0
MeanTheSame meanings others keys = (key : Key) → Among keys key → meanings key ≡ others key

-- Where each key that making a file's object asks means the same by two answers, both give the same object text.
abbrev pub EqualAnswersGiveEqualObjects : Type 0
EqualAnswersGiveEqualObjects = (meanings others : Key → Meaning) (f : FileTree) → MeanTheSame meanings others (object_asks meanings f) → object_of meanings f ≡ object_of others f

-- Where each key that making a file's partial text asks means the same by two answers, both give the same partial text.
abbrev pub EqualAnswersGiveEqualPartials : Type 0
EqualAnswersGiveEqualPartials = (meanings others : Key → Meaning) (f : FileTree) → MeanTheSame meanings others (partial_asks f) → partial_text meanings f ≡ partial_text others f

-- Whatever the answers, code is laid out by keys that were asked when the file was checked.
abbrev pub LayoutsWereAsked : Type 0
LayoutsWereAsked = (meanings : Key → Meaning) (f : FileTree) (key : Key) → Among (code_keys meanings f) key → Among (file_asks meanings f) key

-- Each key that making an object asks is a use of the file, of its implementation or of one of its definitions, and of a kind that
-- look-ups ask.
abbrev pub ObjectsAskUses : Type 0
ObjectsAskUses = (files : List FileTree) → HasPlainNames files → (f : FileTree) → Among files f → (key : Key) → Among (object_asks (meaning_in files) f) key →
    (is_asked_kind key.kind ≡ true) × IsUse (implementation files) files f key

-- So is each key that making a partial text asks.
abbrev pub PartialsAskUses : Type 0
PartialsAskUses = (files : List FileTree) (f : FileTree) (key : Key) → Among (partial_asks f) key → (is_asked_kind key.kind ≡ true) × IsUse (implementation files) files f key

-- the texts that a file has in two modules
pub record HasTheSameTexts (p s : List FileTree) (f : FileTree) : Type 0 where
  pub object : object_of (meaning_in p) f ≡ object_of (meaning_in s) f
  pub partial : partial_text (meaning_in p) f ≡ partial_text (meaning_in s) f

-- A file that hasn't changed, and of whose uses none has moved, has the same object text and the same partial text.
abbrev pub UnchangedFilesHaveTheSameTexts : Type 0
UnchangedFilesHaveTheSameTexts = (changed : List ℕ → Bool) (p s : List FileTree) → HasPlainNames p → HasPlainNames s → CoversChanges (implementation p) changed p s →
    (f : FileTree) → Among p f → changed f.path ≡ false → HasTheSameTexts p s f
