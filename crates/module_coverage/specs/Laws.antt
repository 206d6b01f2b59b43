-- Why a file that no change reaches needn't be compiled again.
use Rattle.std.specs.Prelude.{◌≡◌, ℕ, Bool, false, not, List, map, filter, Some}
use Rattle.queries.specs.Queries.{Among}
use Rattle.dep_key.specs.declared.key.Key.{Key}
use Rattle.dep_key.specs.declared.graph.Node.{Node}
use Rattle.dep_key.specs.Digests.{digest_of, digested_node, digested}
use Rattle.dep_key.specs.Moved.{print_of, uses_of}
use Rattle.swift_ast.specs.declared.declarations.FileTree.{FileTree}
use Rattle.type_infer.specs.Meanings.{meaning_in}
use Rattle.type_infer.specs.Plain.{HasPlainNames}
use Rattle.iface_print.specs.Coverage.{IsUnmoved, CoversChanges}
use Rattle.file_coverage.specs.Laws.{implementation}
use Rattle.module_compile.specs.Compiled.{graph_with, compiled_in}

-- The files outside are the same in both modules, and no key that a recorded node of theirs uses has another print in a changed file.
pub record LeavesTheRest (changed : List ℕ → Bool) (p s : List FileTree) : Type 0 where
  pub same : filter (λ f. not (changed f.path)) p ≡ filter (λ f. not (changed f.path)) s
  pub unmoved : (f : FileTree) → Among p f → changed f.path ≡ false → (key : Key) → Among (uses_of (digested (graph_with (meaning_in p) f)).nodes) key → IsUnmoved changed p s key

-- What the uses of recorded nodes tell is coverage.
abbrev pub UsesOfNodesCover : Type 0
UsesOfNodesCover = (changed : List ℕ → Bool) (p s : List FileTree) → LeavesTheRest changed p s → CoversChanges (implementation p) changed p s

-- A file that hasn't changed, and of whose uses none has moved, is compiled to the same in both modules: errors, texts and graph.
abbrev pub CoveredFilesAreAlike : Type 0
CoveredFilesAreAlike = (changed : List ℕ → Bool) (p s : List FileTree) → HasPlainNames p → HasPlainNames s → CoversChanges (implementation p) changed p s →
    (f : FileTree) → Among p f → changed f.path ≡ false → compiled_in p f ≡ compiled_in s f

-- No two different prints that old and new nodes have of the key have one digest.
abbrev pub DigestsTell : List Node → List Node → Key → Type 0
DigestsTell old new key = (v w : List ℕ) → print_of old key ≡ Some v → print_of new key ≡ Some w → digest_of key.aspect v ≡ digest_of key.aspect w → v ≡ w

-- Where digests tell prints apart, a key whose recorded print is the same has the same print.
abbrev pub RecordedPrintsTell : Type 0
RecordedPrintsTell = (old new : List Node) (key : Key) → DigestsTell old new key → print_of (map digested_node old) key ≡ print_of (map digested_node new) key → print_of old key ≡ print_of new key
