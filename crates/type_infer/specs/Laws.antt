-- What holds of the meanings of all modules.
use Rattle.std.specs.Prelude.{◌≡◌, List, map, Some}
use Rattle.queries.specs.Queries.{IsListing, Among, seen, solution}
use Rattle.dep_key.specs.declared.key.Key.{Key}
use Rattle.swift_ast.specs.declared.declarations.FileTree.{FileTree}
use Rattle.decl_index.specs.Declarations.{Declaration}
use Rattle.decl_index.specs.Found.{declaration_at}
use Rattle.decl_index.specs.Providers.{providers}
use Rattle.type_infer.specs.Meanings.{having, rules, module_keys, meaning_in}
use Rattle.type_infer.specs.Kinds.{MayMean, known_answer}
use Rattle.type_infer.specs.Plain.{IsPlain, HasPlainNames, IsWrittenModule}

-- the declarations that have a key are those that the references of the index stand for, in order
abbrev pub ReferencesAreDeclarations : Type 0
ReferencesAreDeclarations = (files : List FileTree) (key : Key) → map Some (having files key) ≡ map (declaration_at files) (providers files key)

-- the keys of all declarations list the rules of a module
abbrev pub KeysListRules : Type 0
KeysListRules = (files : List FileTree) → IsListing (rules files) (module_keys files)

-- what the solution knows of a key is its meaning, where that isn't Circular: no reading ends with Circular
abbrev pub SolutionIsMeaning : Type 0
SolutionIsMeaning = (files : List FileTree) (key : Key) → seen (rules files) (solution (rules files) (module_keys files)) key ≡ known_answer (meaning_in files key)

-- a key of a declaration means one of what such a declaration may mean
abbrev pub DeclarationsMean : Type 0
DeclarationsMean = (files : List FileTree) (key : Key) (d : Declaration) → Among (having files key) d → MayMean key d.item (meaning_in files key)

-- a module that is written with names has plain names
abbrev pub WrittenNamesArePlain : Type 0
WrittenNamesArePlain = (files : List FileTree) → IsWrittenModule files → HasPlainNames files

-- in a module with plain names every meaning is plain
abbrev pub MeaningsArePlain : Type 0
MeaningsArePlain = (files : List FileTree) → HasPlainNames files → (key : Key) → IsPlain (meaning_in files key)
