-- What was read of a project, and what it says of the project's sources.
use Rattle.std.proofs.Common.{◌≡◌, ℕ, true, false, inl, inr, List, [], ◌∷◌, length, map, arith, Option, Some, None, refl, sym, ap, subst, ◌∙◌, All, zero, suc, ◌&&◌}
use Rattle.std.specs.Prelude.{◌≢◌, ◌==◌, IfSome, Result, Ok, Err, IfErr, IsTrue}
use Rattle.std.specs.List.{list_all}
use Rattle.std.specs.Vec.{vec_len}
use Rattle.std.specs.declared.vec.Vec.{Vec}
use Rattle.std.specs.declared.alloc.Global.{Global}
use Rattle.std.proofs.lemmas.Bool.{and_parts}
use Rattle.std.proofs.lemmas.Bool.Decides.{nat_tests}
use Rattle.std.proofs.lemmas.List.Elements.{All-nil, All-cons}
use Rattle.diag_text.specs.declared.diag.Diag.{Diag}
use Rattle.drv_outside.specs.Plain.{is_plain_path}
use Rattle.drv_outside.specs.TreeState.{TreeState, entries_of}
use Rattle.drv_outside.specs.declared.types.Entry.{Entry}
use Rattle.drv_outside.specs.declared.types.Source.{Source}
use Rattle.swift_ast.specs.declared.declarations.FileTree.{FileTree}
use Rattle.frontend.specs.Parsing.{parsed_path}
use Rattle.frontend.specs.declared.parsed.Parsed.{Parsed}
use Rattle.frontend.specs.declared.parsed.Parsed.TheVariants.{Tree, NoTree}
use Rattle.project_sources.specs.Parsed.{entry_paths, source_paths}
use Rattle.project_sources.specs.Reading.{IsListed, AreReadAs, AreUnread, AreOfFiles, AreRead, HavePaths, HoldFiles, StandAt, tree_paths}
use Rattle.project_sources.specs.Refusals.{IsRefused, listing, size, forms, HaveTrees, listing_errors, form_errors, trees_of, too_large_error}
use Rattle.project_sources.specs.declared.reading.Listing.TheVariants as listed
use Rattle.project_sources.specs.declared.reading.Sources.{Sources}
use Rattle.project_sources.specs.declared.reading.Sources.TheVariants as read
use Rattle.project_sources.specs.declared.sources.Files.TheVariants as files
use Rattle.project_sources.proofs.ParsedLemmas.{listed_plain}

-- the paths of a listing are those of the sources
pub listed_paths : (sources : List Source) → entry_paths (entries_of sources) ≡ source_paths sources
listed_paths [] = refl
listed_paths (source ∷ sources) = ap (λ ps. source.path ∷ ps) (listed_paths sources)

-- the sources of a project whose list has errors are refused
pub listing_refused : (sources : List Source) (errors : Vec Diag Global) → IsListed sources (listed.Refused errors) → IsRefused sources errors.items
listing_refused sources errors is = listing is.0 is.1

-- so are those of which files are
pub reading_refused : (sources : List Source) (entries : Vec Entry Global) (errors : Vec Diag Global) → IsListed sources (listed.Listed entries)
    → AreReadAs sources (entry_paths entries.items) (read.Refused errors) → IsRefused sources errors.items
reading_refused sources entries errors is so = by_case (subst (λ ps. AreUnread sources ps errors.items) (ap entry_paths is.0 ∙ listed_paths sources) so)
  where
    by_case : AreUnread sources (source_paths sources) errors.items → IsRefused sources errors.items
    by_case (inl large) = size is.1 large.0 large.1
    by_case (inr unread) = forms is.1 unread.1.1 unread.0 unread.1.0 unread.2 unread.3

-- and else they have the trees that were read
pub reading_trees : (sources : List Source) (entries : Vec Entry Global) (trees : Vec FileTree Global) → IsListed sources (listed.Listed entries)
    → AreReadAs sources (entry_paths entries.items) (read.Trees trees) → HaveTrees sources trees.items
reading_trees sources entries trees is so =
    let at : AreReadAs sources (source_paths sources) (read.Trees trees) = subst (λ ps. AreReadAs sources ps (read.Trees trees)) (ap entry_paths is.0 ∙ listed_paths sources) so in
    record { listing = is.1; size = at.1.1; files = at.0; parsed = at.1.0; forms = at.2; is = at.3 }

-- ---- files

-- each file has a tree where no error is left
trees_stand : (parsed : List Parsed) → form_errors parsed ≡ [] → tree_paths (trees_of parsed) ≡ map parsed_path parsed
trees_stand [] none = refl
trees_stand (Tree tree ∷ parsed) none = ap (λ ps. tree.path ∷ ps) (trees_stand parsed none)
trees_stand (NoTree error ∷ parsed) none = cc

pub stand_at : (paths : List (List ℕ)) (parsed : List Parsed) (sources : Sources) → map parsed_path parsed ≡ paths → AreOfFiles parsed sources → StandAt paths sources
stand_at paths parsed (read.Refused errors) same of = tt
stand_at paths parsed (read.Trees trees) same of = ap tree_paths of.1 ∙ trees_stand parsed of.0 ∙ same

read_files_as : (sources : List Source) (paths : List (List ℕ)) (parsed : Vec Parsed Global) (made : Sources) → AreRead sources paths (files.Parsed parsed) → AreOfFiles parsed.items made → AreReadAs sources paths made
read_files_as sources paths parsed (read.Refused errors) holds of = inr (parsed.items, holds, of.0, of.1)
read_files_as sources paths parsed (read.Trees trees) holds of = (parsed.items, holds, of.0, of.1)

pub read_as : (observed : Option TreeState) (paths : List (List ℕ)) (parsed : Vec Parsed Global) (made : Sources) → IfSome observed (λ t. AreRead t.sources paths (files.Parsed parsed)) → AreOfFiles parsed.items made
    → IfSome observed (λ t. AreReadAs t.sources paths made)
read_as None paths parsed made holds of = tt
read_as (Some t) paths parsed made holds of = read_files_as t.sources paths parsed made holds of

pub too_large_as : (observed : Option TreeState) (paths : List (List ℕ)) (errors : Vec Diag Global) → IfSome observed (λ t. AreRead t.sources paths files.TooLarge) → errors.items ≡ too_large_error ∷ []
    → IfSome observed (λ t. AreReadAs t.sources paths (read.Refused errors))
too_large_as None paths errors large is = tt
too_large_as (Some t) paths errors large is = inl (large, is)

-- ---- listings

pub list_refused : (observed : Option TreeState) (entries : List Entry) (errors : Vec Diag Global) → IfSome observed (λ t. entries ≡ entries_of t.sources)
    → errors.items ≡ listing_errors (entry_paths entries) → errors.items ≢ [] → IfSome observed (λ t. IsListed t.sources (listed.Refused errors))
list_refused None entries errors is has some = tt
list_refused (Some t) entries errors is has some = (has ∙ ap (λ es. listing_errors (entry_paths es)) is ∙ ap listing_errors (listed_paths t.sources), some)

pub list_listed : (observed : Option TreeState) (entries : Vec Entry Global) → IfSome observed (λ t. entries.items ≡ entries_of t.sources) → listing_errors (entry_paths entries.items) ≡ []
    → IfSome observed (λ t. IsListed t.sources (listed.Listed entries))
list_listed None entries is none = tt
list_listed (Some t) entries is none = (is, ap listing_errors (sym (ap entry_paths is ∙ listed_paths t.sources)) ∙ none)

plain_all : (paths : List (List ℕ)) → list_all is_plain_path paths ≡ true → All (λ path. IsTrue (is_plain_path path)) paths
plain_all [] plain = All-nil (λ path. IsTrue (is_plain_path path))
plain_all (path ∷ paths) plain = All-cons (λ p. IsTrue (is_plain_path p)) path paths (and_parts (is_plain_path path) (list_all is_plain_path paths) plain).0 (plain_all paths (and_parts (is_plain_path path) (list_all is_plain_path paths) plain).1)

-- a list without errors has plain paths
pub paths_plain : (entries : List Entry) → listing_errors (entry_paths entries) ≡ [] → All (λ path. IsTrue (is_plain_path path)) (entry_paths entries)
paths_plain entries none = plain_all (entry_paths entries) (listed_plain (entry_paths entries) none)

-- ---- lists and errors

no_items : {X : Type 0} (xs : List X) → (length xs == 0) ≡ true → xs ≡ []
no_items [] h = refl
no_items (x ∷ xs) h = absurd (grind (arith, nat_tests))

-- a list that isn't empty, by its length
pub filled : {X : Type 0} (v : Vec X Global) → (vec_len v == 0) ≡ false → v.items ≢ []
filled v some none =
    let empty : vec_len v ≡ 0 = omega (arith, ap length none) in
    let is : (vec_len v == 0) ≡ true = rw empty refl in cc

pub emptied : {X : Type 0} (v : Vec X Global) → (vec_len v == 0) ≡ true → v.items ≡ []
emptied v none = no_items v.items (let same : vec_len v ≡ length v.items = omega arith in subst (λ n. (n == 0) ≡ true) same none)

-- an error that is answered, whatever it is
pub any_error : {X E : Type 0} (r : Result X E) (P : E → Type 0) → ((e : E) → P e) → IfErr r P
any_error (Ok x) P so = tt
any_error (Err e) P so = so e
