-- The sources of a project come to one thing.
use Rattle.std.proofs.Common.{◌≡◌, ◌⊎◌, ℕ, ◌<◌, ◌≤◌, inl, inr, List, [], ◌∷◌, refl, sym, ap, ◌∙◌, arith, ⊎_elim}
use Rattle.std.proofs.lemmas.Bool.Decides.{leb_tells}
use Rattle.diag_text.specs.declared.diag.Diag.{Diag}
use Rattle.drv_outside.specs.TreeState.{bytes_at}
use Rattle.drv_outside.specs.declared.types.Source.{Source}
use Rattle.swift_ast.specs.declared.declarations.FileTree.{FileTree}
use Rattle.frontend.specs.declared.parsed.Parsed.{Parsed}
use Rattle.frontend.proofs.ParsingLemmas.{one_parsed}
use Rattle.project_sources.specs.Laws.{NeverBoth, RefusalIsOne, SourcesComeToOne, TreesAreOne}
use Rattle.project_sources.specs.Parsed.{AreParsed, source_paths, source_bytes}
use Rattle.project_sources.specs.Refusals.{IsRefused, listing, size, forms, HaveTrees, listing_errors, form_errors, trees_of, too_large_error}
use Rattle.project_sources.specs.declared.listing.TheConstants.{MOST_SOURCE_BYTES}

one_list : (sources : List Source) (paths : List (List ℕ)) (fs gs : List Parsed) → AreParsed sources paths fs → AreParsed sources paths gs → fs ≡ gs
one_list sources [] [] [] p q = refl
one_list sources [] [] (g ∷ gs) p q = absurd q
one_list sources [] (f ∷ fs) gs p q = absurd p
one_list sources (path ∷ paths) [] gs p q = absurd p
one_list sources (path ∷ paths) (f ∷ fs) [] p q = absurd q
one_list sources (path ∷ paths) (f ∷ fs) (g ∷ gs) p q =
    ap (λ x. x ∷ fs) (one_parsed path (bytes_at path sources) f g p.0 q.0) ∙ ap (λ xs. g ∷ xs) (one_list sources paths fs gs p.1 q.1)

-- The sources come to something.
abbrev ComeTo : List Source → Type 0
ComeTo sources = ((errors : List Diag) × IsRefused sources errors) ⊎ ((trees : List FileTree) × HaveTrees sources trees)

by_forms : (sources : List Source) (files : List Parsed) (errors : List Diag) → listing_errors (source_paths sources) ≡ [] → source_bytes sources (source_paths sources) ≤ MOST_SOURCE_BYTES
    → AreParsed sources (source_paths sources) files → form_errors files ≡ errors → ComeTo sources
by_forms sources files [] listed few parsed none = inr (trees_of files, record { listing = listed; size = few; files = files; parsed = parsed; forms = none; is = refl })
by_forms sources files (error ∷ errors) listed few parsed some = inl (error ∷ errors, forms listed few files parsed (sym some) (λ e. cc))

by_listing : (sources : List Source) (files : List Parsed) (errors : List Diag) → AreParsed sources (source_paths sources) files → listing_errors (source_paths sources) ≡ errors → ComeTo sources
by_listing sources files [] parsed listed =
    ⊎_elim (λ few. by_forms sources files (form_errors files) listed few.1 parsed refl)
    (λ many. inl (too_large_error ∷ [], size listed many.1 refl))
    (leb_tells (source_bytes sources (source_paths sources)) MOST_SOURCE_BYTES)
by_listing sources files (error ∷ errors) parsed listed = inl (error ∷ errors, listing (sym listed) (λ e. cc))

pub come_to_one : SourcesComeToOne
come_to_one sources files parsed = by_listing sources files (listing_errors (source_paths sources)) parsed refl

-- no more than so many, and more
never_more : (n m : ℕ) → n ≤ m → m < n → ⊥
never_more n m few many = omega arith

pub same_errors : RefusalIsOne
same_errors sources one two (listing a some) (listing b more) = a ∙ sym b
same_errors sources one two (listing a some) (size none many b) = absurd (some (a ∙ none))
same_errors sources one two (listing a some) (forms none few files parsed b more) = absurd (some (a ∙ none))
same_errors sources one two (size none many a) (listing b more) = absurd (more (b ∙ none))
same_errors sources one two (size none many a) (size again large b) = a ∙ sym b
same_errors sources one two (size none many a) (forms again few files parsed b more) = absurd (never_more _ _ few many)
same_errors sources one two (forms none few files parsed a some) (listing b more) = absurd (more (b ∙ none))
same_errors sources one two (forms none few files parsed a some) (size again many b) = absurd (never_more _ _ few many)
same_errors sources one two (forms none few fs p a some) (forms again small gs q b more) = a ∙ ap form_errors (one_list sources (source_paths sources) fs gs p q) ∙ sym b

pub never_both : NeverBoth
never_both sources errors trees (listing a some) have = some (a ∙ have.listing)
never_both sources errors trees (size none many a) have = never_more _ _ have.size many
never_both sources errors trees (forms none few files p a some) have =
    some (a ∙ ap form_errors (one_list sources (source_paths sources) files have.files p have.parsed) ∙ have.forms)

pub same_trees : TreesAreOne
same_trees sources one two a b = a.is ∙ ap trees_of (one_list sources (source_paths sources) a.files b.files a.parsed b.parsed) ∙ sym b.is
