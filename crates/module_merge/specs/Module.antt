-- Partial texts and the merged module.
use Rattle.std.specs.Prelude.{◌≡◌, ◌++◌, ℕ, Bool, List, ◌∷◌, codes}
use Rattle.std.specs.List.{flat_map}
use Rattle.module_merge.specs.Lines.{all_but_first, is_headed, lines_of, text_of}
use Rattle.module_merge.specs.ByPath.{IsByPath}

-- Lines that each end with a line feed, the first of them "partial PATH" with a plain path.
abbrev pub is_partial : List ℕ → Bool
is_partial = is_headed (codes "partial ")

-- the line "module M" and then, in order, the lines of each partial text without its first
abbrev pub merged_text : List ℕ → List (List ℕ) → List ℕ
merged_text name partials = text_of ((codes "module " ++ name) ∷ flat_map (λ partial. all_but_first (lines_of partial)) partials)

-- The line "module M" and then, by path, the lines of each partial text without its first.
abbrev pub IsMergedModule : List ℕ → List (List ℕ) → List ℕ → Type 0
IsMergedModule name partials text = (ordered : List (List ℕ)) × IsByPath (codes "partial ") partials ordered × (text ≡ merged_text name ordered)
