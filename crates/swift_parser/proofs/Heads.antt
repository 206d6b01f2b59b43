-- The token that a list begins with.
use Rattle.std.proofs.Common.{◌≡◌, ℕ, zero, suc, ◌<◌, ◌≤◌, ◌&&◌, true, List, [], ◌∷◌, length, map, drop, Some, refl, ◌∙◌, ap, arith, slice_index_or, if◌then◌else◌, nat_le}
use Rattle.std.proofs.lemmas.Bool.{le-leb}
use Rattle.grammar.specs.Levels.{too_deep, level}
use Rattle.swift_ast.specs.Tests.{on, opens_level, closes_level}
use Rattle.swift_ast.specs.declared.tokens.Token.{Token}
use Rattle.swift_ast.specs.Leaves.{Leaf, leaf_of}
use Rattle.swift_parser.specs.Whole.{IsAt}

pub head_at : (bytes : List ℕ) (rest : List Token) (d : Token) → 1 ≤ length rest
    → IsAt bytes (map leaf_of rest) (slice_index_or rest 0 d).line (slice_index_or rest 0 d).column (slice_index_or rest 0 d).text.now
head_at bytes [] d l = absurd (omega (arith, l))
head_at bytes (t ∷ ts) d l = (refl, refl, refl)

deep_head : (ts : List Leaf) (t : Leaf) (held : ℕ) → on opens_level t ≡ true → nat_le 100 held ≡ true → too_deep (on opens_level) (on closes_level) 100 held (t ∷ ts) ≡ Some (t ∷ ts)
deep_head ts t held e l = ap (λ b. if b && nat_le 100 held then Some (t ∷ ts) else too_deep (on opens_level) (on closes_level) 100 (level (on opens_level) (on closes_level) held t) ts) e
    ∙ ap (λ b. if b then Some (t ∷ ts) else too_deep (on opens_level) (on closes_level) 100 (level (on opens_level) (on closes_level) held t) ts) l

-- a bracket that is too deep, at a place of the tokens
pub deep_here : (tokens : List Token) (at held : ℕ) (d : Token) → at < length tokens → on opens_level (leaf_of (slice_index_or tokens at d)) ≡ true → 100 ≤ held
    → (too_deep (on opens_level) (on closes_level) 100 held (map leaf_of (drop at tokens)) ≡ Some (drop at (map leaf_of tokens))) × (at < length (map leaf_of tokens))
deep_here [] at held d l e h = absurd (omega (arith, l))
deep_here (t ∷ tokens) zero held d l e h = (deep_head (map leaf_of tokens) (leaf_of t) held e (le-leb 100 held h), omega arith)
deep_here (t ∷ tokens) (suc at) held d l e h = let r = deep_here tokens at held d (omega (arith, l)) e h in (r.0, omega (arith, r.1))
