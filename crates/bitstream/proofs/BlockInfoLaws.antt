-- What BLOCKINFO defined, by the places of each block's definitions.
use Rattle.std.proofs.Common.{◌≡◌, ℕ, zero, suc, ◌+◌, ◌-◌, ◌≤◌, ◌<◌, ◌==◌, Bool, true, false, List, [], ◌∷◌, ◌++◌, length, slice_get, get_or, refl, sym, ◌∙◌, ap, arith, Some, None, Option, if◌then◌else◌}
use Rattle.std.proofs.lemmas.Option.{slice_get_within, get_or_from_slice_get}
use Rattle.bitstream.specs.declared.item.AbbrevOp.{AbbrevOp}
use Rattle.bitstream.specs.declared.block_info.BlockInfoDefinition.{BlockInfoDefinition}
use Rattle.bitstream.specs.BlockInfo.{block_info_for, places_from}

pub places-count : (block at : ℕ) (ks : List BlockInfoDefinition) → length (places_from block at ks) ≡ length (block_info_for block ks)
places-count block at [] = refl
places-count block at (k ∷ ks) = by_block (k.block == block) refl (places-count block (at + 1) ks)
  where
    by_block : (same : Bool) → (k.block == block) ≡ same → length (places_from block (at + 1) ks) ≡ length (block_info_for block ks)
        → length (places_from block at (k ∷ ks)) ≡ length (block_info_for block (k ∷ ks))
    by_block true t e = rw t (ap suc e)
    by_block false t e = rw t e

-- one definition more
pub places-push : (block at : ℕ) (ks : List BlockInfoDefinition) (k : BlockInfoDefinition) → places_from block at (ks ++ k ∷ []) ≡ places_from block at ks ++ (if k.block == block then (at + length ks) ∷ [] else [])
places-push block at [] k = by_block (k.block == block) refl
  where
    by_block : (same : Bool) → (k.block == block) ≡ same → places_from block at (k ∷ []) ≡ [] ++ (if k.block == block then (at + 0) ∷ [] else [])
    by_block true t = rw t (ap (λ n. n ∷ []) (omega arith))
    by_block false t = rw t refl
places-push block at (j ∷ ks) k = by_block (j.block == block) refl (places-push block (at + 1) ks k ∙ ap (λ n. places_from block (at + 1) ks ++ (if k.block == block then n ∷ [] else [])) (omega arith))
  where
    by_block : (same : Bool) → (j.block == block) ≡ same
        → places_from block (at + 1) (ks ++ k ∷ []) ≡ places_from block (at + 1) ks ++ (if k.block == block then (at + suc (length ks)) ∷ [] else [])
        → places_from block at ((j ∷ ks) ++ k ∷ []) ≡ places_from block at (j ∷ ks) ++ (if k.block == block then (at + suc (length ks)) ∷ [] else [])
    by_block true t e = rw t (ap (λ l. at ∷ l) e)
    by_block false t e = rw t e

-- what stands at the place of a number
pub record PlaceIs (block at : ℕ) (ks : List BlockInfoDefinition) (number place : ℕ) : Type 0 where
  pub block_info : BlockInfoDefinition
  pub behind : at ≤ place
  pub there : slice_get ks (place - at) ≡ Some block_info
  pub is : slice_get (block_info_for block ks) number ≡ Some block_info.definition

some_is : (a b : ℕ) → (let r : Option ℕ = Some a in r) ≡ Some b → a ≡ b
some_is a b e = cc

next_place : (block at : ℕ) (j : BlockInfoDefinition) (ks : List BlockInfoDefinition) (number later place : ℕ) → PlaceIs block (at + 1) ks number place
    → slice_get (block_info_for block (j ∷ ks)) later ≡ slice_get (block_info_for block ks) number → PlaceIs block at (j ∷ ks) later place
next_place block at j ks number later place h same =
    let one : place - at ≡ suc (place - (at + 1)) = omega (arith, h.behind) in
    record {
      block_info = h.block_info;
      behind = omega (arith, h.behind);
      there = ap (slice_get (j ∷ ks)) one ∙ h.there;
      is = same ∙ h.is;
    }

pub place-is : (block at : ℕ) (ks : List BlockInfoDefinition) (number place : ℕ) → slice_get (places_from block at ks) number ≡ Some place → PlaceIs block at ks number place
place-is block at [] number place e = absurd cc
place-is block at (j ∷ ks) number place e = by_block (j.block == block) refl (λ n. place-is block (at + 1) ks n place) number e
  where
    by_block : (same : Bool) → (j.block == block) ≡ same → ((n : ℕ) → slice_get (places_from block (at + 1) ks) n ≡ Some place → PlaceIs block (at + 1) ks n place)
        → (n : ℕ) → slice_get (places_from block at (j ∷ ks)) n ≡ Some place → PlaceIs block at (j ∷ ks) n place
    by_block true t more zero e =
        let here : at ≡ place = some_is at place (rw t at e) in
        record {
          block_info = j;
          behind = omega (arith, here);
          there = ap (slice_get (j ∷ ks)) (let z : place - at ≡ 0 = omega (arith, here) in z);
          is = rw t refl;
        }
    by_block true t more (suc n) e = next_place block at j ks n (suc n) place (more n (rw t at e)) (rw t refl)
    by_block false t more n e = next_place block at j ks n n place (more n (rw t at e)) (rw t refl)

pub place-none : (block at : ℕ) (ks : List BlockInfoDefinition) (number : ℕ) → slice_get (places_from block at ks) number ≡ None → slice_get (block_info_for block ks) number ≡ None
place-none block at ks number e = none_at (places_from block at ks) (block_info_for block ks) number (places-count block at ks) e
  where
    none_at : (xs : List ℕ) (ys : List (List AbbrevOp)) (n : ℕ) → length xs ≡ length ys → slice_get xs n ≡ None → slice_get ys n ≡ None
    none_at [] [] n long e = refl
    none_at [] (y ∷ ys) n long e = absurd (omega (arith, long))
    none_at (x ∷ xs) [] n long e = refl
    none_at (x ∷ xs) (y ∷ ys) zero long e = absurd cc
    none_at (x ∷ xs) (y ∷ ys) (suc n) long e = none_at xs ys n (omega (arith, long)) e

eqb_swap : (a b : ℕ) → (a == b) ≡ (b == a)
eqb_swap a b = grind arith

-- the places of a block behind a definition more
pub places-more : (b block place : ℕ) (old new : List ℕ) (ks more : List BlockInfoDefinition) (ops : List AbbrevOp) → new ≡ old ++ (if b == block then place ∷ [] else []) → old ≡ places_from b 0 ks
    → place ≡ length ks → more ≡ ks ++ record { block = block; definition = ops } ∷ [] → new ≡ places_from b 0 more
places-more b block place old new ks more ops new-is old-is place-is more-is =
    let at : place ≡ 0 + length ks = omega (arith, place-is) in
    new-is ∙ ap (λ l. l ++ (if b == block then place ∷ [] else [])) old-is ∙ ap (λ test. places_from b 0 ks ++ (if test then place ∷ [] else [])) (eqb_swap b block)
    ∙ ap (λ n. places_from b 0 ks ++ (if block == b then n ∷ [] else [])) at ∙ sym (places-push b 0 ks (record { block = block; definition = ops })) ∙ ap (places_from b 0) (sym more-is)

-- the definition of a number is the one at its place
pub found-within : (block : ℕ) (ks : List BlockInfoDefinition) (number place : ℕ) → slice_get (places_from block 0 ks) number ≡ Some place → place < length ks
found-within block ks number place e =
    let h = place-is block 0 ks number place e in
    omega (arith, slice_get_within ks (place - 0) h.block_info h.there)

pub found-is : (block : ℕ) (ks : List BlockInfoDefinition) (number place : ℕ) (k : BlockInfoDefinition) → slice_get (places_from block 0 ks) number ≡ Some place → k ≡ get_or ks place k
    → slice_get (block_info_for block ks) number ≡ Some k.definition
found-is block ks number place k e at =
    let h = place-is block 0 ks number place e in
    let here : place ≡ place - 0 = omega arith in
    let same : k ≡ h.block_info = at ∙ get_or_from_slice_get ks place h.block_info k (ap (slice_get ks) here ∙ h.there) in
    h.is ∙ ap (λ j. Some j.definition) (sym same)
