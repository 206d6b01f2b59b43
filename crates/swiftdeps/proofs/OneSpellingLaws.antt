-- File graphs have one written spelling.
use Rattle.std.proofs.Common.{◌≡◌, ◌∙◌, ◌+◌, ◌*◌, ◌<◌, ◌⊎◌, inl, inr, zero, ℕ, Bool, true, false, List, [], ◌∷◌, ◌++◌, length, take, drop, get_or, suc, refl, sym, ap, subst, arith, nat_cmp}
use Rattle.std.specs.List.{AllByRecursion, Contains, flat_map}
use Rattle.std.specs.List.Sorted.{IsStrictlySortedBy}
use Rattle.std.specs.Prelude.{IsTrue}
use Rattle.std.specs.Cmp.Lexicographic.{slice_cmp, nat_list_cmp_total, same_text, texts_ties}
use Rattle.std.specs.declared.cmp.Ordering.{Ordering}
use Rattle.std.specs.declared.cmp.Ordering.TheVariants.{Less, Equal, Greater}
use Rattle.std.specs.Ordering.{ordering_reverse}
use Rattle.std.proofs.lemmas.Map.Keys.{sorted_head, sorted_tail}
use Rattle.bitstream.specs.Bits.{bits_of, byte_bits, value}
use Rattle.bitstream.specs.Entries.{end_bits}
use Rattle.bitstream.specs.Writer.{Writing, EndsBlock}
use Rattle.std.proofs.lemmas.List.{length-append}
use Rattle.bitstream.proofs.BitLaws.{byte-value, length-bits_of}
use Rattle.bitstream.proofs.StreamLaws.{take-byte, drop-byte}
use Rattle.dep_key.specs.declared.graph.FileGraph.{FileGraph}
use Rattle.swiftdeps.specs.declared.codes.TheConstants.{SIGNATURE}
use Rattle.swiftdeps.specs.Spelling.{AreAscendingTexts}
use Rattle.swiftdeps.specs.Written.{AreNamesOf, IsByte, IsStream, IsWritten, begun_block, records, with_items}

pub all_bytes : (xs : List ℕ) → ((i : ℕ) → get_or xs i 0 < 256) → AllByRecursion IsByte xs
all_bytes [] h = tt
all_bytes (x ∷ xs) h = (h 0, all_bytes xs (λ i. h (suc i)))

-- ---- bytes of the same bits are the same

none_of : (x : ℕ) (xs : List ℕ) → bits_of (x ∷ xs) ≡ [] → ⊥
none_of x xs e = let eight : length (bits_of (x ∷ xs)) ≡ 8 * (1 + length xs) = length-bits_of (x ∷ xs) ∙ more (length xs) in let none : length (bits_of (x ∷ xs)) ≡ 0 = ap length e in omega (arith, eight, none)
  where
    more : (n : ℕ) → 8 * suc n ≡ 8 * (1 + n)
    more n = omega arith

same_bytes : (xs ys : List ℕ) → AllByRecursion IsByte xs → AllByRecursion IsByte ys → bits_of xs ≡ bits_of ys → xs ≡ ys
same_bytes [] [] p q e = refl
same_bytes [] (y ∷ ys) p q e = absurd (none_of y ys (sym e))
same_bytes (x ∷ xs) [] p q e = absurd (none_of x xs e)
same_bytes (x ∷ xs) (y ∷ ys) p q e =
    let first : byte_bits x ≡ byte_bits y = sym (take-byte x (bits_of xs)) ∙ ap (take 8) e ∙ take-byte y (bits_of ys) in
    let rest : bits_of xs ≡ bits_of ys = sym (drop-byte x (bits_of xs)) ∙ ap (drop 8) e ∙ drop-byte y (bits_of ys) in
    let same : x ≡ y = sym (byte-value x p.0) ∙ ap value first ∙ byte-value y q.0 in
    (λ i. same i ∷ same_bytes xs ys p.1 q.1 rest i)

-- ---- ascending texts of the same members are the same

abbrev order : List ℕ → List ℕ → Ordering
order = slice_cmp nat_cmp

-- a text is one of these
abbrev In : List ℕ → List (List ℕ) → Type 0
In x [] = ⊥
In x (y ∷ ys) = (x ≡ y) ⊎ In x ys

in_list : (xs : List (List ℕ)) (x : List ℕ) (k : ℕ) → k < length xs → get_or xs k x ≡ x → In x xs
in_list [] x k low e = absurd (omega (arith, low))
in_list (y ∷ ys) x zero low e = inl (sym e)
in_list (y ∷ ys) x (suc k) low e = inr (in_list ys x k (omega (arith, low)) e)

contained : (xs : List (List ℕ)) (x : List ℕ) → In x xs → Contains xs x
contained [] x has = absurd has
contained (y ∷ ys) x (inl e) = (0, omega arith, sym e)
contained (y ∷ ys) x (inr has) = let rest = contained ys x has in (suc rest.0, omega (arith, rest.1), rest.2)

above : (x y : List ℕ) (xs : List (List ℕ)) → AllByRecursion (λ z. order y z ≡ Less) xs → In x xs → order y x ≡ Less
above x y [] all has = absurd has
above x y (z ∷ xs) all (inl e) = subst (λ w. order y w ≡ Less) (sym e) all.0
above x y (z ∷ xs) all (inr has) = above x y xs all.1 has

never_both : (x y : List ℕ) → order y x ≡ Less → order x y ≡ Less → ⊥
never_both x y e f = let more : order y x ≡ Greater = nat_list_cmp_total.antisymm y x ∙ ap ordering_reverse f in let same : Less ≡ Greater = sym e ∙ more in cc

first_is : (x y : List ℕ) (xs ys : List (List ℕ)) → AllByRecursion (λ z. order x z ≡ Less) xs → AllByRecursion (λ z. order y z ≡ Less) ys → In x (y ∷ ys) → In y (x ∷ xs) → x ≡ y
first_is x y xs ys up rise (inl e) back = e
first_is x y xs ys up rise (inr has) (inl e) = sym e
first_is x y xs ys up rise (inr has) (inr also) = absurd (never_both x y (above x y ys rise has) (above y x xs up also))

rest_in : (z x y : List ℕ) (xs ys : List (List ℕ)) → AllByRecursion (λ z. order x z ≡ Less) xs → x ≡ y → In z xs → In z (y ∷ ys) → In z ys
rest_in z x y xs ys up same has (inl e) = absurd (let less : order x x ≡ Less = ap (order x) (same ∙ sym e) ∙ above z x xs up has in never_both x x less less)
rest_in z x y xs ys up same has (inr also) = also

same_texts : (xs ys : List (List ℕ)) → AreAscendingTexts xs → AreAscendingTexts ys → ((z : List ℕ) → In z xs → In z ys) → ((z : List ℕ) → In z ys → In z xs) → xs ≡ ys
same_texts [] [] up rise to back = refl
same_texts [] (y ∷ ys) up rise to back = absurd (back y (inl refl))
same_texts (x ∷ xs) [] up rise to back = absurd (to x (inl refl))
same_texts (x ∷ xs) (y ∷ ys) up rise to back =
    let first : x ≡ y = first_is x y xs ys (sorted_head order x xs up) (sorted_head order y ys rise) (to x (inl refl)) (back y (inl refl)) in
    let rest : xs ≡ ys = same_texts xs ys (sorted_tail order x xs up) (sorted_tail order y ys rise)
    (λ z has. rest_in z x y xs ys (sorted_head order x xs up) first has (to z (inr has)))
    (λ z has. rest_in z y x ys xs (sorted_head order y ys rise) (sym first) has (back z (inr has))) in
    (λ i. first i ∷ rest i)

names_in : (files : List FileGraph) (n m : List (List ℕ)) → AreNamesOf files n → AreNamesOf files m → (z : List ℕ) → In z n → In z m
names_in files n m p q z has =
    let mine = p.in_use z (contained n z has) in
    let found = q.all z mine.0 mine.1 in
    in_list m z found.0 found.1 found.2

same_names : (files : List FileGraph) (n m : List (List ℕ)) → AreNamesOf files n → AreNamesOf files m → n ≡ m
same_names files n m p q = same_texts n m p.ascending q.ascending (names_in files n m p q) (names_in files m n q p)

-- ---- one end

only_one : {X : Type 0} (b x : X) (xs : List X) → b ∷ [] ≡ xs ++ x ∷ [] → (xs ≡ []) × (x ≡ b)
only_one b x [] e = (refl, let same : b ∷ [] ≡ x ∷ [] = e in cc)
only_one b x (y ∷ xs) e = absurd (let count : suc zero ≡ suc (length (xs ++ x ∷ [])) = ap length e in let more = length-append xs (x ∷ []) in omega (arith, count, more))

-- the one block that is open ends in one way
same_end : (s e f : Writing) (p : EndsBlock s e) (q : EndsBlock s f) → p.outer ≡ q.outer → p.block ≡ q.block → e ≡ f
same_end s e f p q outer block =
    p.left
    ∙ (λ i. record {
      bits = end_bits s.width (8 * (block i).length_at) s.bits;
      width = (block i).outer_width;
      abbrevs = take s.first s.abbrevs;
      first = (block i).outer_first;
      blocks = outer i;
    })
    ∙ sym q.left

-- ---- one spelling

same_stream : (version : ℕ) (files : List FileGraph) (a b : List ℕ) → IsStream version files a → IsStream version files b → a ≡ b
same_stream version files a b p q =
    let names : p.names ≡ q.names = same_names files p.names q.names p.are_names q.are_names in
    let block : EndsBlock (with_items (records version q.names files) begun_block) p.ended = subst (λ ns. EndsBlock (with_items (records version ns files) begun_block) p.ended) names p.block in
    let one = only_one _ block.block block.outer block.innermost in
    let other = only_one _ q.block.block q.block.outer q.block.innermost in
    let ended : p.ended ≡ q.ended = same_end (with_items (records version q.names files) begun_block) p.ended q.ended block q.block (one.0 ∙ sym other.0) (one.1 ∙ sym other.1) in
    same_bytes a b p.bytes q.bytes (p.bits ∙ ap (λ (w : Writing). w.bits) ended ∙ sym q.bits)

pub one_written : (version : ℕ) (files : List FileGraph) (a b : List ℕ) → IsWritten version files a → IsWritten version files b → a ≡ b
one_written version files a b p q = p.signed ∙ ap (λ s. SIGNATURE ++ s) (same_stream version files p.stream q.stream p.is_stream q.is_stream) ∙ sym q.signed
