-- Texts in byte order that begin with one word and a path stand by path.
use Rattle.std.proofs.Common.{◌≡◌, ◌∙◌, ◌++◌, ◌+◌, ◌-◌, IsTrue, ℕ, Bool, true, false, not, cond, List, [], ◌∷◌, length, take, drop, All, get_or, refl, sym, ap, subst, suc, arith, codes, nat_cmp, take-append-drop, append_assoc}
use Rattle.std.specs.List.{before_first, after_first, position_or_len, list_all}
use Rattle.std.specs.List.Sorted.{IsPermutation, IsSorted}
use Rattle.std.specs.Ordering.{is_lt, is_eq, ordering_then}
use Rattle.std.specs.Cmp.{eq_by_cmp_equiv, nat_cmp_total}
use Rattle.std.specs.Cmp.Lexicographic.{slice_cmp, same_text}
use Rattle.std.specs.declared.cmp.Ordering.{Ordering}
use Rattle.std.specs.declared.cmp.Ordering.TheVariants.{Less, Equal, Greater}
use Rattle.std.proofs.lemmas.Bool.{and_parts}
use Rattle.std.proofs.lemmas.Bool.Decides.{nat_tests}
use Rattle.std.proofs.lemmas.List.Sorted.{All-permutation}
use Rattle.drv_outside.specs.Plain.{is_path_byte, is_plain_path}
use Rattle.module_merge.specs.Lines.{is_line_feed, has_ended_lines, first_line, begins_with, is_heading, is_headed}
use Rattle.module_merge.specs.Object.{is_object, are_object_lines}
use Rattle.module_merge.specs.ByPath.{path_after, IsByPath}
use Rattle.module_merge.proofs.LineLemmas.{ends, feed_is}
use Rattle.module_merge.proofs.PathLemmas.{path_bytes}

abbrev order : List ℕ → List ℕ → Ordering
order = slice_cmp nat_cmp

-- a line feed is below each byte of a path
below_path_byte : (y : ℕ) → is_path_byte y ≡ true → nat_cmp 10 y ≡ Less
below_path_byte y h = grind (arith, nat_tests)

less_then : (r : Ordering) (a b : Ordering) → ordering_then r a ≡ Less → (r ≡ Equal → a ≡ Less → b ≡ Less) → ordering_then r b ≡ Less
less_then Less a b h f = refl
less_then Equal a b h f = f refl h
less_then Greater a b h f = h

-- What goes on after a lesser path is less, whatever it is.
lesser_path : (p q r s : List ℕ) → list_all is_path_byte q ≡ true → order p q ≡ Less → order (p ++ 10 ∷ r) (q ++ 10 ∷ s) ≡ Less
lesser_path [] [] r s h e = cc
lesser_path [] (y ∷ q) r s h e = ap (λ o. ordering_then o (order r (q ++ 10 ∷ s))) (below_path_byte y (and_parts _ _ h).0)
lesser_path (x ∷ p) [] r s h e = cc
lesser_path (x ∷ p) (y ∷ q) r s h e = less_then (nat_cmp x y) (order p q) (order (p ++ 10 ∷ r) (q ++ 10 ∷ s)) e (λ same less. lesser_path p q r s (and_parts (is_path_byte y) _ h).1 less)

equal_bytes : (x : ℕ) → nat_cmp x x ≡ Equal
equal_bytes x = equal (nat_cmp x x) ((eq_by_cmp_equiv nat_cmp_total).refl x)
  where
    equal : (r : Ordering) → is_eq r ≡ true → r ≡ Equal
    equal Less e = cc
    equal Equal e = refl
    equal Greater e = cc

after_word : (w a b : List ℕ) → order (w ++ a) (w ++ b) ≡ order a b
after_word [] a b = refl
after_word (x ∷ w) a b = ap (λ r. ordering_then r (order (w ++ a) (w ++ b))) (equal_bytes x) ∙ after_word w a b

cut_step : (feed : Bool) (b n : ℕ) (rest : List ℕ) → is_line_feed b ≡ feed → rest ≡ take n rest ++ 10 ∷ drop (n + 1) rest
    → b ∷ rest ≡ take (cond (not feed) (1 + n) 0) (b ∷ rest) ++ 10 ∷ drop (cond (not feed) (1 + n) 0 + 1) (b ∷ rest)
cut_step true b n rest e h = ap (λ x. x ∷ rest) (feed_is b e)
cut_step false b n rest e h =
    let more : (1 + n) + 1 ≡ suc (n + 1) = omega arith in
    let one : 1 + n ≡ suc n = omega arith in
    rw (more, one) (ap (λ t. b ∷ t) h)

first_cut : (start : List ℕ) → start ++ 10 ∷ [] ≡ before_first is_line_feed (start ++ 10 ∷ []) ++ 10 ∷ after_first is_line_feed (start ++ 10 ∷ [])
first_cut [] = refl
first_cut (b ∷ start) = cut_step (is_line_feed b) b (position_or_len is_line_feed (start ++ 10 ∷ [])) (start ++ 10 ∷ []) refl (first_cut start)

-- the first line, its line feed, and the rest
cut : (text : List ℕ) → has_ended_lines text ≡ true → text ≡ first_line text ++ 10 ∷ after_first is_line_feed text
cut text h =
    let P : List ℕ → Type 0 = λ t. t ≡ first_line t ++ 10 ∷ after_first is_line_feed t in
    subst P (sym (ends text h)) (first_cut (take (length text - 1) text))

heading : (word line : List ℕ) → is_heading word line ≡ true → line ≡ word ++ drop (length word) line
heading word line h =
    let same : take (length word) line ≡ word = same_text _ _ (sym (and_parts (begins_with line word) _ h).0) in
    sym (take-append-drop (length word) line) ∙ ap (λ w. w ++ drop (length word) line) same

-- a text begins with the word, a path and a line feed
parts : (word text : List ℕ) → is_headed word text ≡ true → text ≡ word ++ (path_after word text ++ 10 ∷ after_first is_line_feed text)
parts word text h =
    cut text (and_parts (has_ended_lines text) _ h).0
    ∙ ap (λ line. line ++ 10 ∷ after_first is_line_feed text) (heading word (first_line text) (and_parts (has_ended_lines text) _ h).1)
    ∙ append_assoc word (path_after word text) (10 ∷ after_first is_line_feed text)

plain_path : (word text : List ℕ) → is_headed word text ≡ true → is_plain_path (path_after word text) ≡ true
plain_path word text h = (and_parts (begins_with (first_line text) word) _ (and_parts (has_ended_lines text) _ h).1).1

less_by_path : (word a b : List ℕ) → is_headed word a ≡ true → is_headed word b ≡ true → order (path_after word a) (path_after word b) ≡ Less → order a b ≡ Less
less_by_path word a b h k e =
    let ra = after_first is_line_feed a in
    let rb = after_first is_line_feed b in
    (λ i. order (parts word a h i) (parts word b k i))
    ∙ after_word word (path_after word a ++ 10 ∷ ra) (path_after word b ++ 10 ∷ rb)
    ∙ lesser_path (path_after word a) (path_after word b) ra rb (path_bytes (path_after word b) (plain_path word b k)) e

not_less : (word a b : List ℕ) → is_headed word a ≡ true → is_headed word b ≡ true → is_lt (order a b) ≡ false → is_lt (order (path_after word a) (path_after word b)) ≡ false
not_less word a b h k e = by (order (path_after word a) (path_after word b)) refl
  where
    by : (r : Ordering) → order (path_after word a) (path_after word b) ≡ r → is_lt r ≡ false
    by Less s = sym (ap is_lt (less_by_path word a b h k s)) ∙ e
    by Equal s = refl
    by Greater s = refl

-- Texts of one word that ascend stand by path.
pub sorted_by_path : (word : List ℕ) (texts ordered : List (List ℕ)) → All (λ text. IsTrue (is_headed word text)) texts → IsPermutation texts ordered → IsSorted order ordered → IsByPath word texts ordered
sorted_by_path word texts ordered all moved up =
    let each = All-permutation (λ text. IsTrue (is_headed word text)) texts ordered moved all in
    (moved, (λ k d low high. not_less word (get_or ordered (k + 1) d) (get_or ordered k d) (each (k + 1) d high) (each k d (omega (arith, high))) (up k d low high)), up)

-- Object texts that ascend stand by path.
pub objects_by_path : (objects ordered : List (List ℕ)) → All (λ object. IsTrue (is_object object)) objects → IsPermutation objects ordered → IsSorted order ordered → IsByPath (codes "object ") objects ordered
objects_by_path objects ordered all = sorted_by_path (codes "object ") objects ordered (λ k d h. (and_parts (is_headed (codes "object ") (get_or objects k d)) (are_object_lines (get_or objects k d)) (all k d h)).0)
