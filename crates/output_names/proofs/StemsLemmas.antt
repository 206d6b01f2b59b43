-- The stem of a plain path, and the names that begin with it.
use Rattle.std.proofs.Common.{◌≡◌, ◌∙◌, ◌+◌, ◌-◌, ◌≤◌, ◌<◌, ℕ, Bool, true, false, not, cond, List, [], ◌∷◌, ◌++◌, map, length, take, drop, get_or, codes, refl, sym, ap, subst, arith, nat_eq, zero, suc, inl, inr}
use Rattle.std.specs.Prelude.{◌&&◌, ◌==◌, nat_le}
use Rattle.std.specs.List.{list_all, ends_with, starts_with}
use Rattle.std.specs.Str.{IsAscii, IsUtf8}
use Rattle.std.specs.Cmp.Lexicographic.{pointwise}
use Rattle.std.proofs.lemmas.Bool.{and_parts, and_from, cases_order}
use Rattle.std.proofs.lemmas.Bool.Decides.{nat_tests, Decides-eqb}
use Rattle.std.proofs.lemmas.Grind.{common_steps}
use Rattle.std.proofs.lemmas.List.{length-drop, length-take-le, length-map, length-append}
use Rattle.std.proofs.lemmas.List.Folds.{list_all-append}
use Rattle.std.proofs.lemmas.Slice.Eq.{ends_is}
use Rattle.std.proofs.lemmas.Str.{IsUtf8-from_ascii}
use Rattle.std.proofs.lemmas.Str.Ascii.{IsAscii-nil, IsAscii-cons}
use Rattle.drv_outside.specs.Plain.{is_name_byte, is_path_byte, is_plain_name, is_plain_path, swift_ending, full_stop}
use Rattle.output_names.specs.Stems.{without_slash, stem_of, object_name}

-- what two lists share in length, where they are equal element by element
pointwise_long : (xs ys : List ℕ) → pointwise nat_eq xs ys ≡ true → length xs ≤ length ys
pointwise_long [] ys h = omega arith
pointwise_long (x ∷ xs) [] h = cc
pointwise_long (x ∷ xs) (y ∷ ys) h = let rest : length xs ≤ length ys = pointwise_long xs ys (and_parts (nat_eq x y) _ h).1 in omega arith

-- the parts of a plain path
ends_in_swift : (path : List ℕ) → is_plain_path path ≡ true → ends_with nat_eq path swift_ending ≡ true
ends_in_swift path h = (and_parts _ _ (and_parts _ _ (and_parts _ _ (and_parts _ _ h).0).0).0).1

path_bytes : (path : List ℕ) → is_plain_path path ≡ true → list_all is_path_byte path ≡ true
path_bytes path h = (and_parts _ _ (and_parts _ _ h).0).1

short_path : (path : List ℕ) → is_plain_path path ≡ true → length path ≤ 200
short_path path h = let test : nat_le (length path) 200 ≡ true = (and_parts _ _ (and_parts _ _ (and_parts _ _ (and_parts _ _ h).0).0).0).0 in grind (arith, nat_tests)

-- A plain path has the bytes of its ending.
pub long_path : (path : List ℕ) → is_plain_path path ≡ true → 6 ≤ length path
long_path path h =
    let long : length swift_ending ≤ length (drop (length path - 6) path) = pointwise_long swift_ending (drop (length path - 6) path) (ends_in_swift path h) in
    let left : length (drop (length path - 6) path) ≡ length path - (length path - 6) = length-drop (length path - 6) path in
    omega (arith, long, left)

-- a byte of a path, with `~` for `/`, is one of a name
name_byte : (c : ℕ) → is_path_byte c ≡ true → is_name_byte (without_slash c) ≡ true
name_byte c h = grind (arith, nat_tests)

name_bytes : (k : ℕ) (path : List ℕ) → list_all is_path_byte path ≡ true → list_all is_name_byte (map without_slash (take k path)) ≡ true
name_bytes zero path h = refl
name_bytes (suc k) [] h = refl
name_bytes (suc k) (c ∷ path) h = and_from _ _ (name_byte c (and_parts _ _ h).0) (name_bytes k path (and_parts _ _ h).1)

-- the stem of a plain path has bytes of names alone
stem_bytes : (path : List ℕ) → is_plain_path path ≡ true → list_all is_name_byte (stem_of path) ≡ true
stem_bytes path h = name_bytes (length path - 6) path (path_bytes path h)

name_byte_ascii : (c : ℕ) → is_name_byte c ≡ true → c < 128
name_byte_ascii c h = grind (arith, nat_tests)

name_ascii : (name : List ℕ) → list_all is_name_byte name ≡ true → IsAscii name
name_ascii [] h = IsAscii-nil
name_ascii (c ∷ name) h = IsAscii-cons c name (name_byte_ascii c (and_parts _ _ h).0) (name_ascii name (and_parts _ _ h).1)

-- The stem of a plain path is UTF-8.
pub stem_is_utf8 : (path : List ℕ) → is_plain_path path ≡ true → IsUtf8 (stem_of path)
stem_is_utf8 path h = IsUtf8-from_ascii (stem_of path) (name_ascii (stem_of path) (stem_bytes path h))

-- the first byte of a path that doesn't begin with a full stop
no_stop : (c : ℕ) (rest : List ℕ) → not (starts_with nat_eq (c ∷ rest) full_stop) ≡ true → nat_eq 46 c ≡ false
no_stop c rest h = grind (arith, common_steps)

first_byte : (c : ℕ) (rest : List ℕ) → is_plain_path (c ∷ rest) ≡ true → nat_eq 46 c ≡ false
first_byte c rest h = no_stop c rest (and_parts (nat_le (length (c ∷ rest)) 200 && ends_with nat_eq (c ∷ rest) swift_ending) _ (and_parts _ _ (and_parts _ _ h).0).0).1

-- a first byte that is no full stop is none with `~` for `/` either
no_stop_name : (c : ℕ) → nat_eq 46 c ≡ false → nat_eq 46 (without_slash c) ≡ false
no_stop_name c h = grind (arith, nat_tests)

-- a path that is its ending alone begins with a full stop
ending_alone : (c : ℕ) (rest : List ℕ) → nat_eq 46 c ≡ false → pointwise nat_eq swift_ending (c ∷ rest) ≡ true → ⊥
ending_alone c rest first h = let same : nat_eq 46 c ≡ true = (and_parts (nat_eq 46 c) _ h).0 in cc

longer : (c : ℕ) (rest : List ℕ) → is_plain_path (c ∷ rest) ≡ true → nat_eq 46 c ≡ false → 6 < length (c ∷ rest)
longer c rest h first =
    elim (cases_order 6 (length (c ∷ rest))) [
      | inl e ↦ absurd (ending_alone c rest first (subst (λ n. pointwise nat_eq swift_ending (drop (n - 6) (c ∷ rest)) ≡ true) (sym e) (ends_in_swift (c ∷ rest) h)))
      | inr d ↦ elim d [
        | inl lt ↦ lt
        | inr gt ↦ absurd (let long : 6 ≤ length (c ∷ rest) = long_path (c ∷ rest) h in omega arith)
      ]
    ]

not_zero : (n : ℕ) → 0 < n → not (nat_eq n 0) ≡ true
not_zero n h = grind (arith, nat_tests)

at_most_255 : (n : ℕ) → n ≤ 255 → nat_le n 255 ≡ true
at_most_255 n h = grind (arith, nat_tests)

-- A filled base of at most 200 bytes and a short ending are a plain name.
pub name_with : (base ending : List ℕ) → list_all is_name_byte base ≡ true → list_all is_name_byte ending ≡ true → 0 < length base → length base ≤ 200 → length ending ≤ 55 → not (starts_with nat_eq (base ++ ending) full_stop) ≡ true → is_plain_name (base ++ ending) ≡ true
name_with base ending b e filled few short first =
    let all : length (base ++ ending) ≡ length base + length ending = length-append base ending in
    and_from _ _ (and_from _ _ (and_from _ _ (not_zero (length (base ++ ending)) (omega arith)) (at_most_255 (length (base ++ ending)) (omega arith))) first) (list_all-append is_name_byte base ending ∙ and_from _ _ b e)

length_stem : (path : List ℕ) → 6 ≤ length path → length (stem_of path) ≡ length path - 6
length_stem path h =
    let stem : length (map without_slash (take (length path - 6) path)) ≡ length (take (length path - 6) path) = length-map (take (length path - 6) path) without_slash in
    let taken : length (take (length path - 6) path) ≡ length path - 6 = length-take-le (length path - 6) path (omega arith) in
    stem ∙ taken

begins_well : (k c : ℕ) (rest more : List ℕ) → nat_eq 46 c ≡ false → 0 < k → not (starts_with nat_eq (map without_slash (take k (c ∷ rest)) ++ more) full_stop) ≡ true
begins_well zero c rest more first h = absurd (omega arith)
begins_well (suc k) c rest more first h = rw (no_stop_name c first) refl

-- The stem of a plain path and a short ending are a plain name.
pub stem_name_plain : (path ending : List ℕ) → is_plain_path path ≡ true → list_all is_name_byte ending ≡ true → length ending ≤ 55 → is_plain_name (stem_of path ++ ending) ≡ true
stem_name_plain [] ending h e short = absurd (let long : 6 ≤ 0 = long_path [] h in omega arith)
stem_name_plain (c ∷ rest) ending h e short =
    let path = c ∷ rest in
    let first : nat_eq 46 c ≡ false = first_byte c rest h in
    let more : 6 < length path = longer c rest h first in
    let few : length path ≤ 200 = short_path path h in
    let long : length (stem_of path) ≡ length path - 6 = length_stem path (omega arith) in
    name_with (stem_of path) ending (stem_bytes path h) e (omega arith) (omega arith) short (begins_well (length path - 6) c rest ending first (omega arith))

-- The name of a plain path's object is plain.
pub object_name_plain : (path : List ℕ) → is_plain_path path ≡ true → is_plain_name (object_name path) ≡ true
object_name_plain path h = stem_name_plain path (codes ".o") h refl (omega arith)

no_tilde : (c : ℕ) → is_path_byte c ≡ true → c ≡ 126 → ⊥
no_tilde c h e = let f : is_path_byte 126 ≡ true = subst (λ d. is_path_byte d ≡ true) e h in cc

same_if : (c d : ℕ) (x y : Bool) → (c == 47) ≡ x → (d == 47) ≡ y → (c ≡ 126 → ⊥) → (d ≡ 126 → ⊥) → cond x 126 c ≡ cond y 126 d → c ≡ d
same_if c d true true e f h k same = grind (arith, nat_tests)
same_if c d true false e f h k same = absurd (k (sym same))
same_if c d false true e f h k same = absurd (h same)
same_if c d false false e f h k same = same

same_byte : (c d : ℕ) → is_path_byte c ≡ true → is_path_byte d ≡ true → without_slash c ≡ without_slash d → c ≡ d
same_byte c d h k e = same_if c d _ _ refl refl (no_tilde c h) (no_tilde d k) e

same_bytes : (xs ys : List ℕ) → list_all is_path_byte xs ≡ true → list_all is_path_byte ys ≡ true → map without_slash xs ≡ map without_slash ys → xs ≡ ys
same_bytes [] [] h k e = refl
same_bytes [] (d ∷ ys) h k e = cc
same_bytes (c ∷ xs) [] h k e = cc
same_bytes (c ∷ xs) (d ∷ ys) h k e =
    let first : without_slash c ≡ without_slash d = ap (λ zs. get_or zs 0 0) e in
    let rest : map without_slash xs ≡ map without_slash ys = ap tail e in
    λ i. same_byte c d (and_parts _ _ h).0 (and_parts _ _ k).0 first i ∷ same_bytes xs ys (and_parts (is_path_byte c) _ h).1 (and_parts (is_path_byte d) _ k).1 rest i
  where
    tail : List ℕ → List ℕ
    tail [] = []
    tail (x ∷ xs) = xs

taken_bytes : (k : ℕ) (xs : List ℕ) → list_all is_path_byte xs ≡ true → list_all is_path_byte (take k xs) ≡ true
taken_bytes zero xs h = refl
taken_bytes (suc k) [] h = refl
taken_bytes (suc k) (c ∷ xs) h = and_from _ _ (and_parts _ _ h).0 (taken_bytes k xs (and_parts (is_path_byte c) _ h).1)

path_whole : (p : List ℕ) → is_plain_path p ≡ true → p ≡ take (length p - 6) p ++ swift_ending
path_whole p h = (ends_is Decides-eqb p swift_ending (ends_with nat_eq p swift_ending) refl).0 (ends_in_swift p h)

-- Two plain paths with one stem are one.
pub same_path : (p q : List ℕ) → is_plain_path p ≡ true → is_plain_path q ≡ true → stem_of p ≡ stem_of q → p ≡ q
same_path p q h k e =
    let same : take (length p - 6) p ≡ take (length q - 6) q = same_bytes (take (length p - 6) p) (take (length q - 6) q) (taken_bytes (length p - 6) p (path_bytes p h)) (taken_bytes (length q - 6) q (path_bytes q k)) e in
    path_whole p h ∙ ap (λ s. s ++ swift_ending) same ∙ sym (path_whole q k)
