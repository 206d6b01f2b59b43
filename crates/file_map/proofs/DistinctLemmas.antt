-- Default names never meet.
use Rattle.std.proofs.Common.{◌≡◌, ◌∙◌, ◌+◌, ◌-◌, ◌≤◌, IsTrue, ℕ, Bool, true, false, cond, List, [], ◌∷◌, ◌++◌, map as each, reverse, get_or, codes, refl, sym, ap, subst, arith, nat_eq, nat_cmp, suc, All}
use Rattle.std.specs.List.{list_all, AllByRecursion}
use Rattle.std.specs.List.Sorted.{IsStrictlySortedBy}
use Rattle.std.specs.Ordering.{is_eq, eq_by_cmp}
use Rattle.std.specs.Cmp.{eq_by_cmp_equiv}
use Rattle.std.specs.Cmp.Lexicographic.{slice_cmp, nat_list_cmp_total, same_text, texts_ties}
use Rattle.std.specs.declared.cmp.Ordering.{Ordering}
use Rattle.std.specs.declared.cmp.Ordering.TheVariants.{Less}
use Rattle.std.proofs.lemmas.Bool.{and_parts}
use Rattle.std.proofs.lemmas.Bool.Decides.{nat_tests}
use Rattle.std.proofs.lemmas.List.{append_cancel_right, append_assoc, reverse-append}
use Rattle.std.proofs.lemmas.List.Folds.{list_all-append}
use Rattle.std.proofs.lemmas.List.Sums.{sum_by-cons}
use Rattle.std.proofs.lemmas.Map.Keys.{sorted_head, sorted_tail}
use Rattle.ordered_lists.specs.Repeats.{times, HasNoRepeat}
use Rattle.swift_token.specs.Texts.{is_word_byte}
use Rattle.drv_outside.specs.Plain.{is_plain_path}
use Rattle.drv_outside.specs.declared.faults.MapFault.{MapFault}
use Rattle.serde_json.specs.Data.{Members, no_members}
use Rattle.output_names.specs.Stems.{stem_of}
use Rattle.output_names.specs.ModuleNames.{is_module_name}
use Rattle.output_names.proofs.StemsLemmas.{same_path}
use Rattle.output_names.proofs.ModuleNamesLemmas.{word_bytes}
use Rattle.file_map.specs.Assigned.{names_for, all_names}
use Rattle.file_map.specs.Repeated.{IsRepeatOf}

abbrev order : List ℕ → List ℕ → Ordering
order = slice_cmp nat_cmp

abbrev IsOther : List ℕ → List ℕ → Type 0
IsOther x y = x ≡ y → ⊥

-- each element is another than those after it
abbrev AreOthers : List (List ℕ) → Type 0
AreOthers [] = Unit {0}
AreOthers (x ∷ xs) = AllByRecursion (IsOther x) xs × AreOthers xs

tied : (q x : List ℕ) → eq_by_cmp order q x ≡ true → q ≡ x
tied q x e = same_text q x (sym (texts_ties q x ∙ e))

abbrev one_if : Bool → ℕ
one_if b = cond b 1 0

times_more : (q x : List ℕ) (xs : List (List ℕ)) → times order q (x ∷ xs) ≡ one_if (eq_by_cmp order q x) + times order q xs
times_more q x xs = sum_by-cons (λ a. one_if (eq_by_cmp order q a)) x xs

none_more : (b : Bool) (n m : ℕ) → m ≡ one_if b + n → b ≡ false → n ≡ 0 → m ≡ 0
none_more true n m e f h = cc
none_more false n m e f h = let sum : m ≡ 0 + n = e in omega (arith, sum, h)

none_tied : (q x : List ℕ) (xs : List (List ℕ)) → q ≡ x → AllByRecursion (IsOther x) xs → times order q xs ≡ 0
none_tied q x [] e h = refl
none_tied q x (y ∷ ys) e h = none_more (eq_by_cmp order q y) (times order q ys) (times order q (y ∷ ys)) (times_more q y ys) (apart (eq_by_cmp order q y) refl) (none_tied q x ys e h.1)
  where
    apart : (b : Bool) → eq_by_cmp order q y ≡ b → b ≡ false
    apart true t = absurd (h.0 (sym e ∙ tied q y t))
    apart false t = refl

at_most_one : (b : Bool) (n m : ℕ) → m ≡ one_if b + n → (b ≡ true → n ≡ 0) → n ≤ 1 → m ≤ 1
at_most_one true n m e f h = let none : n ≡ 0 = f refl in let sum : m ≡ 1 + n = e in omega (arith, sum, none)
at_most_one false n m e f h = let sum : m ≡ 0 + n = e in omega (arith, sum, h)

-- a list of which each element is another than those after it has no element twice
once_each : (xs : List (List ℕ)) → AreOthers xs → HasNoRepeat order xs
once_each [] h q = omega arith
once_each (x ∷ xs) h q = at_most_one (eq_by_cmp order q x) (times order q xs) (times order q (x ∷ xs)) (times_more q x xs) (λ t. none_tied q x xs (tied q x t) h.0) (once_each xs h.1 q)

-- the last bytes of two equal names are equal
ends : (s t e f : List ℕ) → s ++ e ≡ t ++ f → reverse e ++ reverse s ≡ reverse f ++ reverse t
ends s t e f h = sym (reverse-append s e) ∙ ap reverse h ∙ reverse-append t f

abbrev o : List ℕ
o = codes ".o"

abbrev partial_ending : List ℕ
partial_ending = codes "~partial.swiftmodule"

abbrev deps_ending : List ℕ
deps_ending = codes ".swiftdeps"

-- names with endings of other last bytes, or of other bytes before the last
last_apart : (s t e f : List ℕ) (a b : ℕ) → get_or (reverse e ++ reverse s) 0 0 ≡ a → get_or (reverse f ++ reverse t) 0 0 ≡ b → nat_eq a b ≡ false → IsOther (s ++ e) (t ++ f)
last_apart s t e f a b x y apart h = let same : a ≡ b = sym x ∙ ap (λ xs. get_or xs 0 0) (ends s t e f h) ∙ y in differ a b apart same
  where
    differ : (a b : ℕ) → nat_eq a b ≡ false → a ≡ b → ⊥
    differ a b e same = grind (arith, nat_tests)

before_apart : (s t e f : List ℕ) (a b : ℕ) → get_or (reverse e ++ reverse s) 1 0 ≡ a → get_or (reverse f ++ reverse t) 1 0 ≡ b → nat_eq a b ≡ false → IsOther (s ++ e) (t ++ f)
before_apart s t e f a b x y apart h = let same : a ≡ b = sym x ∙ ap (λ xs. get_or xs 1 0) (ends s t e f h) ∙ y in differ a b apart same
  where
    differ : (a b : ℕ) → nat_eq a b ≡ false → a ≡ b → ⊥
    differ a b e same = grind (arith, nat_tests)

-- a text isn't a name of the source at q
record IsNoneOf (q x : List ℕ) : Type 0 where
  object : IsOther x (stem_of q ++ o)
  partial : IsOther x (stem_of q ++ partial_ending)
  deps : IsOther x (stem_of q ++ deps_ending)

-- a text is no name of the module
record IsNoModuleName (name x : List ℕ) : Type 0 where
  text : IsOther x (name ++ codes ".swiftmodule")
  image : IsOther x (name ++ codes ".image")
  priors : IsOther x (name ++ codes ".priors")
  kept : IsOther x (name ++ codes ".record.json")
  gate : IsOther x (name ++ codes ".gate")

no_partial : (s name : List ℕ) → is_module_name name ≡ true → IsOther (s ++ partial_ending) (name ++ codes ".swiftmodule")
no_partial s name m h =
    let base : s ++ codes "~partial" ≡ name = append_cancel_right (s ++ codes "~partial") name (codes ".swiftmodule") (append_assoc s (codes "~partial") (codes ".swiftmodule") ∙ h) in
    let words : list_all is_word_byte (s ++ codes "~partial") ≡ true = ap (list_all is_word_byte) base ∙ word_bytes name m in
    let last : false ≡ true = (and_parts (list_all is_word_byte s) false (sym (list_all-append is_word_byte s (codes "~partial")) ∙ words)).1 in
    cc

object_no_module : (s name : List ℕ) → IsNoModuleName name (s ++ o)
object_no_module s name = record {
  text = last_apart s name o (codes ".swiftmodule") 111 101 refl refl refl;
  image = last_apart s name o (codes ".image") 111 101 refl refl refl;
  priors = last_apart s name o (codes ".priors") 111 115 refl refl refl;
  kept = last_apart s name o (codes ".record.json") 111 110 refl refl refl;
  gate = last_apart s name o (codes ".gate") 111 101 refl refl refl;
}

partial_no_module : (s name : List ℕ) → is_module_name name ≡ true → IsNoModuleName name (s ++ partial_ending)
partial_no_module s name m = record {
  text = no_partial s name m;
  image = before_apart s name partial_ending (codes ".image") 108 103 refl refl refl;
  priors = last_apart s name partial_ending (codes ".priors") 101 115 refl refl refl;
  kept = last_apart s name partial_ending (codes ".record.json") 101 110 refl refl refl;
  gate = before_apart s name partial_ending (codes ".gate") 108 116 refl refl refl;
}

deps_no_module : (s name : List ℕ) → IsNoModuleName name (s ++ deps_ending)
deps_no_module s name = record {
  text = last_apart s name deps_ending (codes ".swiftmodule") 115 101 refl refl refl;
  image = last_apart s name deps_ending (codes ".image") 115 101 refl refl refl;
  priors = before_apart s name deps_ending (codes ".priors") 112 114 refl refl refl;
  kept = last_apart s name deps_ending (codes ".record.json") 115 110 refl refl refl;
  gate = last_apart s name deps_ending (codes ".gate") 115 101 refl refl refl;
}

other_stem : (p q e : List ℕ) → is_plain_path p ≡ true → is_plain_path q ≡ true → IsOther p q → IsOther (stem_of p ++ e) (stem_of q ++ e)
other_stem p q e h k apart same = apart (same_path p q h k (append_cancel_right (stem_of p) (stem_of q) e same))

object_apart : (p q : List ℕ) → is_plain_path p ≡ true → is_plain_path q ≡ true → IsOther p q → IsNoneOf q (stem_of p ++ o)
object_apart p q h k apart = record {
  object = other_stem p q o h k apart;
  partial = last_apart (stem_of p) (stem_of q) o partial_ending 111 101 refl refl refl;
  deps = last_apart (stem_of p) (stem_of q) o deps_ending 111 115 refl refl refl;
}

partial_apart : (p q : List ℕ) → is_plain_path p ≡ true → is_plain_path q ≡ true → IsOther p q → IsNoneOf q (stem_of p ++ partial_ending)
partial_apart p q h k apart = record {
  object = last_apart (stem_of p) (stem_of q) partial_ending o 101 111 refl refl refl;
  partial = other_stem p q partial_ending h k apart;
  deps = last_apart (stem_of p) (stem_of q) partial_ending deps_ending 101 115 refl refl refl;
}

deps_apart : (p q : List ℕ) → is_plain_path p ≡ true → is_plain_path q ≡ true → IsOther p q → IsNoneOf q (stem_of p ++ deps_ending)
deps_apart p q h k apart = record {
  object = last_apart (stem_of p) (stem_of q) deps_ending o 115 111 refl refl refl;
  partial = last_apart (stem_of p) (stem_of q) deps_ending partial_ending 115 101 refl refl refl;
  deps = other_stem p q deps_ending h k apart;
}

-- the default names of sources and of the module
abbrev defaults : List ℕ → List (List ℕ) → List (List ℕ)
defaults name paths = all_names (names_for no_members name paths)

apart_from_all : (name x : List ℕ) (paths : List (List ℕ)) → AllByRecursion (λ q. IsNoneOf q x) paths → IsNoModuleName name x → AllByRecursion (IsOther x) (defaults name paths)
apart_from_all name x [] h m = (m.text, (m.image, (m.priors, (m.kept, (m.gate, tt)))))
apart_from_all name x (q ∷ paths) h m = (h.0.object, (h.0.partial, (h.0.deps, apart_from_all name x paths h.1 m)))

not_itself : (p : List ℕ) → order p p ≡ Less → ⊥
not_itself p e = let f : is_eq Less ≡ true = ap is_eq (sym e) ∙ (eq_by_cmp_equiv nat_list_cmp_total).refl p in cc

other_path : (p q : List ℕ) → order p q ≡ Less → IsOther p q
other_path p q e same = not_itself p (subst (λ r. order p r ≡ Less) (sym same) e)

none_of_each : (p x : List ℕ) (paths : List (List ℕ)) → ((q : List ℕ) → is_plain_path q ≡ true → IsOther p q → IsNoneOf q x) → AllByRecursion (λ q. order p q ≡ Less) paths → All (λ q. IsTrue (is_plain_path q)) paths → AllByRecursion (λ q. IsNoneOf q x) paths
none_of_each p x [] f h all = tt
none_of_each p x (q ∷ paths) f h all = (f q (all 0 q (omega arith)) (other_path p q h.0), none_of_each p x paths f h.1 (λ k d lt. all (suc k) d (omega (arith, lt))))

module_names_apart : (name : List ℕ) → AreOthers (defaults name [])
module_names_apart name = (
  (before_apart name name (codes ".swiftmodule") (codes ".image") 108 103 refl refl refl, (last_apart name name (codes ".swiftmodule") (codes ".priors") 101 115 refl refl refl, (last_apart name name (codes ".swiftmodule") (codes ".record.json") 101 110 refl refl refl, (before_apart name name (codes ".swiftmodule") (codes ".gate") 108 116 refl refl refl, tt)))),
  (
    (last_apart name name (codes ".image") (codes ".priors") 101 115 refl refl refl, (last_apart name name (codes ".image") (codes ".record.json") 101 110 refl refl refl, (before_apart name name (codes ".image") (codes ".gate") 103 116 refl refl refl, tt))),
    (
      (last_apart name name (codes ".priors") (codes ".record.json") 115 110 refl refl refl, (last_apart name name (codes ".priors") (codes ".gate") 115 101 refl refl refl, tt)),
      (
        (last_apart name name (codes ".record.json") (codes ".gate") 110 101 refl refl refl, tt),
        (tt, tt),
      ),
    ),
  ),
)

defaults_apart : (name : List ℕ) (paths : List (List ℕ)) → is_module_name name ≡ true → All (λ p. IsTrue (is_plain_path p)) paths → IsStrictlySortedBy order paths → AreOthers (defaults name paths)
defaults_apart name [] m all up = module_names_apart name
defaults_apart name (p ∷ paths) m all up =
    let plain : is_plain_path p ≡ true = all 0 p (omega arith) in
    let rest : All (λ p. IsTrue (is_plain_path p)) paths = λ k d lt. all (suc k) d (omega (arith, lt)) in
    let above = sorted_head order p paths up in
    let s = stem_of p in
    let object = apart_from_all name (s ++ o) paths (none_of_each p (s ++ o) paths (λ q k apart. object_apart p q plain k apart) above rest) (object_no_module s name) in
    let partial = apart_from_all name (s ++ partial_ending) paths (none_of_each p (s ++ partial_ending) paths (λ q k apart. partial_apart p q plain k apart) above rest) (partial_no_module s name m) in
    let deps = apart_from_all name (s ++ deps_ending) paths (none_of_each p (s ++ deps_ending) paths (λ q k apart. deps_apart p q plain k apart) above rest) (deps_no_module s name) in (
      (last_apart s s o partial_ending 111 101 refl refl refl, (last_apart s s o deps_ending 111 115 refl refl refl, object)),
      (
        (last_apart s s partial_ending deps_ending 101 115 refl refl refl, partial),
        (deps, defaults_apart name paths m rest (sorted_tail order p paths up)),
      ),
    )

-- No two default names are equal.
pub defaults_once : (name : List ℕ) (paths : List (List ℕ)) → is_module_name name ≡ true → All (λ p. IsTrue (is_plain_path p)) paths → IsStrictlySortedBy order paths → HasNoRepeat order (defaults name paths)
defaults_once name paths m all up = once_each (defaults name paths) (defaults_apart name paths m all up)

-- So without a map no name is assigned twice.
pub no_repeat : (map : Members) (name : List ℕ) (paths : List (List ℕ)) (fault : MapFault) → map ≡ no_members → is_module_name name ≡ true → All (λ p. IsTrue (is_plain_path p)) paths → IsStrictlySortedBy order paths → IsRepeatOf (all_names (names_for map name paths)) fault → ⊥
no_repeat map name paths fault e m all up r =
    let once : times order r.0 (all_names (names_for map name paths)) ≤ 1 = subst (λ ms. HasNoRepeat order (all_names (names_for ms name paths))) (sym e) (defaults_once name paths m all up) r.0 in
    let twice : 2 ≤ times order r.0 (all_names (names_for map name paths)) = r.2.0 in
    omega (arith, once, twice)
