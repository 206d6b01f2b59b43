-- Each row of a table is found, where no two rows are about the same operator and operands.
use Rattle.std.proofs.Common.{◌≡◌, ◌⊎◌, ◌↔◌, ℕ, Bool, true, false, not, cond, ◌&&◌, List, [], ◌∷◌, Some, None, refl, sym, ap, ◌∙◌, subst, inl, inr, arith}
use Rattle.std.specs.List.{Contains, list_all}
use Rattle.std.specs.Cmp.Lexicographic.{bytes_decides}
use Rattle.std.proofs.lemmas.Bool.{and_parts}
use Rattle.std.proofs.lemmas.List.Elements.{Contains-append_left, Contains-append_right, Contains-append_cases, Contains-push, Contains-push_cases}
use Rattle.type_rules.specs.declared.ty.Ty.{Ty}
use Rattle.type_rules.specs.Sameness.{same_type, same_type_decides}
use Rattle.type_rules.specs.Operators.{Row, row, is_about, result_in, binary_rows, unary_rows, binary_type, unary_type}

some_is : {A : Type 0} (a b : A) → Some a ≡ Some b → a ≡ b
some_is a b e = cc

nothing : {X : Type 0} (x : X) → ¬ Contains [] x
nothing x c = omega (arith, c.1)

first_or_later : {X : Type 0} (x y : X) (xs : List X) → Contains (x ∷ xs) y → (x ≡ y) ⊎ Contains xs y
first_or_later x y xs c = elim (Contains-append_cases (x ∷ []) xs y c) [ inl first ↦ inl (alone (Contains-push_cases [] x y first)) | inr later ↦ inr later ]
  where
    alone : Contains [] y ⊎ (x ≡ y) → x ≡ y
    alone (inl c) = absurd (nothing y c)
    alone (inr e) = e

passes : {X : Type 0} (test : X → Bool) (xs : List X) (x : X) → list_all test xs ≡ true → Contains xs x → test x ≡ true
passes test [] x h c = absurd (nothing x c)
passes test (y ∷ ys) x h c =
    let p = and_parts (test y) (list_all test ys) h in
    elim (first_or_later y x ys c) [ inl e ↦ ap test (sym e) ∙ p.0 | inr later ↦ passes test ys x p.1 later ]

-- what a row is about
row_of : (operator : List ℕ) (operand : Ty) (x : Row) → is_about operator operand x ≡ true → x ≡ row operator operand x.result
row_of operator operand x h =
    let p = and_parts (same_type operand x.operand) _ h in
    let types = sym ((same_type_decides operand x.operand).0 p.0) in
    let operators = sym ((bytes_decides operator x.operator).0 p.1) in
    λ i. record { operator = operators i; operand = types i; result = x.result }

about_itself : (operator : List ℕ) (operand given : Ty) → is_about operator operand (row operator operand given) ≡ true
about_itself operator operand given = rw ((same_type_decides operand operand).1 refl, (bytes_decides operator operator).1 refl) refl

-- a result that is found stands in a row
pub found_stands : (rows : List Row) (operator : List ℕ) (operand given : Ty)
    → result_in rows operator operand ≡ Some given → Contains rows (row operator operand given)
found_stands [] operator operand given e = absurd cc
found_stands (x ∷ rows) operator operand given e = by (is_about operator operand x) refl (found_stands rows operator operand given) e
  where
    by : (b : Bool) → b ≡ is_about operator operand x → (result_in rows operator operand ≡ Some given → Contains rows (row operator operand given))
        → cond b (Some x.result) (result_in rows operator operand) ≡ Some given → Contains (x ∷ rows) (row operator operand given)
    by true h later e =
        let this : x ≡ row operator operand given = row_of operator operand x (sym h) ∙ ap (row operator operand) (some_is x.result given e) in
        Contains-append_left (x ∷ []) rows (row operator operand given) (subst (Contains (x ∷ [])) this (Contains-push [] x))
    by false h later e = Contains-append_right (x ∷ []) rows (row operator operand given) (later e)

-- no two rows are about the same operator and operands
abbrev pub are_apart : List Row → Bool
are_apart [] = true
are_apart (x ∷ rows) = list_all (λ later. not (is_about x.operator x.operand later)) rows && are_apart rows

not_both : (b : Bool) → b ≡ true → ¬ (not b ≡ true)
not_both true e h = cc
not_both false e h = cc

-- a row of such a table is found
pub standing_found : (rows : List Row) (operator : List ℕ) (operand given : Ty)
    → are_apart rows ≡ true → Contains rows (row operator operand given) → result_in rows operator operand ≡ Some given
standing_found [] operator operand given d c = absurd (nothing _ c)
standing_found (x ∷ rows) operator operand given d c =
    let p = and_parts (list_all (λ later. not (is_about x.operator x.operand later)) rows) (are_apart rows) d in
    by (is_about operator operand x) refl (passes (λ later. not (is_about x.operator x.operand later)) rows (row operator operand given) p.0)
    (standing_found rows operator operand given p.1) (first_or_later x (row operator operand given) rows c)
  where
    by : (b : Bool) → b ≡ is_about operator operand x
        → (Contains rows (row operator operand given) → not (is_about x.operator x.operand (row operator operand given)) ≡ true)
        → (Contains rows (row operator operand given) → result_in rows operator operand ≡ Some given)
        → (x ≡ row operator operand given) ⊎ Contains rows (row operator operand given)
        → cond b (Some x.result) (result_in rows operator operand) ≡ Some given
    by true h apart later (inl e) = ap (λ r. Some r.result) e
    by false h apart later (inl e) = absurd (let t = about_itself operator operand given in let u = ap (is_about operator operand) e in cc)
    by true h apart later (inr c) =
        let e = row_of operator operand x (sym h) in
        let same = ap (λ r. is_about r.operator r.operand (row operator operand given)) e ∙ about_itself operator operand given in
        absurd (not_both _ same (apart c))
    by false h apart later (inr c) = later c

-- What is found is what stands in the rows.
pub found_is_row : (rows : List Row) → are_apart rows ≡ true
    → (operator : List ℕ) (operand given : Ty) → (result_in rows operator operand ≡ Some given) ↔ Contains rows (row operator operand given)
found_is_row rows d operator operand given = (found_stands rows operator operand given, standing_found rows operator operand given d)

pub unary_is_row : (operator : List ℕ) (operand given : Ty) → (unary_type operator operand ≡ Some given) ↔ Contains unary_rows (row operator operand given)
unfolding unary_rows
unary_is_row operator operand given = found_is_row unary_rows refl operator operand given

binary_found : are_apart binary_rows ≡ true
unfolding binary_rows
binary_found = refl

pub binary_is_row : (operator : List ℕ) (left right given : Ty)
    → (binary_type operator left right ≡ Some given) ↔ ((left ≡ right) × Contains binary_rows (row operator left given))
binary_is_row operator left right given = by (same_type left right) (same_type_decides left right)
  where
    by : (b : Bool) → ((b ≡ true → left ≡ right) × (left ≡ right → b ≡ true))
        → (cond b (result_in binary_rows operator left) None ≡ Some given) ↔ ((left ≡ right) × Contains binary_rows (row operator left given))
    by true same = (λ e. (same.0 refl, (found_is_row binary_rows binary_found operator left given).0 e), λ p. (found_is_row binary_rows binary_found operator left given).1 p.1)
    by false same = (λ e. absurd cc, λ p. let wrong = same.1 p.0 in absurd cc)
