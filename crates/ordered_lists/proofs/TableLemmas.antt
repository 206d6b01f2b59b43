-- The map from texts that the entries of a map behind a list make.
use Rattle.std.proofs.Common.{◌≡◌, ◌∙◌, ℕ, true, List, [], ◌∷◌, cond, map, Option, Some, None, refl, sym, ap, T, nat_cmp}
use Rattle.std.specs.Cmp.{eq_by_cmp_equiv}
use Rattle.std.specs.Cmp.Lexicographic.{slice_cmp, nat_list_cmp_total}
use Rattle.std.specs.declared.cmp.Ordering.TheVariants.{Less}
use Rattle.std.specs.List.{AllByRecursion}
use Rattle.std.specs.List.Sorted.{IsStrictlySortedBy}
use Rattle.std.specs.FinMap.Entries.{below_all}
use Rattle.std.specs.FinMap.{is_sorted, entries, keys, find, get, insert, remove, from_entries, from_sorted, get-insert, get-remove, get-from_entries, get-from_sorted, entries-from_sorted, same_map, slice_cmp-IsAntisymmetric, nat_cmp-IsAntisymmetric}
use Rattle.std.specs.BTreeMap.{is_at}
use Rattle.std.specs.Map.{lookup}
use Rattle.std.proofs.lemmas.Map.Keys.{sorted_head, sorted_tail}

module _ {X : Type 0} where
  -- what a list of entries has for a text
  abbrev pub at : List (List ℕ × X) → List ℕ → Option X
  at es q = lookup (is_at (slice_cmp nat_cmp q)) es

  find_at : (es : List (List ℕ × X)) (q : List ℕ) → find (slice_cmp nat_cmp) q es ≡ at es q
  find_at [] q = refl
  find_at (e ∷ es) q = ap (cond (is_at (slice_cmp nat_cmp q) e.0) (Some e.1)) (find_at es q)

  pub get_at : (es : List (List ℕ × X)) (q : List ℕ) → get (from_entries {R = slice_cmp nat_cmp} es) q ≡ at es q
  get_at es q = get-from_entries nat_list_cmp_total es q ∙ find_at es q

  -- The map once one entry was set.
  pub one_set : (es fs : List (List ℕ × X)) (text : List ℕ) (x : X) → ((q : List ℕ) → at fs q ≡ cond (is_at (slice_cmp nat_cmp text) q) (Some x) (at es q)) → from_entries {R = slice_cmp nat_cmp} fs ≡ insert (from_entries es) text x
  one_set es fs text x h = same_map nat_list_cmp_total (slice_cmp-IsAntisymmetric nat_cmp-IsAntisymmetric) _ _ (λ q.
      get_at fs q ∙ h q ∙ ap (λ b. cond b (Some x) (at es q)) ((eq_by_cmp_equiv nat_list_cmp_total).symm text q)
      ∙ sym (get-insert nat_list_cmp_total (from_entries es) text x q ∙ ap (cond (is_at (slice_cmp nat_cmp q) text) (Some x)) (get_at es q)))

  -- The map once one entry was removed.
  pub one_removed : (es fs : List (List ℕ × X)) (text : List ℕ) → ((q : List ℕ) → at fs q ≡ cond (is_at (slice_cmp nat_cmp text) q) None (at es q)) → from_entries {R = slice_cmp nat_cmp} fs ≡ remove (from_entries es) text
  one_removed es fs text h = same_map nat_list_cmp_total (slice_cmp-IsAntisymmetric nat_cmp-IsAntisymmetric) _ _ (λ q.
      get_at fs q ∙ h q ∙ ap (λ b. cond b None (at es q)) ((eq_by_cmp_equiv nat_list_cmp_total).symm text q)
      ∙ sym (get-remove nat_list_cmp_total (from_entries es) text q ∙ ap (cond (is_at (slice_cmp nat_cmp q) text) None) (get_at es q)))

  below : (x : List ℕ) (es : List (List ℕ × X)) → AllByRecursion (λ y. slice_cmp nat_cmp x y ≡ Less) (map (λ f. f.0) es) → below_all (slice_cmp nat_cmp) x es ≡ true
  below x [] all = refl
  below x (e ∷ es) all = rw (all.0) (below x es all.1)

  below_one : (e : List ℕ × X) (es : List (List ℕ × X)) → is_sorted (slice_cmp nat_cmp) es ≡ true → AllByRecursion (λ y. slice_cmp nat_cmp e.0 y ≡ Less) (map (λ f. f.0) es) → is_sorted (slice_cmp nat_cmp) (e ∷ es) ≡ true
  below_one e es h all = rw (below e.0 es all) h

  sorted_bool : (es : List (List ℕ × X)) → IsStrictlySortedBy (slice_cmp nat_cmp) (map (λ e. e.0) es) → is_sorted (slice_cmp nat_cmp) es ≡ true
  sorted_bool [] h = refl
  sorted_bool (e ∷ es) h = below_one e es (sorted_bool es (sorted_tail (slice_cmp nat_cmp) e.0 _ h)) (sorted_head (slice_cmp nat_cmp) e.0 _ h)

  -- The entries of the map are those that it was made of, where these ascend.
  pub entries-from_entries : (es : List (List ℕ × X)) → IsStrictlySortedBy (slice_cmp nat_cmp) (map (λ e. e.0) es) → entries (from_entries {R = slice_cmp nat_cmp} es) ≡ es
  entries-from_entries es h =
      let is : T (is_sorted (slice_cmp nat_cmp) es) = rw (sorted_bool es h) tt in
      ap entries (same_map nat_list_cmp_total (slice_cmp-IsAntisymmetric nat_cmp-IsAntisymmetric) (from_entries es) (from_sorted {R = slice_cmp nat_cmp} es) (λ q.
      get-from_entries nat_list_cmp_total es q ∙ sym (get-from_sorted (slice_cmp nat_cmp) es q is)))
      ∙ entries-from_sorted (slice_cmp nat_cmp) es is

  -- And so are its keys.
  pub keys-from_entries : (es : List (List ℕ × X)) → IsStrictlySortedBy (slice_cmp nat_cmp) (map (λ e. e.0) es) → keys (from_entries {R = slice_cmp nat_cmp} es) ≡ map (λ e. e.0) es
  keys-from_entries es h = ap (map (λ e. e.0)) (entries-from_entries es h)
