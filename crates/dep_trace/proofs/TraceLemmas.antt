-- Keys that move in files, and keys that are found.
use Rattle.std.proofs.Common.{◌≡◌, ℕ, ◌+◌, ◌<◌, Bool, true, false, not, cond, ◌&&◌, ◌||◌, if◌then◌else◌, List, [], ◌∷◌, is_some, length, get_or, take, Some, None, refl, ap, sym, ◌∙◌, is_eq}
use Rattle.std.specs.Map.{lookup}
use Rattle.std.specs.BTreeMap.{is_at}
use Rattle.std.specs.List.{list_any}
use Rattle.std.proofs.lemmas.List.Folds.{list_any_more}
use Rattle.dep_key.specs.declared.key.Key.{Key}
use Rattle.dep_key.specs.declared.graph.Node.{Node}
use Rattle.dep_key.specs.KeyOrder.{key_order}
use Rattle.dep_key.specs.Moved.{print_of}
use Rattle.dep_graph.specs.Moves.{is_one}
use Rattle.dep_graph.specs.Arcs.{path_order, uses_key}
use Rattle.wave_core.specs.Cores.{has_print}
use Rattle.dep_trace.specs.declared.noting.Origin.{Origin}
use Rattle.dep_trace.specs.Traces.{Origins, has_other, moved_beside, HaveMoved, HaveBeenFound, is_named}
use Rattle.wave_core.proofs.WakingLemmas.{at-key, at-path, key-flip}

or-twice : (a b : Bool) → a ≡ b → a ≡ (a || b)
or-twice true b e = refl
or-twice false b e = e

or-nothing : (a b : Bool) → a ≡ (a || (b && false))
or-nothing true b = refl
or-nothing false true = refl
or-nothing false false = refl

or-with : (a b : Bool) → (a || b) ≡ (a || (b && true))
or-with true b = refl
or-with false true = refl
or-with false false = refl

-- a file that was noted before
pub joined-same : (other file f : List ℕ) → is_at (path_order other) file ≡ true → not (is_at (path_order other) f) ≡ (not (is_at (path_order other) f) || not (is_at (path_order file) f))
joined-same other file f e = or-twice (not (is_at (path_order other) f)) (not (is_at (path_order file) f)) (ap (λ p. not (is_at (path_order p) f)) (at-path other file e))

-- a second file
pub joined-other : (other file f : List ℕ) → is_at (path_order other) file ≡ false → true ≡ (not (is_at (path_order other) f) || not (is_at (path_order file) f))
joined-other other file f e = (elim (is_at (path_order other) f) as (λ v. is_at (path_order other) f ≡ v → true ≡ (not v || not (is_at (path_order file) f))) [
  | true ↦ λ h. (elim (is_at (path_order file) f) as (λ v. is_at (path_order file) f ≡ v → true ≡ not v) [
    | true ↦ λ w. (let bad : true ≡ false = sym h ∙ ap (is_at (path_order other)) (sym (at-path file f w)) ∙ e in cc)
    | false ↦ λ w. refl
  ]) refl
  | false ↦ λ h. refl
]) refl

pub moved-one : (old mid new : Origins) (key : Key) (file : List ℕ) (origin : Origin) →
    ((q : Key) → lookup (is_at (key_order q)) mid ≡ cond (is_at (key_order key) q) None (lookup (is_at (key_order q)) old)) →
    ((f : List ℕ) → has_other (Some origin) f ≡ (has_other (lookup (is_at (key_order key)) old) f || not (is_at (path_order file) f))) →
    ((q : Key) → lookup (is_at (key_order q)) new ≡ cond (is_at (key_order key) q) (Some origin) (lookup (is_at (key_order q)) mid)) →
    HaveMoved old new file (λ k. is_eq (key_order k key))
moved-one old mid new key file origin m was n = record {
  at = λ f k.
      ap (λ o. has_other o f) (n k)
      ∙ (elim (is_at (key_order key) k) as (λ v. is_at (key_order key) k ≡ v → has_other (cond v (Some origin) (lookup (is_at (key_order k)) mid)) f ≡ (moved_beside old f k || (not (is_at (path_order file) f) && v))) [
        | true ↦ λ e. was f ∙ ap (λ q. has_other (lookup (is_at (key_order q)) old) f || not (is_at (path_order file) f)) (at-key key k e) ∙ or-with (moved_beside old f k) (not (is_at (path_order file) f))
        | false ↦ λ e. ap (λ o. has_other o f) (m k ∙ ap (λ v. cond v None (lookup (is_at (key_order k)) old)) e) ∙ or-nothing (moved_beside old f k) (not (is_at (path_order file) f))
      ]) refl
      ∙ ap (λ v. moved_beside old f k || (not (is_at (path_order file) f) && v)) (key-flip key k);
}

moved-twice : (x a t u : Bool) → ((x || (a && t)) || (a && u)) ≡ (x || (a && (t || u)))
moved-twice true a t u = refl
moved-twice false true true u = refl
moved-twice false true false u = refl
moved-twice false false t u = refl

pub moved-both : (old mid new : Origins) (file : List ℕ) (t u w : Key → Bool) → ((k : Key) → w k ≡ (t k || u k)) → HaveMoved old mid file t → HaveMoved mid new file u → HaveMoved old new file w
moved-both old mid new file t u w both m n = record {
  at = λ f k. n.at f k ∙ ap (λ x. x || (not (is_at (path_order file) f) && u k)) (m.at f k) ∙ moved-twice (moved_beside old f k) (not (is_at (path_order file) f)) (t k) (u k)
      ∙ ap (λ x. moved_beside old f k || (not (is_at (path_order file) f) && x)) (sym (both k));
}

pub moved-none : (origins : Origins) (file : List ℕ) → HaveMoved origins origins file (λ k. false)
moved-none origins file = record { at = λ f k. or-nothing (moved_beside origins f k) (not (is_at (path_order file) f)) }

pub moved-same : (old new : Origins) (file : List ℕ) (t u : Key → Bool) → ((k : Key) → t k ≡ u k) → HaveMoved old new file t → HaveMoved old new file u
moved-same old new file t u same m = record { at = λ f k. m.at f k ∙ ap (λ x. moved_beside old f k || (not (is_at (path_order file) f) && x)) (same k) }

pub one-key-more : (keys : List Key) (i : ℕ) (x : Key) → i < length keys → get_or keys i x ≡ x → (k : Key) → is_one (take (i + 1) keys) k ≡ (is_one (take i keys) k || is_eq (key_order k x))
one-key-more keys i x less is k = list_any_more (λ q. is_eq (key_order k q)) keys i x less ∙ ap (λ y. is_one (take i keys) k || is_eq (key_order k y)) is

pub one-node-more : (nodes : List Node) (i : ℕ) (x : Node) → i < length nodes → get_or nodes i x ≡ x → (k : Key) → uses_key (Some (take (i + 1) nodes)) k ≡ (uses_key (Some (take i nodes)) k || is_one x.uses k)
one-node-more nodes i x less is k = list_any_more (λ n. is_one n.uses k) nodes i x less ∙ ap (λ (y : Node). uses_key (Some (take i nodes)) k || is_one y.uses k) is

found-twice : (x a t u : Bool) → ((x || (t && a)) || (u && a)) ≡ (x || ((t || u) && a))
found-twice true a t u = refl
found-twice false true true u = refl
found-twice false true false u = refl
found-twice false false true true = refl
found-twice false false true false = refl
found-twice false false false u = refl

pub found-both : (old mid new : List Key) (moved t u w : Key → Bool) → ((k : Key) → w k ≡ (t k || u k)) → HaveBeenFound old mid moved t → HaveBeenFound mid new moved u → HaveBeenFound old new moved w
found-both old mid new moved t u w both m n = record {
  at = λ k. n.at k ∙ ap (λ x. x || (u k && moved k)) (m.at k) ∙ found-twice (is_one old k) (moved k) (t k) (u k) ∙ ap (λ x. is_one old k || (x && moved k)) (sym (both k));
}

or-none : (a : Bool) → a ≡ (a || false)
or-none true = refl
or-none false = refl

-- a key that hasn't moved
pub found-not : (old : List Key) (moved : Key → Bool) (key : Key) → moved key ≡ false → HaveBeenFound old old moved (λ k. is_eq (key_order k key))
found-not old moved key off = record {
  at = λ k. (elim (is_eq (key_order k key)) as (λ v. is_eq (key_order k key) ≡ v → is_one old k ≡ (is_one old k || (v && moved k))) [
    | true ↦ λ e. or-none (is_one old k) ∙ ap (λ b. is_one old k || b) (sym (ap moved (at-key k key e) ∙ off))
    | false ↦ λ e. or-none (is_one old k)
  ]) refl;
}

or-last : (a : Bool) → true ≡ (a || true)
or-last true = refl
or-last false = refl

-- a key that has
pub found-one : (old new : List Key) (moved : Key → Bool) (key : Key) → moved key ≡ true → ((q : Key) → is_one new q ≡ cond (is_at (key_order key) q) true (is_one old q)) →
    HaveBeenFound old new moved (λ k. is_eq (key_order k key))
found-one old new moved key on n = record {
  at = λ k. n k ∙ (elim (is_at (key_order key) k) as (λ v. is_at (key_order key) k ≡ v → cond v true (is_one old k) ≡ (is_one old k || (v && moved k))) [
    | true ↦ λ e. or-last (is_one old k) ∙ ap (λ b. is_one old k || b) (sym (ap moved (sym (at-key key k e)) ∙ on))
    | false ↦ λ e. or-none (is_one old k)
  ]) refl ∙ ap (λ v. is_one old k || (v && moved k)) (key-flip key k);
}

pub one-file-more : (t : List ℕ → Bool) (files : List (List ℕ)) (i : ℕ) (x : List ℕ) → i < length files → get_or files i x ≡ x → list_any t (take (i + 1) files) ≡ (list_any t (take i files) || t x)
one-file-more t files i x less is = list_any_more t files i x less ∙ ap (λ y. list_any t (take i files) || t y) is

pub named-more : (nodes : List Node) (i : ℕ) (x : Node) → i < length nodes → get_or nodes i x ≡ x → (k : Key) → is_named (take (i + 1) nodes) k ≡ (is_named (take i nodes) k || is_eq (key_order k x.key))
named-more nodes i x less is k = list_any_more (λ n. is_eq (key_order k n.key)) nodes i x less ∙ ap (λ (y : Node). is_named (take i nodes) k || is_eq (key_order k y.key)) is

pub named-print : (nodes : List Node) (k : Key) → is_named nodes k ≡ has_print (Some nodes) k
named-print [] k = refl
named-print (n ∷ ns) k = elim (is_eq (key_order k n.key)) as (λ v. (v || is_named ns k) ≡ is_some (if v then Some n.print else print_of ns k)) [ true ↦ refl | false ↦ named-print ns k ]
