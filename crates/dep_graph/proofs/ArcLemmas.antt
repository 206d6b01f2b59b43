-- Arcs that enter and leave the index.
use Rattle.std.proofs.Common.{◌≡◌, ◌≢◌, ◌↔◌, Option, ℕ, ◌+◌, ◌<◌, Bool, true, false, not, cond, ◌&&◌, ◌||◌, List, [], Some, None, length, get_or, take, refl, ap, sym, ◌∙◌, subst, is_eq, Less, Equal, Greater}
use Rattle.std.specs.List.Sorted.{IsStrictlySortedBy}
use Rattle.std.specs.BTreeMap.{get, is_at}
use Rattle.std.specs.BTreeSet.{BTreeSet, contains}
use Rattle.std.specs.Map.{lookup}
use Rattle.std.specs.Cmp.{eq_by_cmp_equiv}
use Rattle.std.specs.Cmp.Lexicographic.{nat_list_cmp_total}
use Rattle.std.proofs.lemmas.List.Folds.{list_any_more}
use Rattle.dep_key.specs.declared.key.Key.{Key}
use Rattle.dep_key.specs.declared.graph.Node.{Node}
use Rattle.dep_key.specs.KeyOrder.{key_order, key_order_total}
use Rattle.dep_key.specs.GraphOrder.{AreInOrder}
use Rattle.dep_key.specs.KeysApart.{keys_apart, texts_apart}
use Rattle.waves.specs.Builds.{HaveSamePrints, print_in}
use Rattle.dep_key.specs.Moved.{has_moved, print_of}
use Rattle.dep_key.proofs.MovedLemmas.{moved_tells}
use Rattle.dep_graph.specs.Moves.{is_one, node_reading}
use Rattle.dep_graph.specs.Arcs.{path_order, Files, nodes_in, nodes_or_none, uses_key, Users, set_has, is_user, HasEntered, HasLeft, IsIndexed}

flip : (a b : Key) → is_eq (key_order a b) ≡ is_eq (key_order b a)
flip a b = (eq_by_cmp_equiv key_order_total).symm a b

at-key : (a b : Key) → is_at (key_order a) b ≡ true → a ≡ b
at-key a b h = keys_apart a b (elim (key_order a b) as (λ r. is_eq r ≡ true → r ≡ Equal) [ Less ↦ λ h. cc | Equal ↦ λ h. refl | Greater ↦ λ h. cc ] h)

at-path : (a b : List ℕ) → is_at (path_order a) b ≡ true → a ≡ b
at-path a b h = texts_apart a b (elim (path_order a b) as (λ r. is_eq r ≡ true → r ≡ Equal) [ Less ↦ λ h. cc | Equal ↦ λ h. refl | Greater ↦ λ h. cc ] h)

pub path-itself : (a : List ℕ) → is_at (path_order a) a ≡ true
path-itself a = (eq_by_cmp_equiv nat_list_cmp_total).refl a

pub other-path : (a b : List ℕ) → b ≢ a → is_at (path_order a) b ≡ false
other-path a b ne = (elim (is_at (path_order a) b) as (λ v. is_at (path_order a) b ≡ v → v ≡ false) [ true ↦ λ e. absurd (ne (sym (at-path a b e))) | false ↦ λ e. refl ]) refl

set-in : (a x : Bool) → cond a true x ≡ (x || (a && true))
set-in true true = refl
set-in true false = refl
set-in false true = refl
set-in false false = refl

set-out : (a x : Bool) → cond a false x ≡ (x && not (a && true))
set-out true true = refl
set-out true false = refl
set-out false true = refl
set-out false false = refl

stays-in : (a x : Bool) → x ≡ (x || (a && false))
stays-in true true = refl
stays-in true false = refl
stays-in false true = refl
stays-in false false = refl

stays-out : (a x : Bool) → x ≡ (x && not (a && false))
stays-out true true = refl
stays-out true false = refl
stays-out false true = refl
stays-out false false = refl

in-twice : (x a t u : Bool) → ((x || (a && t)) || (a && u)) ≡ (x || (a && (t || u)))
in-twice true a t u = refl
in-twice false true true u = refl
in-twice false true false u = refl
in-twice false false t u = refl

out-twice : (x a t u : Bool) → ((x && not (a && t)) && not (a && u)) ≡ (x && not (a && (t || u)))
out-twice false a t u = refl
out-twice true true true u = refl
out-twice true true false u = refl
out-twice true false t u = refl

pub entered-one : (old mid new : Users) (key : Key) (file : List ℕ) (known set : BTreeSet (List ℕ)) →
    ((q : Key) → get key_order mid q ≡ cond (is_at (key_order key) q) None (get key_order old q)) →
    ((f : List ℕ) → contains path_order known f ≡ set_has (get key_order old key) f) →
    ((f : List ℕ) → contains path_order set f ≡ cond (is_at (path_order file) f) true (contains path_order known f)) →
    ((q : Key) → get key_order new q ≡ cond (is_at (key_order key) q) (Some set) (get key_order mid q)) →
    HasEntered old new file (λ k. is_eq (key_order k key))
entered-one old mid new key file known set m was s n = record {
  at = λ k f.
      ap (λ o. set_has o f) (n k)
      ∙ (elim (is_at (key_order key) k) as (λ v. is_at (key_order key) k ≡ v → set_has (cond v (Some set) (get key_order mid k)) f ≡ (set_has (get key_order old k) f || (is_at (path_order file) f && v))) [
        | true ↦ λ e. s f ∙ ap (cond (is_at (path_order file) f) true) (was f ∙ ap (λ q. set_has (get key_order old q) f) (at-key key k e)) ∙ set-in (is_at (path_order file) f) (set_has (get key_order old k) f)
        | false ↦ λ e. ap (λ o. set_has o f) (m k ∙ ap (λ v. cond v None (get key_order old k)) e) ∙ stays-in (is_at (path_order file) f) (set_has (get key_order old k) f)
      ]) refl
      ∙ ap (λ v. set_has (get key_order old k) f || (is_at (path_order file) f && v)) (flip key k);
}

pub left-one : (old new : Users) (key : Key) (file : List ℕ) (known set : BTreeSet (List ℕ)) →
    get key_order old key ≡ Some known →
    ((f : List ℕ) → contains path_order set f ≡ cond (is_at (path_order file) f) false (contains path_order known f)) →
    ((q : Key) → get key_order new q ≡ cond (is_at (key_order key) q) (Some set) (get key_order old q)) →
    HasLeft old new file (λ k. is_eq (key_order k key))
left-one old new key file known set was s n = record {
  at = λ k f.
      ap (λ o. set_has o f) (n k)
      ∙ (elim (is_at (key_order key) k) as (λ v. is_at (key_order key) k ≡ v → set_has (cond v (Some set) (get key_order old k)) f ≡ (set_has (get key_order old k) f && not (is_at (path_order file) f && v))) [
        | true ↦ λ e. s f ∙ ap (cond (is_at (path_order file) f) false) (ap (λ o. set_has o f) (sym was) ∙ ap (λ q. set_has (get key_order old q) f) (at-key key k e)) ∙ set-out (is_at (path_order file) f) (set_has (get key_order old k) f)
        | false ↦ λ e. stays-out (is_at (path_order file) f) (set_has (get key_order old k) f)
      ]) refl
      ∙ ap (λ v. set_has (get key_order old k) f && not (is_at (path_order file) f && v)) (flip key k);
}

pub left-none : (old new : Users) (key : Key) (file : List ℕ) → get key_order old key ≡ None → new ≡ old → HasLeft old new file (λ k. is_eq (key_order k key))
left-none old new key file was same = record {
  at = λ k f.
      ap (λ u. is_user u k f) same
      ∙ (elim (is_at (key_order key) k) as (λ v. is_at (key_order key) k ≡ v → set_has (get key_order old k) f ≡ (set_has (get key_order old k) f && not (is_at (path_order file) f && v))) [
        | true ↦ λ e.
            let gone : set_has (get key_order old k) f ≡ false = ap (λ q. set_has (get key_order old q) f) (sym (at-key key k e)) ∙ ap (λ o. set_has o f) was in
            gone ∙ ap (λ x. x && not (is_at (path_order file) f && true)) (sym gone)
        | false ↦ λ e. stays-out (is_at (path_order file) f) (set_has (get key_order old k) f)
      ]) refl
      ∙ ap (λ v. set_has (get key_order old k) f && not (is_at (path_order file) f && v)) (flip key k);
}

pub entered-none : (users : Users) (file : List ℕ) → HasEntered users users file (λ k. false)
entered-none users file = record { at = λ k f. stays-in (is_at (path_order file) f) (is_user users k f) }

pub left-nothing : (users : Users) (file : List ℕ) → HasLeft users users file (λ k. false)
left-nothing users file = record { at = λ k f. stays-out (is_at (path_order file) f) (is_user users k f) }

pub entered-both : (old mid new : Users) (file : List ℕ) (t u w : Key → Bool) → ((k : Key) → w k ≡ (t k || u k)) → HasEntered old mid file t → HasEntered mid new file u → HasEntered old new file w
entered-both old mid new file t u w both m n = record {
  at = λ k f. n.at k f ∙ ap (λ x. x || (is_at (path_order file) f && u k)) (m.at k f) ∙ in-twice (is_user old k f) (is_at (path_order file) f) (t k) (u k) ∙ ap (λ x. is_user old k f || (is_at (path_order file) f && x)) (sym (both k));
}

pub left-both : (old mid new : Users) (file : List ℕ) (t u w : Key → Bool) → ((k : Key) → w k ≡ (t k || u k)) → HasLeft old mid file t → HasLeft mid new file u → HasLeft old new file w
left-both old mid new file t u w both m n = record {
  at = λ k f. n.at k f ∙ ap (λ x. x && not (is_at (path_order file) f && u k)) (m.at k f) ∙ out-twice (is_user old k f) (is_at (path_order file) f) (t k) (u k) ∙ ap (λ x. is_user old k f && not (is_at (path_order file) f && x)) (sym (both k));
}

pub one-key-more : (keys : List Key) (i : ℕ) (x : Key) → i < length keys → get_or keys i x ≡ x → (k : Key) → is_one (take (i + 1) keys) k ≡ (is_one (take i keys) k || is_eq (key_order k x))
one-key-more keys i x less is k = list_any_more (λ q. is_eq (key_order k q)) keys i x less ∙ ap (λ y. is_one (take i keys) k || is_eq (key_order k y)) is

pub one-node-more : (nodes : List Node) (i : ℕ) (x : Node) → i < length nodes → get_or nodes i x ≡ x → (k : Key) → uses_key (Some (take (i + 1) nodes)) k ≡ (uses_key (Some (take i nodes)) k || is_one x.uses k)
one-node-more nodes i x less is k = list_any_more (λ n. is_one n.uses k) nodes i x less ∙ ap (λ (y : Node). uses_key (Some (take i nodes)) k || is_one y.uses k) is

none-in-order : AreInOrder []
unfolding IsStrictlySortedBy
none-in-order = (tt, tt)

pub indexed-none : (files : Files) (users : Users) → files ≡ [] → users.entries ≡ [] → IsIndexed files users
indexed-none files users a b = record {
  users_are = λ k f. ap (λ es. set_has (lookup (is_at (key_order k)) es) f) b ∙ sym (ap (λ es. uses_key (lookup (is_at (path_order f)) es) k) a);
  in_order = λ f. subst (λ es. AreInOrder (nodes_or_none (lookup (is_at (path_order f)) es))) (sym a) none-in-order;
}

out-itself : (x : Bool) → (x && not (true && x)) ≡ false
out-itself true = refl
out-itself false = refl

uses-of-none : (o : _) (k : Key) → uses_key (Some (nodes_or_none o)) k ≡ uses_key o k
uses-of-none None k = refl
uses-of-none (Some nodes) k = refl

pub indexed-out : (files more : Files) (users new : Users) (file : List ℕ) → IsIndexed files users →
    ((q : List ℕ) → nodes_in more q ≡ cond (is_at (path_order file) q) None (nodes_in files q)) →
    HasLeft users new file (uses_key (Some (nodes_or_none (nodes_in files file)))) → IsIndexed more new
indexed-out files more users new file had m left = record {
  users_are = λ k f.
      left.at k f ∙ ap (λ x. x && not (is_at (path_order file) f && uses_key (Some (nodes_or_none (nodes_in files file))) k)) (had.users_are k f)
      ∙ (elim (is_at (path_order file) f) as (λ v. is_at (path_order file) f ≡ v → (uses_key (nodes_in files f) k && not (v && uses_key (Some (nodes_or_none (nodes_in files file))) k)) ≡ uses_key (cond v None (nodes_in files f)) k) [
        | true ↦ λ e. ap (λ x. uses_key (nodes_in files f) k && not (true && x)) (uses-of-none (nodes_in files file) k ∙ ap (λ p. uses_key (nodes_in files p) k) (at-path file f e)) ∙ out-itself (uses_key (nodes_in files f) k)
        | false ↦ λ e. sym (stays-out false (uses_key (nodes_in files f) k))
      ]) refl
      ∙ ap (λ o. uses_key o k) (sym (m f));
  in_order = λ f. subst (λ o. AreInOrder (nodes_or_none o)) (sym (m f))
      (elim (is_at (path_order file) f) as (λ v. AreInOrder (nodes_or_none (cond v None (nodes_in files f)))) [ true ↦ none-in-order | false ↦ had.in_order f ]);
}

pub indexed-in : (files more : Files) (users new : Users) (file : List ℕ) (nodes : List Node) → IsIndexed files users → nodes_in files file ≡ None → AreInOrder nodes →
    ((q : List ℕ) → nodes_in more q ≡ cond (is_at (path_order file) q) (Some nodes) (nodes_in files q)) →
    HasEntered users new file (uses_key (Some nodes)) → IsIndexed more new
indexed-in files more users new file nodes had absent order m entered = record {
  users_are = λ k f.
      entered.at k f ∙ ap (λ x. x || (is_at (path_order file) f && uses_key (Some nodes) k)) (had.users_are k f)
      ∙ (elim (is_at (path_order file) f) as (λ v. is_at (path_order file) f ≡ v → (uses_key (nodes_in files f) k || (v && uses_key (Some nodes) k)) ≡ uses_key (cond v (Some nodes) (nodes_in files f)) k) [
        | true ↦ λ e. ap (λ o. uses_key o k || (true && uses_key (Some nodes) k)) (ap (nodes_in files) (sym (at-path file f e)) ∙ absent)
        | false ↦ λ e. sym (stays-in false (uses_key (nodes_in files f) k))
      ]) refl
      ∙ ap (λ o. uses_key o k) (sym (m f));
  in_order = λ f. subst (λ o. AreInOrder (nodes_or_none o)) (sym (m f))
      (elim (is_at (path_order file) f) as (λ v. AreInOrder (nodes_or_none (cond v (Some nodes) (nodes_in files f)))) [ true ↦ order | false ↦ had.in_order f ]);
}

print-of-none : (o : Option (List Node)) (k : Key) → print_in node_reading o k ≡ print_of (nodes_or_none o) k
print-of-none None k = refl
print-of-none (Some nodes) k = refl

-- where one file alone has other nodes, the keys of which a print has changed are those that moved in it
pub moved-in-graph : (files more : Files) (file : List ℕ) (keys : List Key) →
    ((k : Key) → is_one keys k ≡ has_moved (nodes_or_none (nodes_in files file)) (nodes_or_none (nodes_in more file)) k) →
    ((f : List ℕ) → f ≢ file → nodes_in more f ≡ nodes_in files f) →
    (k : Key) → (is_one keys k ≡ true) ↔ (HaveSamePrints node_reading (nodes_in files) (nodes_in more) k → ⊥)
moved-in-graph files more file keys is others k = (
  λ e same. (moved_tells (nodes_or_none (nodes_in files file)) (nodes_or_none (nodes_in more file)) k).0 (sym (is k) ∙ e) (sym (print-of-none (nodes_in files file) k) ∙ same.at file ∙ print-of-none (nodes_in more file) k),
  λ differ. is k ∙ (moved_tells (nodes_or_none (nodes_in files file)) (nodes_or_none (nodes_in more file)) k).1 (λ e. differ (record {
    at = λ f. (elim (is_at (path_order file) f) as (λ v. is_at (path_order file) f ≡ v → print_in node_reading (nodes_in files f) k ≡ print_in node_reading (nodes_in more f) k) [
      | true ↦ λ t. subst (λ p. print_in node_reading (nodes_in files p) k ≡ print_in node_reading (nodes_in more p) k) (at-path file f t) (print-of-none (nodes_in files file) k ∙ e ∙ sym (print-of-none (nodes_in more file) k))
      | false ↦ λ t. ap (λ o. print_in node_reading o k) (sym (others f (λ same. (let here : is_at (path_order file) f ≡ true = subst (λ p. is_at (path_order file) p ≡ true) (sym same) (path-itself file) in let bad : true ≡ false = sym here ∙ t in cc))))
    ]) refl;
  })),
)
