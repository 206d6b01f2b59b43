-- What checking a file asks are its uses, and so an unchanged file gives the same.
use Rattle.std.proofs.Common.{◌≡◌, true, List, [], ◌∷◌, refl, sym, subst, ◌⊎◌, inl, inr}
use Rattle.std.specs.BTreeSet.{insert_key}
use Rattle.std.specs.Ordering.{match_ordering}
use Rattle.std.specs.declared.cmp.Ordering.TheVariants.{Less, Equal, Greater}
use Rattle.queries.specs.Queries.{Among}
use Rattle.dep_key.specs.declared.key.Key.{Key}
use Rattle.dep_key.specs.KeyOrder.{key_order}
use Rattle.dep_key.specs.KeysApart.{keys_apart}
use Rattle.swift_ast.specs.declared.declarations.FileTree.{FileTree}
use Rattle.decl_index.specs.Declarations.{declarations_in}
use Rattle.checks.specs.Logs.{entered}
use Rattle.checks.specs.OwnKeys.{uses}
use Rattle.type_infer.specs.Meanings.{meaning_in}
use Rattle.type_infer.specs.Sound.{is_asked_kind}
use Rattle.type_infer.proofs.ListFacts.{flat-among}
use Rattle.type_infer.proofs.PlainMeanings.{meanings-plain}
use Rattle.iface_print.specs.Coverage.{IsUse, IsDefinitionUse}
use Rattle.iface_print.proofs.Covered.{used}
use Rattle.body_check.specs.Declarations.{file_check}
use Rattle.body_check.specs.Files.{file_uses, file_asks}
use Rattle.body_check.proofs.FileLemmas.{same_file}
use Rattle.file_coverage.specs.Laws.{implementation, AskedKeysAreUses, UnchangedFilesGiveTheSame}
use Rattle.file_coverage.proofs.Asking.{IsAsked, asked-is}
use Rattle.file_coverage.proofs.DeclarationLemmas.{file-fine}

insert-new : (set : List Key) (k : Key) → Among (insert_key key_order set k) k
insert-new [] k = inl refl
insert-new (x ∷ xs) k =
    (elim (key_order k x) as (λ r. key_order k x ≡ r → Among (match_ordering r (k ∷ x ∷ xs) (x ∷ xs) (x ∷ insert_key key_order xs k)) k)
    [ Less ↦ λ e. inl refl | Equal ↦ λ e. inl (sym (keys_apart k x e)) | Greater ↦ λ e. inr (insert-new xs k) ]) refl

insert-old : (set : List Key) (k u : Key) → Among set u → Among (insert_key key_order set k) u
insert-old [] k u m = absurd m
insert-old (x ∷ xs) k u m = elim (key_order k x) as (λ r. Among (match_ordering r (k ∷ x ∷ xs) (x ∷ xs) (x ∷ insert_key key_order xs k)) u)
    [ Less ↦ inr m | Equal ↦ m | Greater ↦ elim m [ inl e ↦ inl e | inr n ↦ inr (insert-old xs k u n) ] ]

-- what is entered into a set is one of it
among-entered : (xs set : List Key) (u : Key) → Among set u ⊎ Among xs u → Among (entered key_order set xs) u
among-entered [] set u m = elim m [ inl a ↦ a | inr n ↦ absurd n ]
among-entered (x ∷ xs) set u m = among-entered xs (insert_key key_order set x) u (elim m [
  | inl a ↦ inl (insert-old set x u a)
  | inr n ↦ elim n [ inl e ↦ inl (subst (λ k. Among (insert_key key_order set x) k) e (insert-new set x)) | inr n ↦ inr n ]
])

used-among : (files : List FileTree) (f : FileTree) (u : Key) → Among (uses (meaning_in files) (file_check f)) u → Among (file_uses (meaning_in files) f) u
unfolding file_uses
used-among files f u w = among-entered (uses (meaning_in files) (file_check f)) [] u (inr w)

pub asked-keys : AskedKeysAreUses
unfolding file_asks
asked-keys files h f mf key w =
    let r : IsAsked key × (IsDefinitionUse files f key ⊎ Among (uses (meaning_in files) (file_check f)) key) =
    asked-is (meaning_in files) (IsDefinitionUse files f) (file_check f)
    (file-fine (meaning_in files) (meanings-plain files h) (IsDefinitionUse files f) f (λ d md k mk u v. record { declaration = d; declared = md; key = k; has = mk; uses = v }) (λ d md. h.each d (flat-among declarations_in files f d mf md))) key w in
    (r.0, elim r.1 [ inl d ↦ inl d | inr v ↦ inr (used-among files f key v) ])

pub unchanged-files : UnchangedFilesGiveTheSame
unchanged-files changed p s hp hs c f mf free =
    same_file (meaning_in p) (meaning_in s) f (λ key w. (let r : (is_asked_kind key.kind ≡ true) × IsUse (implementation p) p f key = asked-keys p hp f mf key w in used (implementation p) changed p s hp hs c f mf free key r.0 r.1))
