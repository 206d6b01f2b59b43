-- What a hasher is fed of a key.
use Rattle.std.specs.Prelude.{◌≡◌, ℕ, List, ◌++◌, true, IsTrue}
use Rattle.std.proofs.Common.{refl, ap}
use Rattle.std.specs.declared.cmp.Ordering.{Ordering}
use Rattle.std.specs.declared.cmp.Ordering.TheVariants.{Less, Equal, Greater}
use Rattle.std.specs.Ordering.{is_eq, eq_by_cmp}
use Rattle.std.specs.Hash as fed
use Rattle.dep_key.specs.declared.key.Key.{Key}
use Rattle.dep_key.specs.KeyOrder.{kind_number, aspect_number, key_order}
use Rattle.dep_key.specs.KeysApart.{keys_apart}

-- The numbers of the kind and of the aspect, then the context and the name.
abbrev pub key_writes : Key → List (List ℕ)
key_writes key = fed.u64 (kind_number key.kind) ++ fed.u64 (aspect_number key.aspect) ++ fed.str key.context ++ fed.str key.name

equal_is : (o : Ordering) → is_eq o ≡ true → o ≡ Equal
equal_is Less e = absurd cc
equal_is Equal e = refl
equal_is Greater e = absurd cc

-- Equal keys are fed to a hasher alike.
pub same_writes : (a b : Key) → IsTrue (eq_by_cmp key_order a b) → key_writes a ≡ key_writes b
same_writes a b e = ap key_writes (keys_apart a b (equal_is (key_order a b) e))
