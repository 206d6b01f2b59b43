-- Sets of names.
use Rattle.std.proofs.Common.{◌≡◌, ℕ, Bool, true, false, not, List, [], ◌∷◌, ◌++◌, ◌||◌, ◌&&◌, cond, if◌then◌else◌, map, flat_map, nat_cmp, refl, sym, ap, ◌∙◌, Option}
use Rattle.std.specs.List.{list_any}
use Rattle.std.specs.Ordering.{eq_by_cmp, is_eq, ordering_then}
use Rattle.std.specs.declared.cmp.Ordering.{Ordering}
use Rattle.std.specs.declared.cmp.Ordering.TheVariants.{Less, Equal, Greater}
use Rattle.std.specs.Cmp.Lexicographic.{slice_cmp, texts_ties}
use Rattle.std.proofs.lemmas.List.{map-append}
use Rattle.std.proofs.Math.Bool.{and-false}
use Rattle.dep_key.specs.KeyOrder.{key_order}
use Rattle.swift_ast.specs.declared.declarations.Decl.{Decl}
use Rattle.swift_ast.specs.declared.declarations.Decl.TheVariants.{Named, Extension as Extended}
use Rattle.swift_ast.specs.declared.declarations.NamedDecl.TheVariants as named
use Rattle.swift_ast.specs.declared.declarations.Access.{Access}
use Rattle.swift_ast.specs.declared.declarations.StructMember.{StructMember}
use Rattle.swift_ast.specs.declared.declarations.ExtensionMember.{ExtensionMember}
use Rattle.dep_key.specs.KeyBuilders.{key_name}
use Rattle.decl_index.specs.Declarations.{is_private, is_among, struct_member_name, extension_member_name}
use Rattle.expr_check.specs.Scopes.{same_text}
use Rattle.body_check.specs.Declarations.{Declared, member_declared, names_declared}
use Rattle.file_check.specs.Sites.{name_key, decl_keys}

-- one more name among those that are known, and one fewer among those that are left
pub one_more_known : (at known left : Bool) → cond at true known || left ≡ known || (at || left)
one_more_known true true left = refl
one_more_known true false left = refl
one_more_known false true left = refl
one_more_known false false left = refl

mapped_twice : {X : Type 0} (f : X → Declared) (xs : List X) → map (λ x. name_key (f x)) xs ≡ map name_key (map f xs)
mapped_twice f [] = refl
mapped_twice f (x ∷ xs) = ap (λ ks. name_key (f x) ∷ ks) (mapped_twice f xs)

one_keys : (path : List ℕ) (own : List (List ℕ)) (d : Decl) → decl_keys path own d ≡ map name_key (names_declared path own d)
one_keys path own (Named access (named.Global d)) = refl
one_keys path own (Named access (named.Func d)) = refl
one_keys path own (Named access (named.Alias d)) = refl
one_keys path own (Named access (named.Struct d)) =
    ap (λ ks. name_key (member_declared [] d.name.text access) ∷ ks) (mapped_twice (λ (m : Option Access × StructMember). member_declared (key_name path (is_private access) d.name.text) (struct_member_name m.1) m.0) d.members)
one_keys path own (Extended d) = mapped_twice (λ (m : Option Access × ExtensionMember). member_declared (key_name path (is_among own d.name.text) d.name.text) (extension_member_name m.1) m.0) d.members

-- the names of a file, as keys
pub file_keys : (path : List ℕ) (own : List (List ℕ)) (ds : List Decl) → flat_map (decl_keys path own) ds ≡ map name_key (flat_map (names_declared path own) ds)
file_keys path own [] = refl
file_keys path own (d ∷ ds) =
    (λ i. one_keys path own d i ++ file_keys path own ds i) ∙ sym (map-append name_key (names_declared path own d) (flat_map (names_declared path own) ds))

then_equal : (one two : Ordering) → is_eq (ordering_then one two) ≡ is_eq one && is_eq two
then_equal Less two = refl
then_equal Equal two = refl
then_equal Greater two = refl

texts_equal : (c d n m : List ℕ) → is_eq (ordering_then (slice_cmp nat_cmp c d) (slice_cmp nat_cmp n m)) ≡ same_text c d && same_text n m
texts_equal c d n m = then_equal (slice_cmp nat_cmp c d) (slice_cmp nat_cmp n m) ∙ sym (λ i. texts_ties c d i && texts_ties n m i)

and_true : (b : Bool) → b ≡ b && true
and_true true = refl
and_true false = refl

one_other : (e : Declared) (context name : List ℕ) (private : Bool) →
    eq_by_cmp key_order (name_key e) (name_key (record { context = context; name = name; private = not private }))
    ≡ same_text e.context context && same_text e.name name && (if private then not e.private else e.private)
one_other e context name private = other e.context context e.name name e.private private where
  other : (c d n m : List ℕ) (p q : Bool) → eq_by_cmp key_order (name_key (record { context = c; name = n; private = p })) (name_key (record { context = d; name = m; private = not q })) ≡ same_text c d && same_text n m && (if q then not p else p)
  other c d n m true true = sym (and-false (same_text c d && same_text n m))
  other c d n m true false = texts_equal c d n m ∙ and_true (same_text c d && same_text n m)
  other c d n m false true = texts_equal c d n m ∙ and_true (same_text c d && same_text n m)
  other c d n m false false = sym (and-false (same_text c d && same_text n m))

-- a name with the other visibility is among the keys
pub others : (names : List Declared) (context name : List ℕ) (private : Bool) →
    list_any (λ k. eq_by_cmp key_order k (name_key (record { context = context; name = name; private = not private }))) (map name_key names)
    ≡ list_any (λ e. same_text e.context context && same_text e.name name && (if private then not e.private else e.private)) names
others [] context name private = refl
others (e ∷ es) context name private = λ i. one_other e context name private i || others es context name private i
