-- What is found at the spots of a file are its declarations.
use Rattle.std.proofs.Common.{◌≡◌, ℕ, zero, suc, ◌+◌, List, [], ◌∷◌, ◌++◌, map, flat_map, length, Option, Some, None, refl, ap, sym, ◌∙◌, subst, arith, append_assoc, ◌-◌, ◌<◌}
use Rattle.std.specs.List.{slice_get}
use Rattle.std.specs.Option.{option_map, option_and_then}
use Rattle.std.proofs.lemmas.List.{map-append}
use Rattle.dep_key.specs.declared.key.Key.{Key}
use Rattle.dep_key.specs.KeyBuilders.{key_name}
use Rattle.swift_ast.specs.declared.declarations.FileTree.{FileTree}
use Rattle.swift_ast.specs.declared.declarations.Access.{Access}
use Rattle.swift_ast.specs.declared.declarations.Decl.{Decl}
use Rattle.swift_ast.specs.declared.declarations.Decl.TheVariants.{Named, Extension as Extended}
use Rattle.swift_ast.specs.declared.declarations.NamedDecl.TheVariants as named
use Rattle.decl_index.specs.declared.index.DeclRef.{DeclRef}
use Rattle.decl_index.specs.declared.spots.Spot.{Spot}
use Rattle.decl_index.specs.Declarations.{Declaration, keys_of, declarations_in, file_keys, decl_declarations, private_structs, struct_member_declaration, extension_member_declaration, struct_member_name, struct_member_item, extension_member_name, extension_member_item, is_private, is_among, global_keys, struct_keys, extension_keys}
use Rattle.decl_index.specs.Spots.{spot, member_spots, decl_spots, spots_from, file_spots}
use Rattle.decl_index.specs.Found.{part_with, with_keys, at_spot, found_in, found_at, declaration_at}

-- at each spot, with its keys, is the declaration
abbrev pub Match : List ℕ → List Decl → List (List Key) → List Spot → List Declaration → Type 0
Match path whole [] [] [] = Unit {0}
Match path whole [] [] (d ∷ ds) = ⊥
Match path whole [] (s ∷ ss) ds = ⊥
Match path whole (k ∷ ks) [] ds = ⊥
Match path whole (k ∷ ks) (s ∷ ss) [] = ⊥
Match path whole (k ∷ ks) (s ∷ ss) (d ∷ ds) = (at_spot path whole k s ≡ Some d) × Match path whole ks ss ds

looked_up : (path : List ℕ) (whole : List Decl) (ks : List (List Key)) (ss : List Spot) (ds : List Declaration) → Match path whole ks ss ds → (place : ℕ) → found_in path whole ks ss place ≡ slice_get ds place
looked_up path whole [] [] [] m place = refl
looked_up path whole [] [] (d ∷ ds) m place = absurd m
looked_up path whole [] (s ∷ ss) ds m place = absurd m
looked_up path whole (k ∷ ks) [] ds m place = absurd m
looked_up path whole (k ∷ ks) (s ∷ ss) [] m place = absurd m
looked_up path whole (k ∷ ks) (s ∷ ss) (d ∷ ds) m zero = m.0
looked_up path whole (k ∷ ks) (s ∷ ss) (d ∷ ds) m (suc place) = looked_up path whole ks ss ds m.1 place

joined : (path : List ℕ) (whole : List Decl) (ks ls : List (List Key)) (ss ts : List Spot) (ds es : List Declaration) → Match path whole ks ss ds → Match path whole ls ts es → Match path whole (ks ++ ls) (ss ++ ts) (ds ++ es)
joined path whole [] ls [] ts [] es m n = n
joined path whole [] ls [] ts (d ∷ ds) es m n = absurd m
joined path whole [] ls (s ∷ ss) ts ds es m n = absurd m
joined path whole (k ∷ ks) ls [] ts ds es m n = absurd m
joined path whole (k ∷ ks) ls (s ∷ ss) ts [] es m n = absurd m
joined path whole (k ∷ ks) ls (s ∷ ss) ts (d ∷ ds) es m n = (m.0, joined path whole ks ls ss ts ds es m.1 n)

-- members from one of them on
members : {X : Type 0} (path : List ℕ) (whole : List Decl) (decl : ℕ) (all : List X) (made : X → Declaration) →
    ((at : ℕ) (x : X) → slice_get all at ≡ Some x → at_spot path whole (made x).keys (spot decl (Some at)) ≡ Some (made x)) →
    (from : ℕ) (xs : List X) → ((j : ℕ) → slice_get all (from + j) ≡ slice_get xs j) → Match path whole (keys_of (map made xs)) (member_spots decl from (length xs)) (map made xs)
members path whole decl all made each from [] rest = tt
members path whole decl all made each from (x ∷ xs) rest =
    let first : from + 0 ≡ from = omega arith in
    let here : slice_get all from ≡ Some x = ap (slice_get all) (sym first) ∙ rest 0 in
    (each from x here, members path whole decl all made each (from + 1) xs (λ j. (let next : (from + 1) + j ≡ from + suc j = omega arith in ap (slice_get all) next ∙ rest (suc j))))

struct_members : (path context : List ℕ) (whole : List Decl) (decl : ℕ) (access : Option Access) (t : _) → slice_get whole decl ≡ Some (Named access (named.Struct t)) →
    Match path whole (keys_of (map (struct_member_declaration path context) t.members)) (member_spots decl 0 (length t.members)) (map (struct_member_declaration path context) t.members)
struct_members path context whole decl access t e = members path whole decl t.members (struct_member_declaration path context)
    (λ at x here.
    (let keys = (struct_member_declaration path context x).keys in
    ap (option_and_then (part_with path keys (Some at))) e ∙ ap (option_map (λ m. with_keys path keys m.0 (struct_member_name m.1) (struct_member_item m.1))) here))
    0 t.members (λ j. (let start : 0 + j ≡ j = omega arith in ap (slice_get t.members) start))

extension_members : (path context : List ℕ) (whole : List Decl) (decl : ℕ) (t : _) → slice_get whole decl ≡ Some (Extended t) →
    Match path whole (keys_of (map (extension_member_declaration path context) t.members)) (member_spots decl 0 (length t.members)) (map (extension_member_declaration path context) t.members)
extension_members path context whole decl t e = members path whole decl t.members (extension_member_declaration path context)
    (λ at x here.
    (let keys = (extension_member_declaration path context x).keys in
    ap (option_and_then (part_with path keys (Some at))) e ∙ ap (option_map (λ m. with_keys path keys m.0 (extension_member_name m.1) (extension_member_item m.1))) here))
    0 t.members (λ j. (let start : 0 + j ≡ j = omega arith in ap (slice_get t.members) start))

-- a declaration and its members
one : (path : List ℕ) (own : List (List ℕ)) (whole : List Decl) (decl : ℕ) (d : Decl) → slice_get whole decl ≡ Some d →
    Match path whole (keys_of (decl_declarations path own d)) (decl_spots decl d) (decl_declarations path own d)
one path own whole decl (Named access (named.Global t)) e = (ap (option_and_then (part_with path (global_keys (key_name path (is_private access) t.name.text)) None)) e, tt)
one path own whole decl (Named access (named.Func t)) e = (ap (option_and_then (part_with path (global_keys (key_name path (is_private access) t.name.text)) None)) e, tt)
one path own whole decl (Named access (named.Alias t)) e = (ap (option_and_then (part_with path (global_keys (key_name path (is_private access) t.name.text)) None)) e, tt)
one path own whole decl (Named access (named.Struct t)) e = (ap (option_and_then (part_with path (struct_keys (key_name path (is_private access) t.name.text)) None)) e, struct_members path (key_name path (is_private access) t.name.text) whole decl access t e)
one path own whole decl (Extended t) e = (ap (option_and_then (part_with path (extension_keys (key_name path (is_among own t.name.text) t.name.text)) None)) e, extension_members path (key_name path (is_among own t.name.text) t.name.text) whole decl t e)

-- declarations from one of them on
all : (path : List ℕ) (own : List (List ℕ)) (whole : List Decl) (from : ℕ) (ds : List Decl) → ((j : ℕ) → slice_get whole (from + j) ≡ slice_get ds j) →
    Match path whole (keys_of (flat_map (decl_declarations path own) ds)) (spots_from from ds) (flat_map (decl_declarations path own) ds)
all path own whole from [] rest = tt
all path own whole from (d ∷ ds) rest =
    let first : from + 0 ≡ from = omega arith in
    let here : slice_get whole from ≡ Some d = ap (slice_get whole) (sym first) ∙ rest 0 in
    let made = decl_declarations path own d in
    let more = flat_map (decl_declarations path own) ds in
    let later = all path own whole (from + 1) ds (λ j. (let next : (from + 1) + j ≡ from + suc j = omega arith in ap (slice_get whole) next ∙ rest (suc j))) in
    subst (λ ks. Match path whole ks (decl_spots from d ++ spots_from (from + 1) ds) (made ++ more)) (sym (map-append (λ (x : Declaration). x.keys) made more))
    (joined path whole (keys_of made) (keys_of more) (decl_spots from d) (spots_from (from + 1) ds) made more (one path own whole from d here) later)

in_file : (file : FileTree) (place : ℕ) → found_in file.path file.decls (file_keys file) (file_spots file) place ≡ slice_get (declarations_in file) place
in_file file place = looked_up file.path file.decls (file_keys file) (file_spots file) (declarations_in file) (all file.path (private_structs file.decls) file.decls 0 file.decls (λ j. (let start : 0 + j ≡ j = omega arith in ap (slice_get file.decls) start))) place

abbrev At : ℕ → ℕ → DeclRef
At number place = record { file = number; place = place }

by_number : (files : List FileTree) (number place : ℕ) → found_at files (map file_keys files) (map file_spots files) (At number place) ≡ declaration_at files (At number place)
by_number [] number place = refl
by_number (file ∷ files) zero place = in_file file place
by_number (file ∷ files) (suc number) place = by_number files number place

-- What is found of a reference is its declaration.
found_is : (files : List FileTree) (keys : List (List (List Key))) (spots : List (List Spot)) (at : DeclRef) → keys ≡ map file_keys files → spots ≡ map file_spots files → found_at files keys spots at ≡ declaration_at files at
found_is files keys spots at k s = ap (λ ks. found_at files ks spots at) k ∙ ap (λ ss. found_at files (map file_keys files) ss at) s ∙ by_number files at.file at.place

-- What is found by lists that an index keeps is a declaration of the files for which it stands.
pub shown_is : (shown : Option Declaration) (value held files : List FileTree) (held_keys keys : List (List (List Key))) (held_spots spots : List (List Spot)) (at : DeclRef) →
    shown ≡ found_at files keys spots at → files ≡ held → keys ≡ held_keys → spots ≡ held_spots → held_keys ≡ map file_keys held → held_spots ≡ map file_spots held → held ≡ value → shown ≡ declaration_at value at
shown_is shown value held files held_keys keys held_spots spots at found f k s keys_are spots_are is =
    let keys_in : keys ≡ map file_keys files = k ∙ keys_are ∙ ap (map file_keys) (sym f) in
    let spots_in : spots ≡ map file_spots files = s ∙ spots_are ∙ ap (map file_spots) (sym f) in
    found ∙ found_is files keys spots at keys_in spots_in ∙ ap (λ fs. declaration_at fs at) (f ∙ is)

-- one more member is entered, and one fewer is left
pub one_more_member : (decl member count : ℕ) (had now whole : List Spot) → member < count → now ≡ had ++ spot decl (Some member) ∷ [] → had ++ member_spots decl member (count - member) ≡ whole →
    now ++ member_spots decl (member + 1) (count - (member + 1)) ≡ whole
one_more_member decl member count had now whole less made before =
    let left : count - member ≡ suc (count - (member + 1)) = omega (arith, less) in
    let more = member_spots decl (member + 1) (count - (member + 1)) in
    ap (λ l. l ++ more) made ∙ append_assoc had (spot decl (Some member) ∷ []) more ∙ ap (λ n. had ++ member_spots decl member n) (sym left) ∙ before
