-- All names that are assigned are plain.
use Rattle.std.proofs.Common.{◌≡◌, ◌+◌, ◌-◌, ◌≤◌, ◌<◌, ◌∙◌, IsTrue, ℕ, Bool, true, false, cond, List, [], ◌∷◌, ◌++◌, Option, Some, None, map as each, length, refl, sym, ap, subst, arith, nat_cmp, suc, All}
use Rattle.std.specs.Prelude.{◌==◌, codes, option_and_then, unwrap_or}
use Rattle.std.specs.List.{list_all, flat_map}
use Rattle.std.specs.Ordering.{match_ordering}
use Rattle.std.specs.Cmp.Lexicographic.{slice_cmp}
use Rattle.std.specs.declared.cmp.Ordering.{Ordering}
use Rattle.std.specs.declared.cmp.Ordering.TheVariants.{Less, Equal, Greater}
use Rattle.std.specs.FinMap.{slice_cmp-IsAntisymmetric, nat_cmp-IsAntisymmetric}
use Rattle.std.proofs.lemmas.Bool.{and_from}
use Rattle.std.proofs.lemmas.Bool.Decides.{nat_tests}
use Rattle.std.proofs.lemmas.List.Folds.{list_all-append}
use Rattle.std.proofs.lemmas.List.Sums.{AllPass-from_list_all}
use Rattle.drv_outside.specs.Plain.{is_name_byte, is_plain_name, is_plain_path}
use Rattle.drv_outside.specs.declared.faults.MapFault.{MapFault}
use Rattle.serde_json.specs.Data.{Data, Members, member, no_members, null, boolean, number, string, array, object}
use Rattle.serde_json.specs.Find.{get, get_member, as_str, as_object}
use Rattle.output_names.specs.Stems.{stem_of}
use Rattle.output_names.specs.ModuleNames.{is_module_name}
use Rattle.output_names.proofs.StemsLemmas.{long_path, stem_name_plain}
use Rattle.output_names.proofs.ModuleNamesLemmas.{module_name_plain}
use Rattle.file_map.specs.Assigned.{name_of, file_names, names_for, all_names, names_of_file, names_of_module}
use Rattle.file_map.specs.Kinds.{is_known, is_source_kind, is_module_kind, given, object_kind, module_kind, dependencies_kind, image_kind, priors_kind, gate_kind}
use Rattle.file_map.specs.Reading.{first_fault, name_fault, output_fault, outputs_fault, object_fault, keys_fault}

no_first : (a b : Option MapFault) → first_fault a b ≡ None → a ≡ None
no_first None b e = refl
no_first (Some f) b e = cc

no_later : (a b : Option MapFault) → first_fault a b ≡ None → b ≡ None
no_later None b e = e
no_later (Some f) b e = cc

plain_text : (key kind name : List ℕ) (o : Option (List ℕ)) (plain : Bool) → o ≡ Some name → is_plain_name name ≡ plain → name_fault key kind o ≡ None → plain ≡ true
plain_text key kind name o true e f h = refl
plain_text key kind name o false e f h = let g : name_fault key kind (Some name) ≡ None = ap (name_fault key kind) (sym e) ∙ h in
    let k : name_fault key kind (Some name) ≡ cond false None (Some (MapFault.PathNotPlain key kind)) = ap (λ b. cond b None (Some (MapFault.PathNotPlain key kind))) f in cc

plain_output : (key kind name : List ℕ) (d : Data) → output_fault key kind d ≡ None → is_known key kind ≡ true → as_str d ≡ Some name → is_plain_name name ≡ true
plain_output key kind name d h known e = plain_text key kind name (as_str d) (is_plain_name name) e refl (sym (ap (λ b. cond b (name_fault key kind (as_str d)) None) known) ∙ h)

found : {A : Type 0} (r : Ordering) (x y : Option Data) (e d : Data) → match_ordering r x (Some e) x ≡ Some d → (r ≡ Equal → e ≡ d → A) → (x ≡ Some d → A) → A
found Less x y e d h f g = g h
found Equal x y e d h f g = f refl (cc)
found Greater x y e d h f g = g h

same_key : (k l : List ℕ) → slice_cmp nat_cmp k l ≡ Equal → k ≡ l
same_key k l e = slice_cmp-IsAntisymmetric nat_cmp-IsAntisymmetric k l e

plain_kind : (key kind name : List ℕ) (kinds : Members) (d : Data) → outputs_fault key kinds ≡ None → is_known key kind ≡ true → get_member kind kinds ≡ Some d → as_str d ≡ Some name → is_plain_name name ≡ true
plain_kind key kind name no_members d h known e f = cc
plain_kind key kind name (member l x ms) d h known e f = found (slice_cmp nat_cmp kind l) (get_member kind ms) None x d e
    (λ r same. plain_output key kind name d (subst (λ y. output_fault key kind y ≡ None) same (subst (λ k. output_fault key k x ≡ None) (sym (same_key kind l r)) (no_first _ _ h))) known f)
    (λ later. plain_kind key kind name ms d (no_later _ _ h) known later f)

plain_at : (key kind name : List ℕ) (d e : Data) → object_fault key (as_object d) ≡ None → is_known key kind ≡ true → get kind d ≡ Some e → as_str e ≡ Some name → is_plain_name name ≡ true
plain_at key kind name null e h known f g = cc
plain_at key kind name (boolean b) e h known f g = cc
plain_at key kind name (number n) e h known f g = cc
plain_at key kind name (string s) e h known f g = cc
plain_at key kind name (array ds) e h known f g = cc
plain_at key kind name (object ms) e h known f g = plain_kind key kind name ms e h known f g

plain_key : (key kind name : List ℕ) (map : Members) (d e : Data) → keys_fault map ≡ None → is_known key kind ≡ true → get_member key map ≡ Some d → get kind d ≡ Some e → as_str e ≡ Some name → is_plain_name name ≡ true
plain_key key kind name no_members d e h known f g k = cc
plain_key key kind name (member l x ms) d e h known f g k = found (slice_cmp nat_cmp key l) (get_member key ms) None x d f
    (λ r same. plain_at key kind name d e (subst (λ y. object_fault key (as_object y) ≡ None) same (subst (λ q. object_fault q (as_object x) ≡ None) (sym (same_key key l r)) (no_first _ _ h))) known g k)
    (λ later. plain_key key kind name ms d e (no_later _ _ h) known later g k)

step_in : {A B : Type 0} (f : A → Option B) (o : Option A) (b : B) → option_and_then f o ≡ Some b → (a : A) × (o ≡ Some a) × (f a ≡ Some b)
step_in f None b e = cc
step_in f (Some a) b e = (a, refl, e)

-- A name that a map gives for a known kind is plain.
given_plain : (map : Members) (key kind name : List ℕ) → keys_fault map ≡ None → is_known key kind ≡ true → given map key kind ≡ Some name → is_plain_name name ≡ true
given_plain map key kind name h known e =
    let text = step_in as_str (option_and_then (get kind) (get_member key map)) name e in
    let under = step_in (get kind) (get_member key map) text.0 text.1 in
    plain_key key kind name map under.0 text.0 h known under.1 under.2 text.2

plain_or : (o : Option (List ℕ)) (default : List ℕ) → ((name : List ℕ) → o ≡ Some name → is_plain_name name ≡ true) → is_plain_name default ≡ true → is_plain_name (unwrap_or o default) ≡ true
plain_or None default f h = h
plain_or (Some name) default f h = f name refl

name_plain : (map : Members) (key kind default : List ℕ) → keys_fault map ≡ None → is_known key kind ≡ true → is_plain_name default ≡ true → is_plain_name (name_of map key kind default) ≡ true
name_plain map key kind default h known d = plain_or (given map key kind) default (λ name e. given_plain map key kind name h known e) d

no_zero : (n : ℕ) → 0 < n → (n == 0) ≡ false
no_zero n h = grind (arith, nat_tests)

source_known : (path kind : List ℕ) → is_plain_path path ≡ true → is_source_kind kind ≡ true → is_known path kind ≡ true
source_known path kind h k =
    let long : 6 ≤ length path = long_path path h in
    ap (λ b. cond b (is_module_kind kind) (is_source_kind kind)) (no_zero (length path) (omega (arith, long))) ∙ k

source_plain : (map : Members) (path kind ending : List ℕ) → keys_fault map ≡ None → is_plain_path path ≡ true → is_source_kind kind ≡ true → list_all is_name_byte ending ≡ true → length ending ≤ 55 → is_plain_name (name_of map path kind (stem_of path ++ ending)) ≡ true
source_plain map path kind ending h p k e short = name_plain map path kind (stem_of path ++ ending) h (source_known path kind p k) (stem_name_plain path ending p e short)

file_plain : (map : Members) (path : List ℕ) → keys_fault map ≡ None → is_plain_path path ≡ true → list_all is_plain_name (names_of_file (file_names map path)) ≡ true
file_plain map path h p = and_from _ _ (source_plain map path object_kind (codes ".o") h p refl refl (omega arith))
    (and_from _ _ (source_plain map path module_kind (codes "~partial.swiftmodule") h p refl refl (omega arith))
    (and_from _ _ (source_plain map path dependencies_kind (codes ".swiftdeps") h p refl refl (omega arith)) refl))

own_plain : (map : Members) (name kind ending : List ℕ) → keys_fault map ≡ None → is_module_name name ≡ true → is_module_kind kind ≡ true → list_all is_name_byte ending ≡ true → length ending ≤ 55 → is_plain_name (name_of map [] kind (name ++ ending)) ≡ true
own_plain map name kind ending h m k e short = name_plain map [] kind (name ++ ending) h k (module_name_plain name ending m e short)

files_plain : (map : Members) (paths : List (List ℕ)) → keys_fault map ≡ None → All (λ path. IsTrue (is_plain_path path)) paths → list_all is_plain_name (flat_map names_of_file (each (file_names map) paths)) ≡ true
files_plain map [] h all = refl
files_plain map (path ∷ paths) h all =
    list_all-append is_plain_name (names_of_file (file_names map path)) (flat_map names_of_file (each (file_names map) paths))
    ∙ and_from _ _ (file_plain map path h (all 0 path (omega arith))) (files_plain map paths h (λ k d lt. all (suc k) d (omega (arith, lt))))

names_plain : (map : Members) (name : List ℕ) (paths : List (List ℕ)) → keys_fault map ≡ None → is_module_name name ≡ true → All (λ path. IsTrue (is_plain_path path)) paths → list_all is_plain_name (all_names (names_for map name paths)) ≡ true
names_plain map name paths h m all =
    list_all-append is_plain_name (flat_map names_of_file (names_for map name paths).files) (names_of_module (names_for map name paths))
    ∙ and_from _ _ (files_plain map paths h all)
    (and_from _ _ (own_plain map name module_kind (codes ".swiftmodule") h m refl refl (omega arith))
    (and_from _ _ (own_plain map name image_kind (codes ".image") h m refl refl (omega arith))
    (and_from _ _ (own_plain map name priors_kind (codes ".priors") h m refl refl (omega arith))
    (and_from _ _ (own_plain map name dependencies_kind (codes ".record.json") h m refl refl (omega arith))
    (and_from _ _ (own_plain map name gate_kind (codes ".gate") h m refl refl (omega arith)) refl)))))

-- All names that are assigned are plain.
pub are_plain : (map : Members) (name : List ℕ) (paths : List (List ℕ)) → keys_fault map ≡ None → is_module_name name ≡ true → All (λ path. IsTrue (is_plain_path path)) paths → All (λ name. IsTrue (is_plain_name name)) (all_names (names_for map name paths))
are_plain map name paths h m all k d lt = AllPass-from_list_all is_plain_name (all_names (names_for map name paths)) (names_plain map name paths h m all) k d lt
