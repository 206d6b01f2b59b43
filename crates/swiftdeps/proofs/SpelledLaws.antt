-- What is written can be spelled with the identifiers that are in use.
use Rattle.std.proofs.Common.{◌≡◌, ◌⊎◌, inl, inr, ℕ, suc, ◌+◌, ◌<◌, ◌≤◌, Bool, true, false, cond, nat_eq, List, [], ◌∷◌, ◌++◌, length, get_or, take, refl, sym, ap, ◌∙◌, subst, arith}
use Rattle.std.specs.Prelude.{IsTrue, IsUtf8, codes}
use Rattle.std.specs.List.{flat_map, list_all, AllByRecursion}
use Rattle.std.specs.Cmp.Lexicographic.{pointwise, bytes_decides}
use Rattle.std.proofs.lemmas.List.Concat.{flat_map-cons}
use Rattle.std.proofs.Math.Dec.{eqb-suc-zero}
use Rattle.std.specs.List.Sorted.{IsStrictlySortedBy}
use Rattle.dep_key.specs.declared.key.Key.{Key}
use Rattle.dep_key.specs.declared.graph.Node.{Node}
use Rattle.dep_key.specs.declared.graph.FileGraph.{FileGraph}
use Rattle.dep_key.specs.KeyShapes.{has_shape}
use Rattle.swiftdeps.specs.Spelling.{place_of, HasNumber, AreIdentifiers, IsIdentifier, IsSpelledKey, IsSpelledNode, IsSpelledFile, BytesSpell, seen_items}
use Rattle.swiftdeps.specs.Written.{key_texts, node_texts, file_texts, texts_in, AreNamesOf, is_shaped, IsWritable, AreWritable}
use Rattle.swiftdeps.specs.Shown.{StandsForSpelling, AreUtf8}
use Rattle.swiftdeps.proofs.NameLaws.{Among, to_among, from_among}
use Rattle.swiftdeps.proofs.Taking.{both}
use Rattle.swiftdeps.proofs.WriteLaws.{flat_more}
use Rattle.std.proofs.Math.Seq.{take_all}

among_left : {A : Type 0} (xs ys : List A) (x : A) → Among xs x → Among (xs ++ ys) x
among_left [] ys x h = absurd h
among_left (y ∷ xs) ys x (inl e) = inl e
among_left (y ∷ xs) ys x (inr h) = inr (among_left xs ys x h)

among_right : {A : Type 0} (xs ys : List A) (x : A) → Among ys x → Among (xs ++ ys) x
among_right [] ys x h = h
among_right (y ∷ xs) ys x h = inr (among_right xs ys x h)

all_among : {A : Type 0} (P : A → Type 0) (xs : List A) → ((x : A) → Among xs x → P x) → AllByRecursion P xs
all_among P [] f = tt
all_among P (x ∷ xs) f = (f x (inl refl), all_among P xs (λ y h. f y (inr h)))

place_step : (y : List ℕ) (ys : List (List ℕ)) (text : List ℕ) → (y ≡ text) ⊎ (place_of ys text < length ys) → place_of (y ∷ ys) text < suc (length ys)
place_step y ys text h = by (pointwise nat_eq y text) refl h
  where
    by : (b : Bool) → b ≡ pointwise nat_eq y text → (y ≡ text) ⊎ (place_of ys text < length ys) → cond b 0 (suc (place_of ys text)) < suc (length ys)
    by true e h = omega arith
    by false e (inl same) = absurd (different (e ∙ (bytes_decides y text).1 same))
      where
        different : false ≡ true → ⊥
        different e = cc
    by false e (inr h) = omega (arith, h)

place_within : (names : List (List ℕ)) (text : List ℕ) → Among names text → place_of names text < length names
place_within [] text h = absurd h
place_within (y ∷ ys) text (inl e) = place_step y ys text (inl e)
place_within (y ∷ ys) text (inr h) = place_step y ys text (inr (place_within ys text h))

-- each text of the files has a number
has_number : (files : List FileGraph) (names : List (List ℕ)) → AreNamesOf files names → (text : List ℕ) → Among (texts_in files) text → HasNumber names text
has_number files names are [] h = omega arith
has_number files names are (b ∷ bs) h = omega (arith, place_within names (b ∷ bs) (to_among names (b ∷ bs) (are.all (b ∷ bs) (rw (eqb-suc-zero (length bs)) refl) (from_among (texts_in files) (b ∷ bs) h))))

pub are_identifiers : (files : List FileGraph) (names : List (List ℕ)) → AreNamesOf files names → AreUtf8 files → AreIdentifiers names
are_identifiers files names are utf8 = (are.ascending, all_among IsIdentifier names (λ text h. let used = are.in_use text (from_among names text h) in (used.0, utf8 text used.1)))

-- what each text has that is among these
abbrev AllNumbered : List (List ℕ) → List (List ℕ) → Type 0
AllNumbered names texts = (text : List ℕ) → Among texts text → HasNumber names text

key_spelled : (names : List (List ℕ)) (key : Key) → IsTrue (has_shape key) → AllNumbered names (key_texts key) → IsSpelledKey names key
key_spelled names key shape f = record { shape = shape; context = f key.context (inl refl); name = f key.name (inr (inl refl)) }

keys_spelled : (names : List (List ℕ)) (keys : List Key) → IsTrue (list_all has_shape keys) → AllNumbered names (flat_map key_texts keys) → AllByRecursion (IsSpelledKey names) keys
keys_spelled names [] shapes f = tt
keys_spelled names (key ∷ keys) shapes f =
    let s = both (has_shape key) (list_all has_shape keys) shapes in
    let split = flat_map-cons key_texts key keys in
    let g : AllNumbered names (key_texts key ++ flat_map key_texts keys) = subst (AllNumbered names) split f in
    (key_spelled names key s.0 (λ text h. g text (among_left (key_texts key) (flat_map key_texts keys) text h)), keys_spelled names keys s.1 (λ text h. g text (among_right (key_texts key) (flat_map key_texts keys) text h)))

node_spelled : (names : List (List ℕ)) (node : Node) → IsTrue (is_shaped node) → AllNumbered names (node_texts node) → IsSpelledNode names node
node_spelled names node shaped f =
    let s = both (has_shape node.key) (list_all has_shape node.uses) shaped in
    record {
      key = key_spelled names node.key s.0 (λ text h. f text (among_left (key_texts node.key) (flat_map key_texts node.uses) text h));
      uses = keys_spelled names node.uses s.1 (λ text h. f text (among_right (key_texts node.key) (flat_map key_texts node.uses) text h));
    }

nodes_spelled : (names : List (List ℕ)) (nodes : List Node) → IsTrue (list_all is_shaped nodes) → AllNumbered names (flat_map node_texts nodes) → AllByRecursion (IsSpelledNode names) nodes
nodes_spelled names [] shapes f = tt
nodes_spelled names (node ∷ nodes) shapes f =
    let s = both (is_shaped node) (list_all is_shaped nodes) shapes in
    let g : AllNumbered names (node_texts node ++ flat_map node_texts nodes) = subst (AllNumbered names) (flat_map-cons node_texts node nodes) f in
    (node_spelled names node s.0 (λ text h. g text (among_left (node_texts node) (flat_map node_texts nodes) text h)), nodes_spelled names nodes s.1 (λ text h. g text (among_right (node_texts node) (flat_map node_texts nodes) text h)))

files_spelled : (names : List (List ℕ)) (files : List FileGraph) → AllByRecursion IsWritable files → AllNumbered names (texts_in files) → AllByRecursion (IsSpelledFile names) files
files_spelled names [] w f = tt
files_spelled names (file ∷ files) w f =
    let g : AllNumbered names (file_texts file ++ texts_in files) = subst (AllNumbered names) (flat_map-cons file_texts file files) f in
    let own : AllNumbered names (file_texts file) = λ text h. g text (among_left (file_texts file) (texts_in files) text h) in (
      record { filled = w.0.path; path = own file.path (inl refl); order = w.0.order; nodes = nodes_spelled names file.nodes w.0.shapes (λ text h. own text (inr h)) },
      files_spelled names files w.1 (λ text h. g text (among_right (file_texts file) (texts_in files) text h)),
    )

-- What stands for the spelling is read back, where the files can be written and their texts are UTF-8.
pub spells : (version : ℕ) (files : List FileGraph) (stream bytes : List ℕ) → AreWritable files → AreUtf8 files → bytes ≡ codes "DEPS" ++ stream → StandsForSpelling version files stream → BytesSpell version files bytes
spells version files stream bytes w utf8 signed s = record {
  stream = stream;
  signed = signed;
  whole = ap (λ x. x.1) s.read;
  items = record {
    names = s.names;
    are_identifiers = are_identifiers files s.names s.are_names utf8;
    are_files = (w.0, files_spelled s.names files w.1 (has_number files s.names s.are_names));
    spelled = ap (λ x. seen_items x.0) s.read ∙ s.spelled;
  };
}

pub one_writable : (file : FileGraph) → IsWritable file → AreWritable (file ∷ [])
unfolding IsStrictlySortedBy
one_writable file w = ((tt, tt), (w, tt))

-- ---- that all texts are UTF-8

pub all_append : {A : Type 0} (P : A → Type 0) (xs ys : List A) → AllByRecursion P xs → AllByRecursion P ys → AllByRecursion P (xs ++ ys)
all_append P [] ys a b = b
all_append P (x ∷ xs) ys a b = (a.0, all_append P xs ys a.1 b)

among_all : {A : Type 0} (P : A → Type 0) (xs : List A) (x : A) → AllByRecursion P xs → Among xs x → P x
among_all P [] x a h = absurd h
among_all P (y ∷ ys) x a (inl e) = subst P e a.0
among_all P (y ∷ ys) x a (inr h) = among_all P ys x a.1 h

pub utf8_turn : {A : Type 0} (f : A → List (List ℕ)) (l : List A) (i : ℕ) (x : A) → i < length l → x ≡ get_or l i x → AllByRecursion IsUtf8 (flat_map f (take i l)) → AllByRecursion IsUtf8 (f x) → AllByRecursion IsUtf8 (flat_map f (take (i + 1) l))
utf8_turn f l i x h e a b = subst (AllByRecursion IsUtf8) (sym (flat_more f l i x h e)) (all_append IsUtf8 (flat_map f (take i l)) (f x) a b)

pub utf8_whole : {A : Type 0} (f : A → List (List ℕ)) (l : List A) (i : ℕ) → length l ≤ i → AllByRecursion IsUtf8 (flat_map f (take i l)) → AllByRecursion IsUtf8 (flat_map f l)
utf8_whole {A} f l i h a = subst (λ (x : List A). AllByRecursion IsUtf8 (flat_map f x)) (take_all i l h) a

pub are_utf8 : (files : List FileGraph) → AllByRecursion IsUtf8 (texts_in files) → AreUtf8 files
are_utf8 files all = λ text c. among_all IsUtf8 (texts_in files) text all (to_among (texts_in files) text c)
