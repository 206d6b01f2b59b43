-- Records that are written one after the other.
use Rattle.std.proofs.Common.{◌≡◌, ℕ, ◌+◌, ◌<◌, List, [], ◌∷◌, ◌++◌, length, get_or, take, map, Bool, None, add-one, refl, sym, ap, ◌∙◌, subst}
use Rattle.std.specs.List.{flat_map}
use Rattle.std.proofs.Math.Seq.{take-suc}
use Rattle.std.proofs.lemmas.List.{append-nil, map-append}
use Rattle.std.proofs.lemmas.List.Concat.{flat_map-cons}
use Rattle.std.proofs.lemmas.Grind.{flat_map-append}
use Rattle.std.specs.declared.string.String.{String}
use Rattle.std.specs.String.{string_bytes}
use Rattle.bitstream.specs.Reading.{Seen, Record}
use Rattle.bitstream.specs.Writer.{Writing, EndsBlock}
use Rattle.dep_key.specs.declared.graph.FileGraph.{FileGraph}
use Rattle.swiftdeps.specs.Spelling.{identifier_item, file_items}
use Rattle.swiftdeps.specs.Written.{item_bits, items_bits, with_items, InBlock, records, begun_block}

pub items_bits-append : (width : ℕ) (xs ys : List Seen) (before : List Bool) → items_bits width (xs ++ ys) before ≡ items_bits width ys (items_bits width xs before)
items_bits-append width [] ys before = refl
items_bits-append width (x ∷ xs) ys before = items_bits-append width xs ys (item_bits width x before)

pub with_items-append : (xs ys : List Seen) (s : Writing) → with_items (xs ++ ys) s ≡ with_items ys (with_items xs s)
with_items-append xs ys s = ap (λ (bs : List Bool). record s { bits = bs }) (items_bits-append s.width xs ys s.bits)

-- records leave a writer inside the block
pub still_inside : (xs : List Seen) (s t : Writing) → t ≡ with_items xs s → InBlock s → InBlock t
still_inside xs s t e h = subst InBlock (sym e) (record { width = h.width; abbrevs = h.abbrevs; first = h.first; blocks = h.blocks })

-- one more record, or several, behind others
pub goes_on : (xs ys : List Seen) (s t u : Writing) → t ≡ with_items xs s → u ≡ with_items ys t → u ≡ with_items (xs ++ ys) s
goes_on xs ys s t u e f = f ∙ ap (with_items ys) e ∙ sym (with_items-append xs ys s)

take_more : {A : Type 0} (l : List A) (i : ℕ) (x : A) → i < length l → x ≡ get_or l i x → take (i + 1) l ≡ take i l ++ x ∷ []
take_more l i x h e = ap (λ (n : ℕ). take n l) (add-one i) ∙ take-suc l i x h ∙ ap (λ y. take i l ++ y ∷ []) (sym e)

pub map_more : {A : Type 0} (f : A → Seen) (l : List A) (i : ℕ) (x : A) → i < length l → x ≡ get_or l i x → map f (take (i + 1) l) ≡ map f (take i l) ++ f x ∷ []
map_more f l i x h e = ap (map f) (take_more l i x h e) ∙ map-append f (take i l) (x ∷ [])

pub flat_more : {A B : Type 0} (f : A → List B) (l : List A) (i : ℕ) (x : A) → i < length l → x ≡ get_or l i x → flat_map f (take (i + 1) l) ≡ flat_map f (take i l) ++ f x
flat_more {A} {B} f l i x h e = ap (flat_map f) (take_more l i x h e) ∙ flat_map-append f (take i l) (x ∷ []) ∙ ap (λ (y : List B). flat_map f (take i l) ++ y) (flat_map-cons f x [] ∙ append-nil (f x))

-- one turn of a loop that writes a record for each element
pub turn_map : {A : Type 0} (f : A → Seen) (l : List A) (i : ℕ) (x : A) (s t u : Writing) → i < length l → x ≡ get_or l i x → InBlock t → t ≡ with_items (map f (take i l)) s → u ≡ with_items (f x ∷ []) t
    → InBlock u × (u ≡ with_items (map f (take (i + 1) l)) s)
turn_map f l i x s t u h e inside so_far one =
    (still_inside (f x ∷ []) t u one inside, goes_on (map f (take i l)) (f x ∷ []) s t u so_far one ∙ ap (λ (items : List Seen). with_items items s) (sym (map_more f l i x h e)))

-- one turn of a loop that writes several records for each element
pub turn_flat : {A : Type 0} (f : A → List Seen) (l : List A) (i : ℕ) (x : A) (s t u : Writing) → i < length l → x ≡ get_or l i x → InBlock t → t ≡ with_items (flat_map f (take i l)) s → u ≡ with_items (f x) t
    → InBlock u × (u ≡ with_items (flat_map f (take (i + 1) l)) s)
turn_flat f l i x s t u h e inside so_far one =
    (still_inside (f x) t u one inside, goes_on (flat_map f (take i l)) (f x) s t u so_far one ∙ ap (λ (items : List Seen). with_items items s) (sym (flat_more f l i x h e)))

-- the item of an identifier that is kept as a string
abbrev pub named : {Z : Type 0} → String Z → Seen
named text = identifier_item (string_bytes text)

pub named_is : {Z : Type 0} (texts : List (String Z)) → map named texts ≡ map identifier_item (map string_bytes texts)
named_is [] = refl
named_is (text ∷ texts) = ap (λ (items : List Seen). named text ∷ items) (named_is texts)

-- the whole block
pub block_written : (version : ℕ) (names : List (List ℕ)) (files : List FileGraph) (a b c d e : Writing) → a ≡ begun_block → b ≡ with_items (Record 1 (version ∷ []) None ∷ []) a → c ≡ with_items (map identifier_item names) b
    → d ≡ with_items (flat_map (file_items names) files) c → EndsBlock d e → EndsBlock (with_items (records version names files) begun_block) e
block_written version names files a b c d e begun header identifiers graphs left =
    let first = goes_on (Record 1 (version ∷ []) None ∷ []) (map identifier_item names) a b c header identifiers in
    let all = goes_on (Record 1 (version ∷ []) None ∷ map identifier_item names) (flat_map (file_items names) files) a c d first graphs in
    subst (λ (w : Writing). EndsBlock w e) (all ∙ ap (with_items (records version names files)) begun) left
