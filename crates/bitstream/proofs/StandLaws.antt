-- What bytes stand for is what a reader gives.
use Rattle.std.proofs.Common.{◌≡◌, ℕ, zero, suc, ◌+◌, ◌<◌, ◌==◌, Bool, true, false, List, [], ◌∷◌, ◌++◌, length, refl, sym, ◌∙◌, ap, subst, arith, eqb-true, Ok, Err, Result, Some, None, Option}
use Rattle.std.proofs.lemmas.Bool.{ne_eqb}
use Rattle.bitstream.specs.declared.item.BitFault.{BitFault}
use Rattle.bitstream.specs.Bits.{bits_of}
use Rattle.bitstream.specs.Fields.{Input, input_at, at_bits}
use Rattle.bitstream.specs.Reading.{Seen, Context, outside, at_end, entry_at, left_at}
use Rattle.bitstream.specs.Items.{shown_before, behind_entry, items_at, items_of, items_in, IsSound}
use Rattle.bitstream.specs.Stands.{Entry, Blocks, no_blocks, entry_form, Allowed, after_entry, shown, AreEntries, StandFor}
use Rattle.bitstream.proofs.OnwardLaws.{and_left, and_right}
use Rattle.bitstream.proofs.FormLaws.{Spelled}
use Rattle.bitstream.proofs.ItemLaws.{entry-read, items-step, items-end, outside-sound}
use Rattle.bitstream.proofs.EntryFormLaws.{Same, same-depth, as_list, EntryTo, IsRead, entry-again, entry-takes}

pub no_elements : {X : Type 0} (xs : List X) → length xs ≡ 0 → xs ≡ []
no_elements [] h = refl
no_elements (x ∷ xs) h = absurd (omega (arith, h))

shown-apart : (at : ℕ) (s : Option Seen) (more : List (ℕ × Seen) × Option BitFault) (items : List (ℕ × Seen)) → shown_before at s more ≡ (items, None) → (more.1 ≡ None) × (items ≡ as_list at s ++ more.0)
shown-apart at None more items is = (ap (λ x. x.1) is, sym (ap (λ x. x.0) is))
shown-apart at (Some s) more items is = (ap (λ x. x.1) is, sym (ap (λ x. x.0) is))

pair-is : {X Y : Type 0} (x : X × Y) (y : Y) → x.1 ≡ y → x ≡ (x.0, y)
pair-is x y is = ap (λ v. (x.0, v)) is

written-before : (w : Blocks) (p q : Input) (front : List Bool) (e : Entry) (es : List Entry) (items later : List (ℕ × Seen)) (s : Option Seen)
    → entry_form w e p.at front → Allowed w q.at (length q.bits) e → as_list p.at s ≡ shown w p.at e → p.bits ≡ front ++ q.bits → q.at ≡ p.at + length front
    → AreEntries (after_entry w q.at e) q.at es q.bits later → items ≡ as_list p.at s ++ later → AreEntries w p.at (e ∷ es) p.bits items
written-before w p q front e es items later s form may shows same at more items-is = (
  front,
  q.bits,
  later,
  form,
  subst (λ n. Allowed w n (length q.bits) e) at may,
  subst (λ n. AreEntries (after_entry w n e) n es q.bits later) at more,
  same,
  items-is ∙ ap (λ l. l ++ later) shows,
)

pub takes-all : (n : ℕ) (c : Context) (w : Blocks) (p : Input) (items : List (ℕ × Seen)) → Same c w → IsSound c p → items_at n c p ≡ (items, None) → (es : List Entry) × AreEntries w p.at es p.bits items
takes-all zero c w p items s sound is = absurd (let e = ap (λ x. x.1) is in cc)
takes-all (suc n) c w p items s sound is =
    by_end (at_end c p) refl (λ e read same sound' rest. takes-all n (e.0).1 (after_entry w (e.1).at read) e.1 (items_at n (e.0).1 e.1).0 same sound' rest)
  where
    more : (e : (Option Seen × Context) × Input) → entry_at c p ≡ Ok e → shown_before p.at (e.0).0 (items_at n (e.0).1 e.1) ≡ (items, None)
        → Spelled (EntryTo w p.at []) p (Ok e)
        → ((e : (Option Seen × Context) × Input) (read : Entry) → Same (e.0).1 (after_entry w (e.1).at read) → IsSound (e.0).1 e.1 → items_at n (e.0).1 e.1 ≡ ((items_at n (e.0).1 e.1).0, None)
        → (es : List Entry) × AreEntries (after_entry w (e.1).at read) (e.1).at es (e.1).bits (items_at n (e.0).1 e.1).0)
        → (es : List Entry) × AreEntries w p.at es p.bits items
    more e found is (front, (read, form, may, same, shows), bits, at) later =
        let (none, items-is) = shown-apart p.at (e.0).0 (items_at n (e.0).1 e.1) items is in
        let (es, rest) = later e read same (entry-read c p e sound found).1.2 (pair-is (items_at n (e.0).1 e.1) None none) in
        (read ∷ es, written-before w p e.1 front read es items (items_at n (e.0).1 e.1).0 (e.0).0 form may shows bits at rest items-is)

    by_entry : (r : Result ((Option Seen × Context) × Input) BitFault) → entry_at c p ≡ r → behind_entry p.at r (items_at n) ≡ (items, None) → Spelled (EntryTo w p.at []) p r
        → ((e : (Option Seen × Context) × Input) (read : Entry) → Same (e.0).1 (after_entry w (e.1).at read) → IsSound (e.0).1 e.1 → items_at n (e.0).1 e.1 ≡ ((items_at n (e.0).1 e.1).0, None)
        → (es : List Entry) × AreEntries (after_entry w (e.1).at read) (e.1).at es (e.1).bits (items_at n (e.0).1 e.1).0)
        → (es : List Entry) × AreEntries w p.at es p.bits items
    by_entry (Err e) found is spelled later = absurd (let e = ap (λ x. x.1) is in cc)
    by_entry (Ok e) found is spelled later = more e found is spelled later

    by_end : (last : Bool) → at_end c p ≡ last
        → ((e : (Option Seen × Context) × Input) (read : Entry) → Same (e.0).1 (after_entry w (e.1).at read) → IsSound (e.0).1 e.1 → items_at n (e.0).1 e.1 ≡ ((items_at n (e.0).1 e.1).0, None)
        → (es : List Entry) × AreEntries (after_entry w (e.1).at read) (e.1).at es (e.1).bits (items_at n (e.0).1 e.1).0)
        → (es : List Entry) × AreEntries w p.at es p.bits items
    by_end true t later =
        let outer : length c.outer ≡ 0 = eqb-true (length c.outer) 0 (and_left (length c.outer == 0) (length p.bits == 0) t) in
        let none : length p.bits ≡ 0 = eqb-true (length p.bits) 0 (and_right (length c.outer == 0) (length p.bits == 0) t) in
        let depth : length w.open_blocks ≡ 0 = sym (same-depth c.block_info c.scope c.outer c.abbrevs w.open_blocks s.matches) ∙ outer in
        let h = rw t at is in
        ([], (no_elements w.open_blocks depth, no_elements p.bits none, sym (ap (λ x. x.0) h)))
    by_end false t later = by_entry (entry_at c p) refl (rw t at is) (entry-takes c w p s sound) later

no_end : (c : Context) (p : Input) → 0 < length p.bits → at_end c p ≡ false
no_end c p some = by_outer (length c.outer == 0) refl
  where
    by_outer : (none : Bool) → (length c.outer == 0) ≡ none → at_end c p ≡ false
    by_outer true t = rw t (ne_eqb (length p.bits) 0 (λ e. absurd (omega (arith, some, e))))
    by_outer false t = rw t refl

shown-joined : (at : ℕ) (s : Option Seen) (later : List (ℕ × Seen)) → shown_before at s (later, None) ≡ (as_list at s ++ later, None)
shown-joined at None later = refl
shown-joined at (Some s) later = refl

again-step : (c : Context) (w : Blocks) (e : Entry) (at : ℕ) (front rest : List Bool) (later : List (ℕ × Seen)) → IsSound c (at_bits at (front ++ rest)) → (r : IsRead c w e at front rest)
    → items_at (left_at (at_bits (at + length front) rest)) r.after (at_bits (at + length front) rest) ≡ (later, None)
    → items_at (left_at (at_bits at (front ++ rest))) c (at_bits at (front ++ rest)) ≡ (shown w at e ++ later, None)
again-step c w e at front rest later sound r more =
    let p : Input = at_bits at (front ++ rest) in
    let q : Input = at_bits (at + length front) rest in
    let b = entry-read c p ((r.item, r.after), q) sound r.read in
    let some : 0 < length (front ++ rest) = omega (arith, (b.0).whole, b.1.0) in
    items-step c p ((r.item, r.after), q) sound (no_end c p some) r.read
    ∙ ap (shown_before at r.item) more ∙ shown-joined at r.item later ∙ ap (λ l. (l ++ later, None)) r.shows

pub again-all : (es : List Entry) (c : Context) (w : Blocks) (at : ℕ) (bs : List Bool) (items : List (ℕ × Seen)) → Same c w → IsSound c (at_bits at bs) → AreEntries w at es bs items
    → items_at (left_at (at_bits at bs)) c (at_bits at bs) ≡ (items, None)
again-all [] c w at bs items s sound (none, bs-is, items-is) =
    let depth : length c.outer ≡ 0 = same-depth c.block_info c.scope c.outer c.abbrevs w.open_blocks s.matches ∙ ap length none in
    let last : at_end c (at_bits at bs) ≡ true = rw (depth, bs-is) refl in
    items-end c (at_bits at bs) sound last ∙ ap (λ l. (l, None)) (sym items-is)
again-all (e ∷ es) c w at bs items s sound (front, rest, later, form, may, more, bs-is, items-is) =
    let sound' = rw bs-is at sound in
    let r = entry-again c w e at front rest s form may in
    let behind = (entry-read c (at_bits at (front ++ rest)) ((r.item, r.after), at_bits (at + length front) rest) sound' r.read).1.2 in
    rw (bs-is, items-is) (again-step c w e at front rest later sound' r (again-all es r.after (after_entry w (at + length front) e) (at + length front) rest later r.same behind more))

pub outside-same : Same outside no_blocks
outside-same = record { matches = (refl, refl, refl, refl, refl); defined = refl; named = refl }

-- What a reader gives to the end is what the bytes stand for.
pub read-stands : (bytes : List ℕ) (items : List (ℕ × Seen)) → items_in bytes ≡ (items, None) → StandFor bytes items
unfolding items_of items_in
read-stands bytes items is = takes-all (left_at (input_at bytes 0)) outside no_blocks (input_at bytes 0) items outside-same (outside-sound (input_at bytes 0)) is

-- What the bytes stand for is what a reader gives.
pub stands-read : (bytes : List ℕ) (items : List (ℕ × Seen)) → StandFor bytes items → items_in bytes ≡ (items, None)
unfolding items_of items_in
stands-read bytes items (es, is) = again-all es outside no_blocks 0 (bits_of bytes) items outside-same (outside-sound (input_at bytes 0)) is

pub stands-once : (bytes : List ℕ) (items others : List (ℕ × Seen)) → StandFor bytes items → StandFor bytes others → items ≡ others
stands-once bytes items others a b = ap (λ x. x.0) (sym (stands-read bytes items a) ∙ stands-read bytes others b)
