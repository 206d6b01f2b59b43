-- Entries that lead from some open blocks to others.
use Rattle.std.proofs.Common.{◌≡◌, ℕ, ◌+◌, ◌*◌, ◌-◌, ◌/◌, ◌%◌, ◌^◌, ◌≤◌, Bool, true, false, List, [], ◌∷◌, ◌++◌, length, refl, sym, ◌∙◌, ap, subst, arith, length-append, append_assoc}
use Rattle.std.proofs.lemmas.List.{append-nil}
use Rattle.bitstream.specs.declared.item.AbbrevOp.{AbbrevOp}
use Rattle.bitstream.specs.Reading.{Seen}
use Rattle.bitstream.specs.Stands.{Entry, EndBlock, EnterBlock, Define, PlainRecord, AbbrevRecord, Block, Blocks, in_info, entry_form, Allowed, outer_blocks, with_abbrev, after_entry, shown, AreEntries}

-- The entries stand in these bits and lead to other open blocks, where the input has room enough for each block.
abbrev pub Leads : Blocks → ℕ → List Entry → List Bool → List (ℕ × Seen) → Blocks → Type 0
Leads c at [] bs items d = (d ≡ c) × (bs ≡ []) × (items ≡ [])
Leads c at (e ∷ es) bs items d = (front : List Bool) × (rest : List Bool) × (later : List (ℕ × Seen))
    × entry_form c e at front × Allowed c (at + length front) (2 ^ 40) e
    × Leads (after_entry c (at + length front) e) (at + length front) es rest later d
    × (bs ≡ front ++ rest) × (items ≡ shown c at e ++ later)

pub leads-append : (es fs : List Entry) (c d f : Blocks) (at : ℕ) (bs cs : List Bool) (items more : List (ℕ × Seen)) → Leads c at es bs items d → Leads d (at + length bs) fs cs more f
    → Leads c at (es ++ fs) (bs ++ cs) (items ++ more) f
leads-append [] fs c d f at bs cs items more (same, none, no_items) b =
    let place : at + length bs ≡ at = omega (arith, ap length none) in
    let b' : Leads c at fs cs more f = subst (λ n. Leads c n fs cs more f) place (subst (λ x. Leads x (at + length bs) fs cs more f) same b) in
    rw (none, no_items) b'
leads-append (e ∷ es) fs c d f at bs cs items more (front, rest, later, form, may, lead, same, items-is) b =
    let place : at + length bs ≡ at + length front + length rest = omega (arith, ap length same, length-append front rest) in (
      front,
      rest ++ cs,
      later ++ more,
      form,
      may,
      leads-append es fs (after_entry c (at + length front) e) d f (at + length front) rest cs later more lead (subst (λ n. Leads d n fs cs more f) place b),
      ap (λ s. s ++ cs) same ∙ append_assoc front rest cs,
      ap (λ l. l ++ more) items-is ∙ append_assoc (shown c at e) later more,
    )

pub leads-one : (c d : Blocks) (e : Entry) (at : ℕ) (front : List Bool) → entry_form c e at front → Allowed c (at + length front) (2 ^ 40) e → d ≡ after_entry c (at + length front) e
    → Leads c at (e ∷ []) front (shown c at e) d
leads-one c d e at front form may is = (front, [], [], form, may, (is, refl, refl), sym (append-nil front), sym (append-nil (shown c at e)))

-- blocks that began before a position, and whose words end before a position
abbrev pub AllBegan : ℕ → List Block → Type 0
AllBegan at [] = Unit {0}
AllBegan at (b ∷ bs) = (b.begins ≤ at) × AllBegan at bs

abbrev pub AllEnd : ℕ → List Block → Type 0
AllEnd end [] = Unit {0}
AllEnd end (b ∷ bs) = (b.begins + 32 * b.words ≤ end) × AllEnd end bs

began-later : (at later : ℕ) (bs : List Block) → at ≤ later → AllBegan at bs → AllBegan later bs
began-later at later [] le h = tt
began-later at later (b ∷ bs) le h = let first = h.0 in (omega (arith, first, le), began-later at later bs le h.1)

with-began : (at : ℕ) (ops : List AbbrevOp) (bs : List Block) → AllBegan at bs → AllBegan at (with_abbrev ops bs)
with-began at ops [] h = tt
with-began at ops (b ∷ bs) h = h

with-end : (end : ℕ) (ops : List AbbrevOp) (bs : List Block) → AllEnd end (with_abbrev ops bs) → AllEnd end bs
with-end end ops [] h = tt
with-end end ops (b ∷ bs) h = h

-- how the open blocks change by an entry
after-began : (c : Blocks) (e : Entry) (at behind left : ℕ) → at ≤ behind → AllBegan at c.open_blocks → AllBegan behind (after_entry c behind e).open_blocks
after-began c EndBlock at behind left le h = outer c.open_blocks (began-later at behind c.open_blocks le h)
  where
    outer : (bs : List Block) → AllBegan behind bs → AllBegan behind (outer_blocks bs)
    outer [] h = tt
    outer (b ∷ bs) h = h.1
after-began c (EnterBlock number width words) at behind left le h = (omega arith, began-later at behind c.open_blocks le h)
after-began c (Define ops) at behind left le h = by_info (in_info c.open_blocks) refl (began-later at behind c.open_blocks le h)
  where
    by_info : (is : Bool) → in_info c.open_blocks ≡ is → AllBegan behind c.open_blocks → AllBegan behind (after_entry c behind (Define ops)).open_blocks
    by_info true t h = rw t h
    by_info false t h = rw t (with-began behind ops c.open_blocks h)
after-began c (PlainRecord code ops) at behind left le h = by_info (in_info c.open_blocks) refl (began-later at behind c.open_blocks le h)
  where
    by_info : (is : Bool) → in_info c.open_blocks ≡ is → AllBegan behind c.open_blocks → AllBegan behind (after_entry c behind (PlainRecord code ops)).open_blocks
    by_info true t h = rw t h
    by_info false t h = rw t h
after-began c (AbbrevRecord id code ops blob) at behind left le h = by_info (in_info c.open_blocks) refl (began-later at behind c.open_blocks le h)
  where
    by_info : (is : Bool) → in_info c.open_blocks ≡ is → AllBegan behind c.open_blocks → AllBegan behind (after_entry c behind (AbbrevRecord id code ops blob)).open_blocks
    by_info true t h = rw t h
    by_info false t h = rw t h

word_end : (behind begins words end : ℕ) → (behind - begins) / 32 % 2 ^ 32 ≡ words → begins ≤ behind → behind ≤ end → begins + 32 * words ≤ end
word_end behind begins words end is began le =
    let n : ℕ = (behind - begins) / 32 in
    let low : n % 2 ^ 32 ≤ n = omega arith in
    let whole : 32 * n ≤ behind - begins = omega arith in
    omega (arith, is, low, whole, began, le)

-- with the room that each block needs: blocks that end have it
before-ends : (c : Blocks) (e : Entry) (at behind left end : ℕ) → at ≤ behind → behind + left ≡ end → AllBegan at c.open_blocks → Allowed c behind (2 ^ 40) e → AllEnd end (after_entry c behind e).open_blocks
    → AllEnd end c.open_blocks × Allowed c behind left e
before-ends c EndBlock at behind left end le total began (b, bs, is, words) ends =
    let ends' = rw is at ends in
    let first = (rw is at began).0 in
    (rw is (word_end behind b.begins b.words end words (omega (arith, first, le)) (omega (arith, total)), ends'), (b, bs, is, words))
before-ends c (EnterBlock number width words) at behind left end le total began (info, depth, small, low, high, room) ends =
    let first = ends.0 in
    (ends.1, (info, depth, small, low, high, omega (arith, first, total)))
before-ends c (Define ops) at behind left end le total began may ends = (by_info (in_info c.open_blocks) refl ends, may)
  where
    by_info : (is : Bool) → in_info c.open_blocks ≡ is → AllEnd end (after_entry c behind (Define ops)).open_blocks → AllEnd end c.open_blocks
    by_info true t h = rw t at h
    by_info false t h = with-end end ops c.open_blocks (rw t at h)
before-ends c (PlainRecord code ops) at behind left end le total began may ends = (by_info (in_info c.open_blocks) refl ends, may)
  where
    by_info : (is : Bool) → in_info c.open_blocks ≡ is → AllEnd end (after_entry c behind (PlainRecord code ops)).open_blocks → AllEnd end c.open_blocks
    by_info true t h = rw t at h
    by_info false t h = rw t at h
before-ends c (AbbrevRecord id code ops blob) at behind left end le total began may ends = (by_info (in_info c.open_blocks) refl ends, may)
  where
    by_info : (is : Bool) → in_info c.open_blocks ≡ is → AllEnd end (after_entry c behind (AbbrevRecord id code ops blob)).open_blocks → AllEnd end c.open_blocks
    by_info true t h = rw t at h
    by_info false t h = rw t at h

-- entries that lead outside all blocks are those of the bits
pub leads-stand : (es : List Entry) (c d : Blocks) (at end : ℕ) (bs : List Bool) (items : List (ℕ × Seen)) → Leads c at es bs items d → d.open_blocks ≡ [] → AllBegan at c.open_blocks → at + length bs ≡ end
    → AreEntries c at es bs items × AllEnd end c.open_blocks
leads-stand [] c d at end bs items (same, none, no_items) outside began total =
    let none_open : c.open_blocks ≡ [] = sym (ap (λ x. x.open_blocks) same) ∙ outside in
    ((none_open, none, no_items), rw none_open tt)
leads-stand (e ∷ es) c d at end bs items (front, rest, later, form, may, lead, same, items-is) outside began total =
    let behind : ℕ = at + length front in
    let onward : at ≤ at + length front = omega arith in
    let left : at + length front + length rest ≡ end = omega (arith, total, ap length same, length-append front rest) in
    let more = leads-stand es (after_entry c (at + length front) e) d (at + length front) end rest later lead outside (after-began c e at (at + length front) 0 onward began) left in
    let h = before-ends c e at (at + length front) (length rest) end onward left began may more.1 in
    ((front, rest, later, form, h.1, more.0, same, items-is), h.0)
