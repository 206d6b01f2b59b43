-- What a writer wrote stands for what it was asked for.
use Rattle.std.proofs.Common.{◌≡◌, ℕ, suc, ◌+◌, ◌*◌, ◌-◌, ◌/◌, ◌%◌, ◌^◌, ◌<◌, ◌≤◌, ◌==◌, Bool, true, false, List, [], ◌∷◌, ◌++◌, length, take, drop, slice_get, get_or, flat_map, refl, sym, ◌∙◌, ap, subst, arith, length-append, append_assoc, Some, None, lit<, lit≤}
use Rattle.std.proofs.lemmas.Bool.{ne_eqb}
use Rattle.std.proofs.lemmas.List.{append-nil}
use Rattle.std.proofs.Math.Seq.{drop-append_seam, take-append_seam}
use Rattle.bitstream.specs.declared.item.AbbrevOp.{AbbrevOp}
use Rattle.bitstream.specs.declared.item.AbbrevOp.TheVariants.{Literal, Fixed, Vbr, Array, Char6, Blob}
use Rattle.bitstream.specs.declared.writer.OpenBlock.{OpenBlock}
use Rattle.bitstream.specs.Bits.{bits, bits_of}
use Rattle.bitstream.specs.Spelling.{AllBelow}
use Rattle.bitstream.specs.Reading.{Seen, Enters, LeaveBlock, Record}
use Rattle.bitstream.specs.Writing.{vbr_bits, op_bits, pad_of, aligned, with_field}
use Rattle.bitstream.specs.Entries.{end_bits, enter_bits, definition_bits, record_bits, blob_bits}
use Rattle.bitstream.specs.Writer.{Writing, nothing_written, entered, EndsBlock, defined, recorded, with_blob, is_definition}
use Rattle.bitstream.specs.Written.{Call, Entering, Leaving, Defining, Recording, RecordingBlob, OperandFits, OperandsFit, IsBlobCode, Does, shown_by, Wrote, HasWritten}
use Rattle.bitstream.specs.Stands.{◌⨾◌, each, fixed_form, vbr_form, pad_form, values_form, op_form, Entry, EndBlock, EnterBlock, Define, PlainRecord, AbbrevRecord, Block, no_blocks, width_in, entry_form, Allowed, after_entry, shown, StandFor}
use Rattle.bitstream.proofs.BitLaws.{length-bits}
use Rattle.bitstream.proofs.NumberLaws.{vbr_bits-is}
use Rattle.bitstream.proofs.WritingLaws.{small_id, length-aligned}
use Rattle.bitstream.proofs.LeadLaws.{Leads, leads-one, leads-stand}
use Rattle.bitstream.proofs.LevelLaws.{with_words, opened, Within, IsStateOf, header_form, IsInnermost, Holds, Follows, holds-more, holds-enter, whole-block}

-- a writer's open blocks are these
abbrev pub Matches : ℕ → ℕ → List (List AbbrevOp) → List OpenBlock → List Block → Type 0
Matches width first abbrevs blocks [] = (width ≡ 2) × (abbrevs ≡ []) × (blocks ≡ [])
Matches width first abbrevs blocks (b ∷ bs) = (before : List (List AbbrevOp)) × (block : OpenBlock) × (outer : List OpenBlock)
    × (width ≡ b.width) × (abbrevs ≡ before ++ b.abbrevs) × (first ≡ length before) × (blocks ≡ outer ++ block ∷ [])
    × (8 * block.length_at + 32 ≡ b.begins) × Matches block.outer_width block.outer_first before outer bs

pub record IsWritten (items : List (ℕ × Seen)) (s : Writing) : Type 0 where
  pub blocks : List Block
  pub holds : Holds blocks s.bits items
  pub matches : Matches s.width s.first s.abbrevs s.blocks blocks

pub nothing-is : IsWritten [] nothing_written
nothing-is = record { blocks = []; holds = ([], (refl, refl, refl)); matches = (refl, refl, refl) }

width-is : (width first : ℕ) (abbrevs : List (List AbbrevOp)) (blocks : List OpenBlock) (bs : List Block) → Matches width first abbrevs blocks bs → width ≡ width_in bs
width-is width first abbrevs blocks [] m = m.0
width-is width first abbrevs blocks (b ∷ bs) m = m.3

depth-is : (width first : ℕ) (abbrevs : List (List AbbrevOp)) (blocks : List OpenBlock) (bs : List Block) → Matches width first abbrevs blocks bs → length blocks ≡ length bs
depth-is width first abbrevs blocks [] m = ap length m.2
depth-is width first abbrevs blocks (b ∷ bs) (before, block, outer, w, a, f, o, at, m) =
    ap length o ∙ omega (arith, length-append outer (block ∷ []), depth-is block.outer_width block.outer_first before outer bs m)

-- ids have two bits at least
wide-is : (bs : List Block) (bits : List Bool) (items : List (ℕ × Seen)) → Holds bs bits items → 2 ≤ width_in bs
wide-is [] bs items h = omega arith
wide-is (b ∷ outer) bs items h = omega (arith, h.low, (h.state).width)

pad-is : (at : ℕ) (n : ℕ) → n ≡ at → pad_form at (bits (pad_of n) 0)
pad-is at n is = length-bits (pad_of n) 0 ∙ ap pad_of is

-- a block begins
header-is : (w number width : ℕ) (before : List Bool) → 2 ≤ w → number < 2 ^ 32 → width ≤ 32 → (header : List Bool) × (fixed_form w 1 ⨾ vbr_form 8 number ⨾ vbr_form 4 width ⨾ pad_form) (length before) header
    × (enter_bits w number width before ≡ before ++ (header ++ bits 32 0)) × ((length before + length header) % 32 ≡ 0)
unfolding enter_bits aligned
header-is w number width before wide small high =
    let a = bits w 1 in
    let b = vbr_bits 8 number in
    let d = vbr_bits 4 width in
    let all : List Bool = before ++ a ++ b ++ d in
    let pad = bits (pad_of (length all)) 0 in
    let place : length all ≡ length before + length a + length b + length d = omega (arith, length-append (before ++ a ++ b) d, length-append (before ++ a) b, length-append before a) in
    let whole : all ++ pad ≡ before ++ (a ++ (b ++ (d ++ pad))) = append_assoc (before ++ a ++ b) d pad ∙ append_assoc (before ++ a) b (d ++ pad) ∙ append_assoc before a (b ++ (d ++ pad)) in
    let words : length (all ++ pad) % 32 ≡ 0 = length-aligned all in
    let size : length (all ++ pad) ≡ length before + length (a ++ (b ++ (d ++ pad))) = ap length whole ∙ length-append before (a ++ (b ++ (d ++ pad))) in (
      a ++ (b ++ (d ++ pad)),
      (a, b ++ (d ++ pad), (small_id 1 w (lit< tt) wide, refl), (b, d ++ pad, vbr_bits-is 8 number (lit≤ tt) (omega (arith, small)), (d, pad, vbr_bits-is 4 width (lit≤ tt) (omega (arith, high)), pad-is _ _ place, refl), refl), refl),
      ap (λ s. s ++ bits 32 0) whole ∙ append_assoc before (a ++ (b ++ (d ++ pad))) (bits 32 0),
      ap (λ n. n % 32) (sym size) ∙ words,
    )

pub entering-is : (items : List (ℕ × Seen)) (old : Writing) (number width : ℕ) → length old.blocks < 32 → 0 < number → number < 2 ^ 32 → 2 ≤ width → width ≤ 32 → IsWritten items old
    → IsWritten (items ++ shown_by (Entering number width) (length old.bits)) (entered number width old)
entering-is items old number width depth some small low high h =
    let wide : 2 ≤ old.width = rw (width-is old.width old.first old.abbrevs old.blocks h.blocks h.matches) (wide-is h.blocks old.bits items h.holds) in
    let (header, form, made, whole) = header-is old.width number width old.bits wide small high in
    let b : Block = record { number = number; width = width; abbrevs = []; begins = length old.bits + length header + 32; words = 0 } in
    let size : length (enter_bits old.width number width old.bits) ≡ length old.bits + length header + 32
    = ap length made ∙ omega (arith, length-append old.bits (header ++ bits 32 0), length-append header (bits 32 0), length-bits 32 0) in
    let at : 8 * ((length (enter_bits old.width number width old.bits) - 32) / 8) + 32 ≡ length old.bits + length header + 32 = omega (arith, size, whole) in
    let form' : header_form (width_in h.blocks) b (length old.bits) header = subst (λ w. header_form w b (length old.bits) header) (width-is old.width old.first old.abbrevs old.blocks h.blocks h.matches) form in
    let holds = holds-enter h.blocks b old.bits header items h.holds form' refl refl (ne_eqb number 0 (λ e. absurd (omega (arith, e, some)))) small low high
    (omega (arith, depth, depth-is old.width old.first old.abbrevs old.blocks h.blocks h.matches)) in
    record {
      blocks = b ∷ h.blocks;
      holds = subst (λ s. Holds (b ∷ h.blocks) s (items ++ shown_by (Entering number width) (length old.bits))) (sym made) holds;
      matches = (
        old.abbrevs,
        record { outer_width = old.width; outer_first = old.first; length_at = (length (enter_bits old.width number width old.bits) - 32) / 8 },
        old.blocks,
        refl,
        sym (append-nil old.abbrevs),
        refl,
        refl,
        at,
        h.matches,
      );
    }

-- a block ends
snoc-same : {X : Type 0} (xs ys : List X) (x y : X) → xs ++ x ∷ [] ≡ ys ++ y ∷ [] → (xs ≡ ys) × (x ≡ y)
snoc-same [] [] x y is = (refl, cc)
snoc-same [] (z ∷ zs) x y is = let e : [] ≡ zs ++ y ∷ [] = cc in absurd (let n = ap length e in omega (arith, n, length-append zs (y ∷ [])))
snoc-same (z ∷ zs) [] x y is = let e : zs ++ x ∷ [] ≡ [] = cc in absurd (let n = ap length e in omega (arith, n, length-append zs (x ∷ [])))
snoc-same (z ∷ zs) (u ∷ us) x y is =
    let e : zs ++ x ∷ [] ≡ us ++ y ∷ [] = cc in
    let head : z ≡ u = cc in
    let h = snoc-same zs us x y e in
    let tail : zs ≡ us = h.0 in
    (cc, h.1)

last-is : (w : ℕ) (bs : List Bool) → 2 ≤ w → (last : List Bool) × (fixed_form w 0 ⨾ pad_form) (length bs) last × (aligned (bs ++ bits w 0) ≡ bs ++ last)
unfolding aligned
last-is w bs wide =
    let all : List Bool = bs ++ bits w 0 in
    let pad = bits (pad_of (length all)) 0 in
    (bits w 0 ++ pad, (bits w 0, pad, (small_id 0 w (lit< tt) wide, refl), pad-is _ _ (length-append bs (bits w 0)), refl), append_assoc bs (bits w 0) pad)

field-in : (front rest : List Bool) (n at : ℕ) → at ≡ length front → with_field at n (front ++ (bits 32 0 ++ rest)) ≡ front ++ (bits 32 n ++ rest)
unfolding with_field
field-in front rest n at is =
    let field : length (bits 32 0) ≡ 32 = length-bits 32 0 in
    let first : take at (front ++ (bits 32 0 ++ rest)) ≡ front = rw is (take-append_seam front (bits 32 0 ++ rest)) in
    let count : at + 32 ≡ length (front ++ bits 32 0) = omega (arith, is, length-append front (bits 32 0), field) in
    let behind : drop (at + 32) (front ++ (bits 32 0 ++ rest)) ≡ rest
    = rw (count, sym (append_assoc front (bits 32 0) rest)) (drop-append_seam (front ++ bits 32 0) rest) in
    ap (λ s. s ++ (bits 32 n ++ drop (at + 32) (front ++ (bits 32 0 ++ rest)))) first ∙ ap (λ s. front ++ (bits 32 n ++ s)) behind

block-follows : (outer : List Block) (b now : Block) (before : List Bool) (first : List (ℕ × Seen)) (words : ℕ) (header inner last : List Bool) (es : List Entry) (more : List (ℕ × Seen))
    → Holds outer before first → length outer < 32 → b.abbrevs ≡ [] → b.begins ≡ length before + length header + 32
    → (b.number == 0) ≡ false → b.number < 2 ^ 32 → 2 ≤ b.width → b.width ≤ 32 → words < 2 ^ 32
    → header_form (width_in outer) b (length before) header → Within (length outer) b now b.begins es inner more → IsStateOf b now
    → (fixed_form now.width 0 ⨾ pad_form) (b.begins + length inner) last → (b.begins + length inner + length last - b.begins) / 32 % 2 ^ 32 ≡ words
    → Follows outer outer (length before) (header ++ (bits 32 words ++ (inner ++ last))) ((length before, Enters b.number) ∷ (more ++ ((b.begins + length inner, LeaveBlock) ∷ [])))
block-follows [] b now before first words header inner last es more h depth none begins plain small low high fits form within state ends words-is = (
  EnterBlock b.number b.width words ∷ (es ++ (EndBlock ∷ [])),
  whole-block [] [] b now (length before) words header inner last es more refl refl refl depth none begins plain small low high fits form within state ends words-is,
)
block-follows (o ∷ os) b now before first words header inner last es more h depth none begins plain small low high fits form within state ends words-is = (
  refl,
  record { number = refl; width = refl; begins = refl },
  (
    EnterBlock b.number b.width words ∷ (es ++ (EndBlock ∷ [])),
    λ cs n is.
        whole-block (with_words n o ∷ cs) (o ∷ os) b now (length before) words header inner last es more refl (ap (λ k. k == 0) (h.state).number ∙ h.plain) (ap suc is) depth none begins plain small low high fits form within state ends words-is,
  ),
)

-- the length that an end writes, and what then stands where the block does
end-is : (outer : List Block) (now : Block) (w at : ℕ) (bs : List Bool) (items : List (ℕ × Seen)) → w ≡ now.width → at + 32 ≡ now.begins → IsInnermost outer now (Holds outer) bs items
    → Holds outer (end_bits w at bs) (items ++ ((length bs, LeaveBlock) ∷ []))
unfolding end_bits
end-is outer now w at bs items w-is at-is h =
    let b = h.block in
    let wide : 2 ≤ w = omega (arith, w-is, (h.state).width, h.low) in
    let (last, form, made) = last-is w bs wide in
    let front : List Bool = h.before ++ h.header in
    let field : length (bits 32 0) ≡ 32 = length-bits 32 0 in
    let size : length bs ≡ b.begins + length h.inner
    = omega (arith, ap length h.bits_are, length-append h.before (h.header ++ (bits 32 0 ++ h.inner)), length-append h.header (bits 32 0 ++ h.inner), length-append (bits 32 0) h.inner, field, h.begins) in
    let place : at ≡ length front = omega (arith, at-is, (h.state).begins, h.begins, length-append h.before h.header) in
    let all : aligned (bs ++ bits w 0) ≡ front ++ (bits 32 0 ++ (h.inner ++ last))
    = made ∙ ap (λ s. s ++ last) h.bits_are ∙ append_assoc h.before (h.header ++ (bits 32 0 ++ h.inner)) last
    ∙ ap (λ s. h.before ++ s) (append_assoc h.header (bits 32 0 ++ h.inner) last ∙ ap (λ s. h.header ++ s) (append_assoc (bits 32 0) h.inner last))
    ∙ sym (append_assoc h.before h.header (bits 32 0 ++ (h.inner ++ last))) in
    let n : ℕ = (length (aligned (bs ++ bits w 0)) - (at + 32)) / 32 % 2 ^ 32 in
    let total : length (aligned (bs ++ bits w 0)) ≡ b.begins + length h.inner + length last = ap length made ∙ omega (arith, length-append bs last, size) in
    let words : (b.begins + length h.inner + length last - b.begins) / 32 % 2 ^ 32 ≡ n = ap (λ k. k / 32 % 2 ^ 32) (omega (arith, total, at-is, (h.state).begins)) in
    let fits : n < 2 ^ 32 = omega arith in
    let form' : (fixed_form now.width 0 ⨾ pad_form) (b.begins + length h.inner) last
    = subst (λ k. (fixed_form now.width 0 ⨾ pad_form) k last) size (subst (λ k. (fixed_form k 0 ⨾ pad_form) (length bs) last) w-is form) in
    let follows = block-follows outer b now h.before h.first n h.header h.inner last h.entries h.more h.holds h.depth h.none_defined h.begins h.plain h.small h.low h.high fits h.form h.within h.state form' words in
    let holds = holds-more outer outer h.before (h.header ++ (bits 32 n ++ (h.inner ++ last))) h.first ((length h.before, Enters b.number) ∷ (h.more ++ ((b.begins + length h.inner, LeaveBlock) ∷ []))) h.holds follows in
    let bits-are : with_field at n (aligned (bs ++ bits w 0)) ≡ h.before ++ (h.header ++ (bits 32 n ++ (h.inner ++ last)))
    = ap (with_field at n) all ∙ field-in front (h.inner ++ last) n at place ∙ append_assoc h.before h.header (bits 32 n ++ (h.inner ++ last)) in
    let items-are : items ++ ((length bs, LeaveBlock) ∷ []) ≡ h.first ++ ((length h.before, Enters b.number) ∷ (h.more ++ ((b.begins + length h.inner, LeaveBlock) ∷ [])))
    = ap (λ k. items ++ ((k, LeaveBlock) ∷ [])) size ∙ ap (λ l. l ++ ((b.begins + length h.inner, LeaveBlock) ∷ [])) h.items_are
    ∙ append_assoc h.first ((length h.before, Enters b.number) ∷ h.more) ((b.begins + length h.inner, LeaveBlock) ∷ []) in
    subst (λ s. Holds outer s (items ++ ((length bs, LeaveBlock) ∷ []))) (sym bits-are) (subst (Holds outer (h.before ++ (h.header ++ (bits 32 n ++ (h.inner ++ last))))) (sym items-are) holds)

leaving-by : (items : List (ℕ × Seen)) (old new : Writing) (bs : List Block) → Holds bs old.bits items → Matches old.width old.first old.abbrevs old.blocks bs → EndsBlock old new
    → IsWritten (items ++ shown_by Leaving (length old.bits)) new
leaving-by items old new [] h (w, a, o) l = absurd (let e = ap length (sym o ∙ l.innermost) in omega (arith, e, length-append l.outer (l.block ∷ [])))
leaving-by items old new (now ∷ others) h (before, block, outer, w, a, f, o, at, m) l =
    let same = snoc-same outer l.outer block l.block (sym o ∙ l.innermost) in
    let at' : 8 * (l.block).length_at + 32 ≡ now.begins = ap (λ k. 8 * k.length_at + 32) (sym same.1) ∙ at in
    let bits-are : new.bits ≡ end_bits old.width (8 * (l.block).length_at) old.bits = ap (λ s. s.bits) l.left in
    let holds = end-is others now old.width (8 * (l.block).length_at) old.bits items w at' h in
    let m' : Matches (l.block).outer_width (l.block).outer_first before l.outer others = subst (λ k. Matches k.outer_width k.outer_first before l.outer others) same.1 (subst (λ k. Matches block.outer_width block.outer_first before k others) same.0 m) in
    let abbrevs : take old.first old.abbrevs ≡ before = rw (a, f) (take-append_seam before now.abbrevs) in
    let m'' : Matches (l.block).outer_width (l.block).outer_first (take old.first old.abbrevs) l.outer others = subst (λ k. Matches (l.block).outer_width (l.block).outer_first k l.outer others) (sym abbrevs) m' in
    let P : Writing → Type 0 = IsWritten (items ++ shown_by Leaving (length old.bits)) in
    subst P (sym l.left) (record { blocks = others; holds = holds; matches = m'' })

pub leaving-is : (items : List (ℕ × Seen)) (old new : Writing) → EndsBlock old new → IsWritten items old → IsWritten (items ++ shown_by Leaving (length old.bits)) new
leaving-is items old new l h = leaving-by items old new h.blocks h.holds h.matches l

-- one entry in a block
not_info : (outer : List Block) (now : Block) (bs : List Bool) (items : List (ℕ × Seen)) → IsInnermost outer now (Holds outer) bs items → (now.number == 0) ≡ false
not_info outer now bs items h = ap (λ k. k == 0) (h.state).number ∙ h.plain

follows-one : (outer : List Block) (now later : Block) (e : Entry) (at : ℕ) (front : List Bool) (shows : List (ℕ × Seen)) → IsStateOf now later
    → ((cs : List Block) (n : ℕ) → entry_form (opened (with_words n now ∷ cs)) e at front × Allowed (opened (with_words n now ∷ cs)) (at + length front) (2 ^ 40) e
    × (opened (with_words n later ∷ cs) ≡ after_entry (opened (with_words n now ∷ cs)) (at + length front) e) × (shown (opened (with_words n now ∷ cs)) at e ≡ shows))
    → Follows (now ∷ outer) (later ∷ outer) at front shows
follows-one outer now later e at front shows state one = (
  refl,
  state,
  (
    e ∷ [],
    λ cs n is. let (form, may, after, shown-is) = one cs n in
        subst (λ l. Leads (opened (with_words n now ∷ cs)) at (e ∷ []) front l (opened (with_words n later ∷ cs))) shown-is (leads-one (opened (with_words n now ∷ cs)) (opened (with_words n later ∷ cs)) e at front form may after),
  ),
)

same-state : (b : Block) → IsStateOf b b
same-state b = record { number = refl; width = refl; begins = refl }

each-vbrs : (ops : List ℕ) (at : ℕ) → AllBelow (2 ^ 64) ops → each (vbr_form 6) ops at (flat_map (vbr_bits 6) ops)
each-vbrs [] at h = refl
each-vbrs (n ∷ ops) at h = (vbr_bits 6 n, flat_map (vbr_bits 6) ops, vbr_bits-is 6 n (lit≤ tt) h.0, each-vbrs ops (at + length (vbr_bits 6 n)) h.1, refl)

record-form : (w code at : ℕ) (ops : List ℕ) → 2 ≤ w → code < 2 ^ 64 → AllBelow (2 ^ 64) ops → length ops < 2 ^ 64
    → (fixed_form w 3 ⨾ vbr_form 6 code ⨾ vbr_form 6 (length ops) ⨾ each (vbr_form 6) ops) at (bits w 3 ++ (vbr_bits 6 code ++ (vbr_bits 6 (length ops) ++ flat_map (vbr_bits 6) ops)))
record-form w code at ops wide small fits few = (
  bits w 3,
  vbr_bits 6 code ++ (vbr_bits 6 (length ops) ++ flat_map (vbr_bits 6) ops),
  (small_id 3 w (lit< tt) wide, refl),
  (
    vbr_bits 6 code,
    vbr_bits 6 (length ops) ++ flat_map (vbr_bits 6) ops,
    vbr_bits-is 6 code (lit≤ tt) small,
    (vbr_bits 6 (length ops), flat_map (vbr_bits 6) ops, vbr_bits-is 6 (length ops) (lit≤ tt) few, each-vbrs ops _ fits, refl),
    refl,
  ),
  refl,
)

record-bits : (w code : ℕ) (ops : List ℕ) (before : List Bool) → record_bits w code ops before ≡ before ++ (bits w 3 ++ (vbr_bits 6 code ++ (vbr_bits 6 (length ops) ++ flat_map (vbr_bits 6) ops)))
unfolding record_bits
record-bits w code ops before =
    append_assoc (before ++ bits w 3 ++ vbr_bits 6 code) (vbr_bits 6 (length ops)) (flat_map (vbr_bits 6) ops)
    ∙ append_assoc (before ++ bits w 3) (vbr_bits 6 code) (vbr_bits 6 (length ops) ++ flat_map (vbr_bits 6) ops)
    ∙ append_assoc before (bits w 3) (vbr_bits 6 code ++ (vbr_bits 6 (length ops) ++ flat_map (vbr_bits 6) ops))

recording-by : (items : List (ℕ × Seen)) (old : Writing) (code : ℕ) (ops : List ℕ) (bs : List Block) → Holds bs old.bits items → Matches old.width old.first old.abbrevs old.blocks bs → 0 < length old.blocks
    → code < 2 ^ 64 → AllBelow (2 ^ 64) ops → length ops < 2 ^ 64 → IsWritten (items ++ shown_by (Recording code ops) (length old.bits)) (recorded code ops old)
recording-by items old code ops [] h (w, a, o) some small fits few = absurd (let e = ap length o in omega (arith, e, some))
recording-by items old code ops (now ∷ outer) h m some small fits few =
    let plain = not_info outer now old.bits items h in
    let wide : 2 ≤ now.width = omega (arith, (h.state).width, h.low) in
    let front : List Bool = bits now.width 3 ++ (vbr_bits 6 code ++ (vbr_bits 6 (length ops) ++ flat_map (vbr_bits 6) ops)) in
    let shows : List (ℕ × Seen) = (length old.bits, Record code ops None) ∷ [] in
    let follows = follows-one outer now now (PlainRecord code ops) (length old.bits) front shows (same-state now) (λ cs n. (
      record-form now.width code (length old.bits) ops wide small fits few,
      (omega arith, λ t. absurd (let e : false ≡ true = sym plain ∙ t in cc)),
      rw plain refl,
      rw plain refl,
    )) in
    let holds = holds-more (now ∷ outer) (now ∷ outer) old.bits front items shows h follows in
    let made : record_bits old.width code ops old.bits ≡ old.bits ++ front = ap (λ w. record_bits w code ops old.bits) m.3 ∙ record-bits now.width code ops old.bits in
    record { blocks = now ∷ outer; holds = subst (λ s. Holds (now ∷ outer) s (items ++ shows)) (sym made) holds; matches = m }

pub recording-is : (items : List (ℕ × Seen)) (old : Writing) (code : ℕ) (ops : List ℕ) → 0 < length old.blocks → code < 2 ^ 64 → AllBelow (2 ^ 64) ops → length ops < 2 ^ 64 → IsWritten items old
    → IsWritten (items ++ shown_by (Recording code ops) (length old.bits)) (recorded code ops old)
recording-is items old code ops some small fits few h = recording-by items old code ops h.blocks h.holds h.matches some small fits few

-- a definition
operand-form : (op : AbbrevOp) (at : ℕ) → OperandFits op → op_form op at (op_bits op)
operand-form (Literal n) at fits = (bits 1 1, vbr_bits 8 n, (lit< tt, refl), vbr_bits-is 8 n (lit≤ tt) fits, refl)
operand-form (Fixed w) at fits = (bits 1 0, bits 3 1 ++ vbr_bits 5 w, (lit< tt, refl), (bits 3 1, vbr_bits 5 w, (lit< tt, refl), vbr_bits-is 5 w (lit≤ tt) (omega (arith, fits)), refl), refl)
operand-form (Vbr w) at fits = (bits 1 0, bits 3 2 ++ vbr_bits 5 w, (lit< tt, refl), (bits 3 2, vbr_bits 5 w, (lit< tt, refl), vbr_bits-is 5 w (lit≤ tt) (omega (arith, fits)), refl), refl)
operand-form Array at fits = (bits 1 0, bits 3 3, (lit< tt, refl), (lit< tt, refl), refl)
operand-form Char6 at fits = (bits 1 0, bits 3 4, (lit< tt, refl), (lit< tt, refl), refl)
operand-form Blob at fits = (bits 1 0, bits 3 5, (lit< tt, refl), (lit< tt, refl), refl)

operands-form : (ops : List AbbrevOp) (at : ℕ) → OperandsFit ops → each op_form ops at (flat_map op_bits ops)
operands-form [] at h = refl
operands-form (op ∷ ops) at h = (op_bits op, flat_map op_bits ops, operand-form op at h.0, operands-form ops (at + length (op_bits op)) h.1, refl)

definition-form : (w at : ℕ) (ops : List AbbrevOp) → 2 ≤ w → OperandsFit ops → length ops < 2 ^ 64
    → (fixed_form w 2 ⨾ vbr_form 5 (length ops) ⨾ each op_form ops) at (bits w 2 ++ (vbr_bits 5 (length ops) ++ flat_map op_bits ops))
definition-form w at ops wide fits few = (
  bits w 2,
  vbr_bits 5 (length ops) ++ flat_map op_bits ops,
  (small_id 2 w (lit< tt) wide, refl),
  (vbr_bits 5 (length ops), flat_map op_bits ops, vbr_bits-is 5 (length ops) (lit≤ tt) few, operands-form ops _ fits, refl),
  refl,
)

definition-bits : (w : ℕ) (ops : List AbbrevOp) (before : List Bool) → definition_bits w ops before ≡ before ++ (bits w 2 ++ (vbr_bits 5 (length ops) ++ flat_map op_bits ops))
unfolding definition_bits
definition-bits w ops before =
    append_assoc (before ++ bits w 2) (vbr_bits 5 (length ops)) (flat_map op_bits ops) ∙ append_assoc before (bits w 2) (vbr_bits 5 (length ops) ++ flat_map op_bits ops)

defining-by : (items : List (ℕ × Seen)) (old : Writing) (ops : List AbbrevOp) (bs : List Block) → Holds bs old.bits items → Matches old.width old.first old.abbrevs old.blocks bs → 0 < length old.blocks
    → is_definition ops ≡ true → OperandsFit ops → length ops < 2 ^ 64 → IsWritten (items ++ shown_by (Defining ops) (length old.bits)) (defined ops old)
defining-by items old ops [] h (w, a, o) some may fits few = absurd (let e = ap length o in omega (arith, e, some))
defining-by items old ops (now ∷ outer) h (before, block, others, w, a, f, o, at, m) some may fits few =
    let plain = not_info outer now old.bits items h in
    let wide : 2 ≤ now.width = omega (arith, (h.state).width, h.low) in
    let front : List Bool = bits now.width 2 ++ (vbr_bits 5 (length ops) ++ flat_map op_bits ops) in
    let later : Block = record now { abbrevs = now.abbrevs ++ ops ∷ [] } in
    let follows = follows-one outer now later (Define ops) (length old.bits) front [] (record { number = refl; width = refl; begins = refl }) (λ cs n. (
      definition-form now.width (length old.bits) ops wide fits few,
      (omega arith, may, λ t. absurd (let e : false ≡ true = sym plain ∙ t in cc)),
      rw plain refl,
      refl,
    )) in
    let holds = holds-more (now ∷ outer) (later ∷ outer) old.bits front items [] h follows in
    let made : definition_bits old.width ops old.bits ≡ old.bits ++ front = ap (λ w. definition_bits w ops old.bits) w ∙ definition-bits now.width ops old.bits in
    record {
      blocks = later ∷ outer;
      holds = subst (λ s. Holds (later ∷ outer) s (items ++ [])) (sym made) holds;
      matches = (before, block, others, w, ap (λ l. l ++ ops ∷ []) a ∙ append_assoc before now.abbrevs (ops ∷ []), f, o, at, m);
    }

pub defining-is : (items : List (ℕ × Seen)) (old : Writing) (ops : List AbbrevOp) → 0 < length old.blocks → is_definition ops ≡ true → OperandsFit ops → length ops < 2 ^ 64 → IsWritten items old
    → IsWritten (items ++ shown_by (Defining ops) (length old.bits)) (defined ops old)
defining-is items old ops some may fits few h = defining-by items old ops h.blocks h.holds h.matches some may fits few

-- a record with a blob
blob-is : (w id code : ℕ) (blob : List ℕ) (before : List Bool) → id < 2 ^ w → AllBelow 256 blob → length blob < 2 ^ 64
    → (front : List Bool) × (fixed_form w id ⨾ values_form (Literal code ∷ Blob ∷ []) (code ∷ []) (Some blob)) (length before) front × (blob_bits w id blob before ≡ before ++ front)
unfolding blob_bits aligned
blob-is w id code blob before small fits few =
    let a = bits w id in
    let b = vbr_bits 6 (length blob) in
    let first : List Bool = before ++ a ++ b in
    let pad = bits (pad_of (length first)) 0 in
    let second : List Bool = (first ++ pad) ++ bits_of blob in
    let last = bits (pad_of (length second)) 0 in
    let place : length first ≡ length before + length a + 0 + length b = omega (arith, length-append (before ++ a) b, length-append before a) in
    let place2 : length second ≡ length before + length a + 0 + length b + length pad + length (bits_of blob) = omega (arith, place, length-append (first ++ pad) (bits_of blob), length-append first pad) in (
      a ++ (b ++ (pad ++ (bits_of blob ++ last))),
      (
        a,
        b ++ (pad ++ (bits_of blob ++ last)),
        (small, refl),
        (
          [],
          b ++ (pad ++ (bits_of blob ++ last)),
          (refl, refl),
          (b, pad ++ (bits_of blob ++ last), vbr_bits-is 6 (length blob) (lit≤ tt) few, (pad, bits_of blob ++ last, pad-is _ _ place, (bits_of blob, last, (fits, refl), pad-is _ _ place2, refl), refl), refl),
          refl,
        ),
        refl,
      ),
      append_assoc (first ++ pad) (bits_of blob) last ∙ append_assoc first pad (bits_of blob ++ last) ∙ append_assoc (before ++ a) b (pad ++ (bits_of blob ++ last)) ∙ append_assoc before a (b ++ (pad ++ (bits_of blob ++ last))),
    )

blobbing-by : (items : List (ℕ × Seen)) (old : Writing) (id code : ℕ) (blob : List ℕ) (bs : List Block) → Holds bs old.bits items → Matches old.width old.first old.abbrevs old.blocks bs → 0 < length old.blocks
    → 4 ≤ id → slice_get (drop old.first old.abbrevs) (id - 4) ≡ Some (Literal code ∷ Blob ∷ []) → id < 2 ^ old.width → AllBelow 256 blob → length blob < 2 ^ 64
    → IsWritten (items ++ shown_by (RecordingBlob id code blob) (length old.bits)) (with_blob id blob old)
blobbing-by items old id code blob [] h (w, a, o) some high found small fits few = absurd (let e = ap length o in omega (arith, e, some))
blobbing-by items old id code blob (now ∷ outer) h (before, block, others, w, a, f, o, at, m) some high found small fits few =
    let plain = not_info outer now old.bits items h in
    let (front, form, made) = blob-is old.width id code blob old.bits small fits few in
    let form' : (fixed_form now.width id ⨾ values_form (Literal code ∷ Blob ∷ []) (code ∷ []) (Some blob)) (length old.bits) front
    = subst (λ k. (fixed_form k id ⨾ values_form (Literal code ∷ Blob ∷ []) (code ∷ []) (Some blob)) (length old.bits) front) w form in
    let own : drop old.first old.abbrevs ≡ now.abbrevs = rw (a, f) (drop-append_seam before now.abbrevs) in
    let found' : slice_get now.abbrevs (id - 4) ≡ Some (Literal code ∷ Blob ∷ []) = ap (λ l. slice_get l (id - 4)) (sym own) ∙ found in
    let shows : List (ℕ × Seen) = (length old.bits, Record code [] (Some blob)) ∷ [] in
    let follows = follows-one outer now now (AbbrevRecord id code [] (Some blob)) (length old.bits) front shows (same-state now) (λ cs n. (
      (Literal code ∷ Blob ∷ [], (high, found'), form'),
      (omega arith, λ t. absurd (let e : false ≡ true = sym plain ∙ t in cc)),
      rw plain refl,
      rw plain refl,
    )) in
    let holds = holds-more (now ∷ outer) (now ∷ outer) old.bits front items shows h follows in
    record { blocks = now ∷ outer; holds = subst (λ s. Holds (now ∷ outer) s (items ++ shows)) (sym made) holds; matches = (before, block, others, w, a, f, o, at, m) }

-- What was written by calls.
pub wrote-is : (calls : List Call) (items : List (ℕ × Seen)) (s : Writing) → Wrote calls items s → IsWritten items s
wrote-is [] items s (none, is) = subst (λ x. IsWritten x s) (sym none) (subst (IsWritten []) (sym is) nothing-is)
wrote-is (call ∷ earlier) items s (old, before, wrote, does, is) =
    subst (λ x. IsWritten x s) (sym is) (by_call call old before s does (wrote-is earlier before old wrote))
  where
    by_call : (call : Call) (old : Writing) (before : List (ℕ × Seen)) (s : Writing) → Does call old s → IsWritten before old → IsWritten (before ++ shown_by call (length old.bits)) s
    by_call (Entering number width) old before s (depth, some, small, low, high, new) h =
        let P : Writing → Type 0 = IsWritten (before ++ shown_by (Entering number width) (length old.bits)) in subst P (sym new) (entering-is before old number width depth some small low high h)
    by_call Leaving old before s leaves h = leaving-is before old s leaves h
    by_call (Defining ops) old before s (some, may, fits, few, new) h =
        let P : Writing → Type 0 = IsWritten (before ++ shown_by (Defining ops) (length old.bits)) in subst P (sym new) (defining-is before old ops some may fits few h)
    by_call (Recording code ops) old before s (some, small, fits, few, new) h =
        let P : Writing → Type 0 = IsWritten (before ++ shown_by (Recording code ops) (length old.bits)) in subst P (sym new) (recording-is before old code ops some small fits few h)
    by_call (RecordingBlob id code blob) old before s (some, (high, found), small, fits, few, new) h =
        let P : Writing → Type 0 = IsWritten (before ++ shown_by (RecordingBlob id code blob) (length old.bits)) in
        subst P (sym new) (blobbing-by before old id code blob h.blocks h.holds h.matches some high found small fits few)

whole-stands : (bytes : List ℕ) (bs : List Bool) (items : List (ℕ × Seen)) (blocks : List Block) (width first : ℕ) (abbrevs : List (List AbbrevOp)) (open_blocks : List OpenBlock)
    → Holds blocks bs items → Matches width first abbrevs open_blocks blocks → length open_blocks ≡ 0 → bits_of bytes ≡ bs → StandFor bytes items
whole-stands bytes bs items [] width first abbrevs open_blocks (es, lead) m none is =
    let lead' : Leads no_blocks 0 es (bits_of bytes) items no_blocks = subst (λ s. Leads no_blocks 0 es s items no_blocks) (sym is) lead in
    (es, (leads-stand es no_blocks no_blocks 0 (length (bits_of bytes)) (bits_of bytes) items lead' refl tt (omega arith)).0)
whole-stands bytes bs items (b ∷ outer) width first abbrevs open_blocks h m none is = absurd (omega (arith, none, depth-is width first abbrevs open_blocks (b ∷ outer) m))

pub written-stands : (items : List (ℕ × Seen)) (s : Writing) (bytes : List ℕ) → HasWritten items s → length s.blocks ≡ 0 → bits_of bytes ≡ s.bits → StandFor bytes items
written-stands items s bytes (calls, wrote) none is = let h = wrote-is calls items s wrote in whole-stands bytes s.bits items h.blocks s.width s.first s.abbrevs s.blocks h.holds h.matches none is

-- the clauses of the writer's calls
pub entering-wrote : (items : List (ℕ × Seen)) (old new : Writing) (number width : ℕ) → length old.blocks < 32 → 0 < number → number < 2 ^ 32 → 2 ≤ width → width ≤ 32 → new ≡ entered number width old
    → HasWritten items old → HasWritten (items ++ shown_by (Entering number width) (length old.bits)) new
entering-wrote items old new number width depth some small low high is (calls, wrote) = (Entering number width ∷ calls, (old, items, wrote, (depth, some, small, low, high, is), refl))

pub leaving-wrote : (items : List (ℕ × Seen)) (old new : Writing) → EndsBlock old new → HasWritten items old → HasWritten (items ++ shown_by Leaving (length old.bits)) new
leaving-wrote items old new is (calls, wrote) = (Leaving ∷ calls, (old, items, wrote, is, refl))

pub defining-wrote : (items : List (ℕ × Seen)) (old new : Writing) (ops : List AbbrevOp) → 0 < length old.blocks → is_definition ops ≡ true → OperandsFit ops → length ops < 2 ^ 64 → new ≡ defined ops old
    → HasWritten items old → HasWritten items new
defining-wrote items old new ops some may fits few is (calls, wrote) = (Defining ops ∷ calls, (old, items, wrote, (some, may, fits, few, is), sym (append-nil items)))

pub recording-wrote : (items : List (ℕ × Seen)) (old new : Writing) (code : ℕ) (ops : List ℕ) → 0 < length old.blocks → code < 2 ^ 64 → AllBelow (2 ^ 64) ops → length ops < 2 ^ 64 → new ≡ recorded code ops old
    → HasWritten items old → HasWritten (items ++ shown_by (Recording code ops) (length old.bits)) new
recording-wrote items old new code ops some small fits few is (calls, wrote) = (Recording code ops ∷ calls, (old, items, wrote, (some, small, fits, few, is), refl))

pub blobbing-wrote : (items : List (ℕ × Seen)) (old new : Writing) (id code : ℕ) (blob : List ℕ) → 0 < length old.blocks → IsBlobCode id code old → id < 2 ^ old.width → AllBelow 256 blob → length blob < 2 ^ 64
    → new ≡ with_blob id blob old → HasWritten items old → HasWritten (items ++ shown_by (RecordingBlob id code blob) (length old.bits)) new
blobbing-wrote items old new id code blob some found small fits few is (calls, wrote) = (RecordingBlob id code blob ∷ calls, (old, items, wrote, (some, found, small, fits, few, is), refl))

pub nothing-wrote : (s : Writing) → s ≡ nothing_written → HasWritten [] s
nothing-wrote s is = ([], (refl, is))

pub all_below : (n : ℕ) (xs : List ℕ) → ((i : ℕ) → get_or xs i 0 < n) → AllBelow n xs
all_below n [] h = tt
all_below n (x ∷ xs) h = (h 0, all_below n xs (λ i. h (suc i)))
