-- What a writer has written, with zeros in the length field of each open block.
use Rattle.std.proofs.Common.{◌≡◌, ℕ, ◌+◌, ◌*◌, ◌-◌, ◌/◌, ◌%◌, ◌^◌, ◌<◌, ◌≤◌, ◌==◌, Bool, false, List, [], ◌∷◌, ◌++◌, length, refl, sym, ◌∙◌, ap, subst, arith, length-append, append_assoc, if◌then◌else◌, None}
use Rattle.std.proofs.lemmas.List.{append-nil}
use Rattle.bitstream.specs.Bits.{bits}
use Rattle.bitstream.specs.Reading.{Seen, Enters, LeaveBlock}
use Rattle.bitstream.specs.Stands.{BitPattern, ◌⨾◌, fixed_form, vbr_form, pad_form, Entry, EndBlock, EnterBlock, Block, Blocks, no_blocks, width_in, in_info, shown}
use Rattle.bitstream.proofs.BitLaws.{length-bits}
use Rattle.bitstream.proofs.LeadLaws.{Leads, leads-append, leads-one}

abbrev pub with_words : ℕ → Block → Block
with_words n b = record b { words = n }

-- these blocks are open, and BLOCKINFO never was
abbrev pub opened : List Block → Blocks
opened bs = record { open_blocks = bs; defined = []; named = None }

-- Entries right in a block, at a depth, that lead it from one state to another, whatever its length is.
abbrev pub Within : ℕ → Block → Block → ℕ → List Entry → List Bool → List (ℕ × Seen) → Type 0
Within depth b d at es bs items = (outer : List Block) (words : ℕ) → length outer ≡ depth → Leads (opened (with_words words b ∷ outer)) at es bs items (opened (with_words words d ∷ outer))

-- a block's state behind some of its entries
pub record IsStateOf (b d : Block) : Type 0 where
  pub number : d.number ≡ b.number
  pub width : d.width ≡ b.width
  pub begins : d.begins ≡ b.begins

-- where a block began: the front behind its id up to its length field
abbrev pub header_form : ℕ → Block → BitPattern
header_form id_width b = fixed_form id_width 1 ⨾ vbr_form 8 b.number ⨾ vbr_form 4 b.width ⨾ pad_form

-- The innermost open block, of which the state is `now`: what stands before it, its beginning with zeros for its length, and what stands in it.
pub record IsInnermost (outer : List Block) (now : Block) (Before : List Bool → List (ℕ × Seen) → Type 0) (bs : List Bool) (items : List (ℕ × Seen)) : Type 0 where
  pub before : List Bool
  pub header : List Bool
  pub inner : List Bool
  pub block : Block
  pub entries : List Entry
  pub first : List (ℕ × Seen)
  pub more : List (ℕ × Seen)
  pub holds : Before before first
  pub form : header_form (width_in outer) block (length before) header
  pub none_defined : block.abbrevs ≡ []
  pub begins : block.begins ≡ length before + length header + 32
  pub plain : (block.number == 0) ≡ false
  pub small : block.number < 2 ^ 32
  pub low : 2 ≤ block.width
  pub high : block.width ≤ 32
  pub depth : length outer < 32
  pub state : IsStateOf block now
  pub within : Within (length outer) block now block.begins entries inner more
  pub bits_are : bs ≡ before ++ (header ++ (bits 32 0 ++ inner))
  pub items_are : items ≡ first ++ ((length before, Enters block.number) ∷ more)

abbrev pub Holds : List Block → List Bool → List (ℕ × Seen) → Type 0
Holds [] bs items = (es : List Entry) × Leads no_blocks 0 es bs items no_blocks
Holds (now ∷ outer) bs items = IsInnermost outer now (Holds outer) bs items

-- Bits in the innermost open block, or outside all blocks, that may stand behind what was written.
abbrev pub Follows : List Block → List Block → ℕ → List Bool → List (ℕ × Seen) → Type 0
Follows [] [] at bs items = (es : List Entry) × Leads no_blocks at es bs items no_blocks
Follows (now ∷ outer) (then_now ∷ other) at bs items = (other ≡ outer) × IsStateOf now then_now × ((es : List Entry) × Within (length outer) now then_now at es bs items)
Follows _ _ at bs items = ⊥

innermost-more : (outer : List Block) (now later : Block) (Before : List Bool → List (ℕ × Seen) → Type 0) (bs more : List Bool) (items shows : List (ℕ × Seen)) (es : List Entry)
    → IsInnermost outer now Before bs items → IsStateOf now later → Within (length outer) now later (length bs) es more shows → IsInnermost outer later Before (bs ++ more) (items ++ shows)
innermost-more outer now later Before bs more items shows es h s w =
    let fields : length (bits 32 0) ≡ 32 = length-bits 32 0 in
    let place : length bs ≡ (h.block).begins + length h.inner
    = omega (arith, ap length h.bits_are, length-append h.before (h.header ++ (bits 32 0 ++ h.inner)), length-append h.header (bits 32 0 ++ h.inner), length-append (bits 32 0) h.inner, fields, h.begins) in
    record {
      before = h.before;
      header = h.header;
      inner = h.inner ++ more;
      block = h.block;
      entries = h.entries ++ es;
      first = h.first;
      more = h.more ++ shows;
      holds = h.holds;
      form = h.form;
      none_defined = h.none_defined;
      begins = h.begins;
      plain = h.plain;
      small = h.small;
      low = h.low;
      high = h.high;
      depth = h.depth;
      state = record { number = s.number ∙ (h.state).number; width = s.width ∙ (h.state).width; begins = s.begins ∙ (h.state).begins };
      within = λ others words is. leads-append h.entries es (opened (with_words words h.block ∷ others)) (opened (with_words words now ∷ others)) (opened (with_words words later ∷ others)) (h.block).begins h.inner more h.more shows
          (h.within others words is) (subst (λ n. Leads (opened (with_words words now ∷ others)) n es more shows (opened (with_words words later ∷ others))) place (w others words is));
      bits_are = ap (λ s. s ++ more) h.bits_are ∙ append_assoc h.before (h.header ++ (bits 32 0 ++ h.inner)) more
          ∙ ap (λ s. h.before ++ s) (append_assoc h.header (bits 32 0 ++ h.inner) more ∙ ap (λ s. h.header ++ s) (append_assoc (bits 32 0) h.inner more));
      items_are = ap (λ l. l ++ shows) h.items_are ∙ append_assoc h.first ((length h.before, Enters (h.block).number) ∷ h.more) shows;
    }

pub holds-more : (blocks later : List Block) (bs more : List Bool) (items shows : List (ℕ × Seen)) → Holds blocks bs items → Follows blocks later (length bs) more shows → Holds later (bs ++ more) (items ++ shows)
holds-more [] [] bs more items shows (es, lead) (fs, follow) =
    (es ++ fs, leads-append es fs no_blocks no_blocks no_blocks 0 bs more items shows lead (subst (λ n. Leads no_blocks n fs more shows no_blocks) (let e : length bs ≡ 0 + length bs = omega arith in e) follow))
holds-more (now ∷ outer) (then_now ∷ other) bs more items shows h (same, state, (es, w)) =
    subst (λ o. Holds (then_now ∷ o) (bs ++ more) (items ++ shows)) (sym same) (innermost-more outer now then_now (Holds outer) bs more items shows es h state w)
holds-more [] (x ∷ xs) bs more items shows h f = absurd f
holds-more (x ∷ xs) [] bs more items shows h f = absurd f

-- a block begins
pub holds-enter : (outer : List Block) (b : Block) (bs header : List Bool) (items : List (ℕ × Seen)) → Holds outer bs items → header_form (width_in outer) b (length bs) header → b.abbrevs ≡ []
    → b.begins ≡ length bs + length header + 32 → (b.number == 0) ≡ false → b.number < 2 ^ 32 → 2 ≤ b.width → b.width ≤ 32 → length outer < 32
    → Holds (b ∷ outer) (bs ++ (header ++ bits 32 0)) (items ++ ((length bs, Enters b.number) ∷ []))
holds-enter outer b bs header items h form none begins plain small low high depth = record {
  before = bs;
  header = header;
  inner = [];
  block = b;
  entries = [];
  first = items;
  more = [];
  holds = h;
  form = form;
  none_defined = none;
  begins = begins;
  plain = plain;
  small = small;
  low = low;
  high = high;
  depth = depth;
  state = record { number = refl; width = refl; begins = refl };
  within = λ others words is. (refl, refl, refl);
  bits_are = ap (λ s. bs ++ (header ++ s)) (sym (append-nil (bits 32 0)));
  items_are = refl;
}

-- a form behind four others
behind-four : (A B C D E : BitPattern) (at : ℕ) (front last : List Bool) → (A ⨾ B ⨾ C ⨾ D) at front → ((n : ℕ) → E n last) → (A ⨾ B ⨾ C ⨾ D ⨾ E) at (front ++ last)
behind-four A B C D E at front last (a, r1, pa, (b, r2, pb, (c, d, pc, pd, e3), e2), e1) pe = (
  a,
  b ++ (c ++ (d ++ last)),
  pa,
  (b, c ++ (d ++ last), pb, (c, d ++ last, pc, (d, last, pd, pe (at + length a + length b + length c + length d), refl), refl), refl),
  ap (λ s. s ++ last) (e1 ∙ ap (λ s. a ++ s) (e2 ∙ ap (λ s. b ++ s) e3))
      ∙ append_assoc a (b ++ (c ++ d)) last ∙ ap (λ s. a ++ s) (append_assoc b (c ++ d) last ∙ ap (λ s. b ++ s) (append_assoc c d last)),
)

-- A whole block, with its length.
pub whole-block : (cs outer : List Block) (b now : Block) (at words : ℕ) (header inner last : List Bool) (es : List Entry) (more : List (ℕ × Seen))
    → width_in cs ≡ width_in outer → in_info cs ≡ false → length cs ≡ length outer → length outer < 32 → b.abbrevs ≡ [] → b.begins ≡ at + length header + 32
    → (b.number == 0) ≡ false → b.number < 2 ^ 32 → 2 ≤ b.width → b.width ≤ 32 → words < 2 ^ 32
    → header_form (width_in outer) b at header → Within (length outer) b now b.begins es inner more → IsStateOf b now
    → (fixed_form now.width 0 ⨾ pad_form) (b.begins + length inner) last → (b.begins + length inner + length last - b.begins) / 32 % 2 ^ 32 ≡ words
    → Leads (opened cs) at (EnterBlock b.number b.width words ∷ (es ++ (EndBlock ∷ []))) (header ++ (bits 32 words ++ (inner ++ last))) ((at, Enters b.number) ∷ (more ++ ((b.begins + length inner, LeaveBlock) ∷ []))) (opened cs)
whole-block cs outer b now at words header inner last es more wide info count depth none begins plain small low high fits form within state ends words-is =
    let field : length (bits 32 words) ≡ 32 = length-bits 32 words in
    let place : at + length (header ++ bits 32 words) ≡ b.begins = omega (arith, length-append header (bits 32 words), field, begins) in
    let block : Block = record { number = b.number; width = b.width; abbrevs = []; begins = at + length (header ++ bits 32 words); words = words } in
    let same : block ≡ with_words words b = block-is b (at + length (header ++ bits 32 words)) words none place in
    let enter : (fixed_form (width_in cs) 1 ⨾ vbr_form 8 b.number ⨾ vbr_form 4 b.width ⨾ pad_form ⨾ fixed_form 32 words) at (header ++ bits 32 words)
    = rw wide (behind-four (fixed_form (width_in outer) 1) (vbr_form 8 b.number) (vbr_form 4 b.width) pad_form (fixed_form 32 words) at header (bits 32 words) form (λ n. (fits, refl))) in
    let end-one : Leads (opened (with_words words now ∷ cs)) (b.begins + length inner) (EndBlock ∷ []) last (shown (opened (with_words words now ∷ cs)) (b.begins + length inner) EndBlock) (opened cs)
    = leads-one (opened (with_words words now ∷ cs)) (opened cs) EndBlock (b.begins + length inner) last ends (with_words words now, cs, refl, rw state.begins words-is) refl in
    let end-shown : shown (opened (with_words words now ∷ cs)) (b.begins + length inner) EndBlock ≡ (b.begins + length inner, LeaveBlock) ∷ []
    = ap (λ t. if t then [] else (b.begins + length inner, LeaveBlock) ∷ []) (ap (λ n. n == 0) state.number ∙ plain) in
    let end : Leads (opened (with_words words now ∷ cs)) (b.begins + length inner) (EndBlock ∷ []) last ((b.begins + length inner, LeaveBlock) ∷ []) (opened cs)
    = subst (λ l. Leads (opened (with_words words now ∷ cs)) (b.begins + length inner) (EndBlock ∷ []) last l (opened cs)) end-shown end-one in
    let inside : Leads (opened (with_words words b ∷ cs)) b.begins (es ++ (EndBlock ∷ [])) (inner ++ last) (more ++ ((b.begins + length inner, LeaveBlock) ∷ [])) (opened cs)
    = leads-append es (EndBlock ∷ []) (opened (with_words words b ∷ cs)) (opened (with_words words now ∷ cs)) (opened cs) b.begins inner last more ((b.begins + length inner, LeaveBlock) ∷ []) (within cs words count) end in
    let inside' : Leads (opened (block ∷ cs)) (at + length (header ++ bits 32 words)) (es ++ (EndBlock ∷ [])) (inner ++ last) (more ++ ((b.begins + length inner, LeaveBlock) ∷ [])) (opened cs)
    = subst (λ x. Leads (opened (x ∷ cs)) (at + length (header ++ bits 32 words)) (es ++ (EndBlock ∷ [])) (inner ++ last) (more ++ ((b.begins + length inner, LeaveBlock) ∷ [])) (opened cs)) (sym same)
    (subst (λ n. Leads (opened (with_words words b ∷ cs)) n (es ++ (EndBlock ∷ [])) (inner ++ last) (more ++ ((b.begins + length inner, LeaveBlock) ∷ [])) (opened cs)) (sym place) inside) in (
      header ++ bits 32 words,
      inner ++ last,
      more ++ ((b.begins + length inner, LeaveBlock) ∷ []),
      enter,
      (info, omega (arith, count, depth), small, low, high, room words fits),
      inside',
      sym (append_assoc header (bits 32 words) (inner ++ last)),
      ap (λ t. (if t then [] else (at, Enters b.number) ∷ []) ++ (more ++ ((b.begins + length inner, LeaveBlock) ∷ []))) (sym plain),
    )
  where
    room : (n : ℕ) → n < 2 ^ 32 → 32 * n ≤ 2 ^ 40
    room n low = omega (arith, low)

    block-is : (b : Block) (begins words : ℕ) → b.abbrevs ≡ [] → begins ≡ b.begins → (let x : Block = record { number = b.number; width = b.width; abbrevs = []; begins = begins; words = words } in x) ≡ with_words words b
    block-is b begins words none is = rw (none, is) refl
