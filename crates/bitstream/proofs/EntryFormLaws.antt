-- The entries of a stream: what is written is read, and what is read is written so.
use Rattle.std.proofs.Common.{◌≡◌, ℕ, zero, suc, ◌+◌, ◌-◌, ◌/◌, ◌%◌, ◌^◌, ◌<◌, ◌≤◌, ◌==◌, Bool, true, false, List, [], ◌∷◌, ◌++◌, map, length, take, drop, slice_get, slice_index_or, refl, sym, ◌∙◌, ap, subst, arith, length-append, append_assoc, ltb-true, ltb-false, leb-true, leb-false, lt-ltb, le-ltb, eqb-true, nat_lt, nat_le, Ok, Err, Result, Some, None, Option, if◌then◌else◌, lit<}
use Rattle.std.proofs.lemmas.Bool.{eqb-false, eq-eqb, ne_eqb}
use Rattle.std.proofs.lemmas.List.{append-nil, length-take-le, take-append-le, take-append-drop, take_all}
use Rattle.std.proofs.Math.Seq.{take-append_seam}
use Rattle.bitstream.specs.declared.item.BitFault.{BitFault}
use Rattle.bitstream.specs.declared.item.BitFault.TheVariants.{OutsideBlock, TooDeep, BadOperands, BadBlockLength}
use Rattle.bitstream.specs.declared.item.AbbrevOp.{AbbrevOp}
use Rattle.bitstream.specs.declared.item.AbbrevOp.TheVariants.{Literal, Fixed, Vbr, Array, Char6, Blob}
use Rattle.bitstream.specs.declared.cursor.Opened.{Opened}
use Rattle.bitstream.specs.declared.block_info.BlockInfoDefinition.{BlockInfoDefinition}
use Rattle.bitstream.specs.declared.entry_reader.Scope.{Scope}
use Rattle.bitstream.specs.Fields.{Input, at_bits, fixed_at, vbr_at, ◌>>=◌}
use Rattle.bitstream.specs.Stream.{opened_at, definition_at, numbers_at}
use Rattle.bitstream.specs.BlockInfo.{block_info_for}
use Rattle.bitstream.specs.Scopes.{abbrev_in}
use Rattle.bitstream.specs.Writer.{is_definition}
use Rattle.bitstream.specs.Reading.{Seen, Enters, LeaveBlock, Record, Context, shown_in, left_block, end_at, entered_block, enter_at, defined_for, define_at, judged, plain_at, judged_values, by_abbrev, entry_by, entry_at}
use Rattle.bitstream.specs.Items.{IsSound}
use Rattle.bitstream.specs.Stands.{BitPattern, ◌⨾◌, each, fixed_form, vbr_form, pad_form, number_form, values_form, Entry, EndBlock, EnterBlock, Define, PlainRecord, AbbrevRecord, Block, Blocks, width_in, in_info, abbrevs_in, defined_for_block, entry_form, Names, Allowed, outer_blocks, with_abbrev, with_definition, named_now, after_record, after_entry, shown}
use Rattle.bitstream.proofs.OnwardLaws.{definition_rest, Onward, IsDefinition, definition-onward}
use Rattle.bitstream.proofs.SoundLaws.{found-sound}
use Rattle.bitstream.proofs.FormLaws.{AgainIf, Anywhere, Again, again-then, Spelled, spelled-then, spelled-nothing, spelled-either, spelled-weaker, fixed_form-again, fixed-spelled, any_vbr-again, any_vbr-spelled, pad_form-again, pad-spelled, moved, numbers-again, numbers-spelled}
use Rattle.bitstream.proofs.ValueFormLaws.{ValuesAre, values-again, values-spelled, definition_form, definition-again, definition-spelled, opened_form, opened_is, HasWords, again-if-behind, again-unless-behind, opened-again, OpenedIs, opened-spelled}

-- a reader's innermost open block is this one
pub record IsBlock (s : Scope) (b : Block) : Type 0 where
  pub number : s.block ≡ b.number
  pub width : s.width ≡ b.width
  pub begins : s.begins ≡ b.begins
  pub words : s.said ≡ b.words

-- a block's abbreviations are those that BLOCKINFO had defined for it, and its own, which stand behind others
pub record HasAbbrevs (ks : List BlockInfoDefinition) (s : Scope) (before abbrevs all : List (List AbbrevOp)) : Type 0 where
  pub own : List (List AbbrevOp)
  pub behind : abbrevs ≡ before ++ own
  pub enough : s.block_info ≤ length (block_info_for s.block ks)
  pub is : all ≡ take s.block_info (block_info_for s.block ks) ++ own

-- a reader's open blocks are these
abbrev pub Matches : List BlockInfoDefinition → Scope → List Scope → List (List AbbrevOp) → List Block → Type 0
Matches ks s outer abbrevs [] = (s.width ≡ 2) × ((s.block == 0) ≡ false) × (outer ≡ []) × (abbrevs ≡ []) × (s.block_info ≡ 0)
Matches ks s outer abbrevs (b ∷ bs) = (before : List (List AbbrevOp)) × (next : Scope) × (others : List Scope)
    × IsBlock s b × HasAbbrevs ks s before abbrevs b.abbrevs × (s.first ≡ length before) × (outer ≡ others ++ next ∷ []) × Matches ks next others before bs

abbrev pub pair_of : BlockInfoDefinition → ℕ × List AbbrevOp
pair_of k = (k.block, k.definition)

pub record Same (c : Context) (w : Blocks) : Type 0 where
  pub matches : Matches c.block_info c.scope c.outer c.abbrevs w.open_blocks
  pub defined : w.defined ≡ map pair_of c.block_info
  pub named : w.named ≡ c.named

pub same-width : (ks : List BlockInfoDefinition) (s : Scope) (outer : List Scope) (abbrevs : List (List AbbrevOp)) (bs : List Block) → Matches ks s outer abbrevs bs → s.width ≡ width_in bs
same-width ks s outer abbrevs [] m = m.0
same-width ks s outer abbrevs (b ∷ bs) m = (m.3).width

pub same-info : (ks : List BlockInfoDefinition) (s : Scope) (outer : List Scope) (abbrevs : List (List AbbrevOp)) (bs : List Block) → Matches ks s outer abbrevs bs → (s.block == 0) ≡ in_info bs
same-info ks s outer abbrevs [] m = m.1
same-info ks s outer abbrevs (b ∷ bs) m = ap (λ n. n == 0) (m.3).number

pub same-depth : (ks : List BlockInfoDefinition) (s : Scope) (outer : List Scope) (abbrevs : List (List AbbrevOp)) (bs : List Block) → Matches ks s outer abbrevs bs → length outer ≡ length bs
same-depth ks s outer abbrevs [] m = ap length m.2
same-depth ks s outer abbrevs (b ∷ bs) (before, next, others, is, a, f, o, m) = ap length o ∙ omega (arith, length-append others (next ∷ []), same-depth ks next others before bs m)

get-behind : {X : Type 0} (xs ys : List X) (k : ℕ) → slice_get (xs ++ ys) (length xs + k) ≡ slice_get ys k
get-behind [] ys k = ap (slice_get ys) (let e : 0 + k ≡ k = omega arith in e)
get-behind (x ∷ xs) ys k = ap (slice_get (x ∷ (xs ++ ys))) (let e : suc (length xs) + k ≡ suc (length xs + k) = omega arith in e) ∙ get-behind xs ys k

get-front : {X : Type 0} (xs ys : List X) (k : ℕ) → k < length xs → slice_get (xs ++ ys) k ≡ slice_get xs k
get-front [] ys k low = absurd (omega (arith, low))
get-front (x ∷ xs) ys zero low = refl
get-front (x ∷ xs) ys (suc k) low = get-front xs ys k (omega (arith, low))

get-taken : {X : Type 0} (n : ℕ) (xs : List X) (k : ℕ) → k < n → n ≤ length xs → slice_get (take n xs) k ≡ slice_get xs k
get-taken n xs k low room = sym (get-front (take n xs) (drop n xs) k (omega (arith, low, length-take-le n xs room))) ∙ ap (λ l. slice_get l k) (take-append-drop n xs)

-- the abbreviation that a block's number stands for
has-abbrev : (ks : List BlockInfoDefinition) (s : Scope) (before abbrevs all : List (List AbbrevOp)) (k : ℕ) → HasAbbrevs ks s before abbrevs all → s.first ≡ length before → abbrev_in s ks abbrevs k ≡ slice_get all k
has-abbrev ks s before abbrevs all k h first = by_known (nat_lt k s.block_info) refl
  where
    front : List (List AbbrevOp)
    front = take s.block_info (block_info_for s.block ks)

    long : length front ≡ s.block_info
    long = length-take-le s.block_info (block_info_for s.block ks) h.enough

    by_known : (low : Bool) → nat_lt k s.block_info ≡ low → abbrev_in s ks abbrevs k ≡ slice_get all k
    by_known true t = rw (t, h.is) (sym (get-front front h.own k (omega (arith, ltb-true _ _ t, long)) ∙ get-taken s.block_info (block_info_for s.block ks) k (ltb-true _ _ t) h.enough))
    by_known false t =
        let place : k ≡ length front + (k - s.block_info) = omega (arith, ltb-false _ _ t, long) in
        rw (t, h.is, h.behind, first) (get-behind before h.own (k - s.block_info) ∙ sym (ap (slice_get (front ++ h.own)) place ∙ get-behind front h.own (k - s.block_info)))

pub same-abbrevs : (ks : List BlockInfoDefinition) (s : Scope) (outer : List Scope) (abbrevs : List (List AbbrevOp)) (bs : List Block) (k : ℕ) → Matches ks s outer abbrevs bs → abbrev_in s ks abbrevs k ≡ slice_get (abbrevs_in bs) k
same-abbrevs ks s outer abbrevs [] k m = rw (m.4, m.3, le-ltb k 0 (omega arith)) refl
same-abbrevs ks s outer abbrevs (b ∷ bs) k (before, next, others, is, a, f, o, m) = has-abbrev ks s before abbrevs b.abbrevs k a f

block_info_for-append : (number : ℕ) (ks more : List BlockInfoDefinition) → block_info_for number (ks ++ more) ≡ block_info_for number ks ++ block_info_for number more
block_info_for-append number [] more = refl
block_info_for-append number (k ∷ ks) more = by_block (k.block == number) refl (block_info_for-append number ks more)
  where
    by_block : (same : Bool) → (k.block == number) ≡ same → block_info_for number (ks ++ more) ≡ block_info_for number ks ++ block_info_for number more
        → block_info_for number ((k ∷ ks) ++ more) ≡ block_info_for number (k ∷ ks) ++ block_info_for number more
    by_block true t e = rw (t, e) refl
    by_block false t e = rw (t, e) refl

-- what BLOCKINFO defines later changes no block that is open
abbrevs-stay : (ks more : List BlockInfoDefinition) (s : Scope) (before abbrevs all : List (List AbbrevOp)) → HasAbbrevs ks s before abbrevs all → HasAbbrevs (ks ++ more) s before abbrevs all
abbrevs-stay ks more s before abbrevs all h =
    let split = block_info_for-append s.block ks more in
    record {
      own = h.own;
      behind = h.behind;
      enough = omega (arith, h.enough, ap length split, length-append (block_info_for s.block ks) (block_info_for s.block more));
      is = h.is ∙ ap (λ l. l ++ h.own) (sym (ap (take s.block_info) split ∙ take-append-le s.block_info (block_info_for s.block ks) (block_info_for s.block more) h.enough));
    }

matches-stay : (ks more : List BlockInfoDefinition) (s : Scope) (outer : List Scope) (abbrevs : List (List AbbrevOp)) (bs : List Block) → Matches ks s outer abbrevs bs → Matches (ks ++ more) s outer abbrevs bs
matches-stay ks more s outer abbrevs [] m = m
matches-stay ks more s outer abbrevs (b ∷ bs) (before, next, others, is, a, f, o, m) = (
  before,
  next,
  others,
  is,
  abbrevs-stay ks more s before abbrevs b.abbrevs a,
  f,
  o,
  matches-stay ks more next others before bs m,
)

pub known-same : (number : ℕ) (ks : List BlockInfoDefinition) → block_info_for number ks ≡ defined_for_block number (map pair_of ks)
known-same number [] = refl
known-same number (k ∷ ks) = ap (λ l. if k.block == number then k.definition ∷ l else l) (known-same number ks)

-- the list of an item or none
abbrev pub as_list : ℕ → Option Seen → List (ℕ × Seen)
as_list at None = []
as_list at (Some s) = (at, s) ∷ []

last-scope : (others : List Scope) (next d : Scope) → slice_index_or (others ++ next ∷ []) (length (others ++ next ∷ []) - 1) d ≡ next
last-scope [] next d = refl
last-scope (s ∷ others) next d = ap (λ k. slice_index_or (s ∷ (others ++ next ∷ [])) k d) (let e : suc (length (others ++ next ∷ [])) - 1 ≡ suc (length (others ++ next ∷ []) - 1) = omega (arith, length-append others (next ∷ [])) in e) ∙ last-scope others next d

front-scopes : (others : List Scope) (next : Scope) → take (length (others ++ next ∷ []) - 1) (others ++ next ∷ []) ≡ others
front-scopes others next = ap (λ k. take k (others ++ next ∷ [])) (let e : length (others ++ next ∷ []) - 1 ≡ length others = omega (arith, length-append others (next ∷ [])) in e) ∙ take-append_seam others (next ∷ [])

-- the open blocks behind an end
left-matches : (c : Context) (b : Block) (bs : List Block) → Matches c.block_info c.scope c.outer c.abbrevs (b ∷ bs) → Matches c.block_info (left_block c).scope (left_block c).outer (left_block c).abbrevs bs
left-matches c b bs (before, next, others, is, a, f, o, m) =
    let scope : slice_index_or c.outer (length c.outer - 1) c.scope ≡ next = rw o (last-scope others next c.scope) in
    let outer : take (length c.outer - 1) c.outer ≡ others = rw o (front-scopes others next) in
    let abbrevs : take c.scope.first c.abbrevs ≡ before = rw (a.behind, f) (take-append_seam before a.own) in
    rw (scope, outer, abbrevs) m

entered-same : (at begins : ℕ) (number width words : ℕ) (c : Context) (w : Blocks) → Same c w → Same (entered_block at (opened_is number width words begins) c) (after_entry w begins (EnterBlock number width words))
entered-same at begins number width words c w s = record {
  matches = (
    c.abbrevs,
    c.scope,
    c.outer,
    record { number = refl; width = refl; begins = refl; words = refl },
    record {
      own = [];
      behind = sym (append-nil c.abbrevs);
      enough = omega arith;
      is = ap (defined_for_block number) s.defined ∙ sym (known-same number c.block_info) ∙ sym (append-nil (take (length (block_info_for number c.block_info)) (block_info_for number c.block_info)) ∙ take_all (length (block_info_for number c.block_info)) (block_info_for number c.block_info) (omega arith));
    },
    refl,
    refl,
    s.matches,
  );
  defined = s.defined;
  named = refl;
}

left-same : (c : Context) (b : Block) (bs : List Block) (w : Blocks) → Matches c.block_info c.scope c.outer c.abbrevs (b ∷ bs) → Same c w → Same (left_block c) (record w { open_blocks = bs })
left-same c b bs w m s = record { matches = left-matches c b bs m; defined = s.defined; named = s.named }

with-matches : (ks : List BlockInfoDefinition) (s : Scope) (outer : List Scope) (abbrevs : List (List AbbrevOp)) (ops : List AbbrevOp) (b : Block) (bs : List Block) → Matches ks s outer abbrevs (b ∷ bs)
    → Matches ks s outer (abbrevs ++ ops ∷ []) (with_abbrev ops (b ∷ bs))
with-matches ks s outer abbrevs ops b bs (before, next, others, is, a, f, o, m) = (
  before,
  next,
  others,
  record { number = is.number; width = is.width; begins = is.begins; words = is.words },
  record {
    own = a.own ++ ops ∷ [];
    behind = ap (λ l. l ++ ops ∷ []) a.behind ∙ append_assoc before a.own (ops ∷ []);
    enough = a.enough;
    is = ap (λ l. l ++ ops ∷ []) a.is ∙ append_assoc (take s.block_info (block_info_for s.block ks)) a.own (ops ∷ []);
  },
  f,
  o,
  m,
)

map-push : (ks : List BlockInfoDefinition) (k : BlockInfoDefinition) → map pair_of (ks ++ k ∷ []) ≡ map pair_of ks ++ pair_of k ∷ []
map-push [] k = refl
map-push (j ∷ ks) k = ap (λ l. pair_of j ∷ l) (map-push ks k)

-- what a record is: an item, or in BLOCKINFO the name of a block
pub record Judges (at code : ℕ) (ops : List ℕ) (blob : Option (List ℕ)) (c : Context) (w : Blocks) : Type 0 where
  pub item : Option Seen
  pub after : Context
  pub read : (p : Input) → judged at code ops blob c p ≡ Ok ((item, after), p)
  pub same : Same after (after_record w code ops)
  pub shows : as_list at item ≡ (if in_info w.open_blocks then [] else (at, Record code ops blob) ∷ [])

unnamed : (code : ℕ) (ops : List ℕ) (named : Option ℕ) → (code == 1) ≡ false → named_now code ops named ≡ named
unnamed code [] named other = refl
unnamed code (n ∷ ns) named other = rw other refl

judged-item : (at code : ℕ) (ops : List ℕ) (blob : Option (List ℕ)) (c : Context) (w : Blocks) → Same c w → (c.scope.block == 0) ≡ false → in_info w.open_blocks ≡ false → Judges at code ops blob c w
judged-item at code ops blob c w s block info = record {
  item = Some (Record code ops blob);
  after = c;
  read = λ p. rw block refl;
  same = rw info s;
  shows = rw info refl;
}

judged-other : (at code : ℕ) (ops : List ℕ) (blob : Option (List ℕ)) (c : Context) (w : Blocks) → Same c w → (c.scope.block == 0) ≡ true → in_info w.open_blocks ≡ true → (code == 1) ≡ false → Judges at code ops blob c w
judged-other at code ops blob c w s block info other = record {
  item = None;
  after = c;
  read = λ p. rw (block, other) refl;
  same = rw info (record { matches = s.matches; defined = s.defined; named = unnamed code ops w.named other ∙ s.named });
  shows = rw info refl;
}

judged-name : (at code number : ℕ) (more : List ℕ) (blob : Option (List ℕ)) (c : Context) (w : Blocks) → Same c w → (c.scope.block == 0) ≡ true → in_info w.open_blocks ≡ true → (code == 1) ≡ true → number < 2 ^ 32
    → Judges at code (number ∷ more) blob c w
judged-name at code number more blob c w s block info one small = record {
  item = None;
  after = record c { named = Some number };
  read = λ p. rw (block, one, lt-ltb number (2 ^ 32) small) refl;
  same = rw (info, one) (record { matches = s.matches; defined = s.defined; named = refl });
  shows = rw info refl;
}

judged-naming : (at code : ℕ) (ops : List ℕ) (blob : Option (List ℕ)) (c : Context) (w : Blocks) → Same c w → (c.scope.block == 0) ≡ true → in_info w.open_blocks ≡ true → (code == 1) ≡ true
    → (number : ℕ) × (more : List ℕ) × (ops ≡ number ∷ more) × (number < 2 ^ 32) → Judges at code ops blob c w
judged-naming at code ops blob c w s block info one (number, more, is, small) = subst (λ l. Judges at code l blob c w) (sym is) (judged-name at code number more blob c w s block info one small)

pub judged-again : (at code : ℕ) (ops : List ℕ) (blob : Option (List ℕ)) (c : Context) (w : Blocks) → Same c w → (in_info w.open_blocks ≡ true → Names code ops) → Judges at code ops blob c w
judged-again at code ops blob c w s names = by_info (in_info w.open_blocks) refl (same-info c.block_info c.scope c.outer c.abbrevs w.open_blocks s.matches)
  where
    by_code : in_info w.open_blocks ≡ true → (c.scope.block == 0) ≡ true → (one : Bool) → (code == 1) ≡ one → Judges at code ops blob c w
    by_code t block false u = judged-other at code ops blob c w s block t u
    by_code t block true u = judged-naming at code ops blob c w s block t u (names t (eqb-true code 1 u))

    by_info : (is : Bool) → in_info w.open_blocks ≡ is → (c.scope.block == 0) ≡ in_info w.open_blocks → Judges at code ops blob c w
    by_info false t block = judged-item at code ops blob c w s (block ∙ t) t
    by_info true t block = by_code t (block ∙ t) (code == 1) refl

-- the other way round: a record that is judged so is one that may stand there
abbrev pub JudgedSo : ℕ → ℕ → List ℕ → Option (List ℕ) → Blocks → Option Seen × Context → Input → List Bool → Type 0
JudgedSo at code ops blob w x q front = (front ≡ []) × (in_info w.open_blocks ≡ true → Names code ops) × Same x.1 (after_record w code ops)
    × (as_list at x.0 ≡ (if in_info w.open_blocks then [] else (at, Record code ops blob) ∷ []))

judged-by : (at code : ℕ) (ops : List ℕ) (blob : Option (List ℕ)) (c : Context) (w : Blocks) (p : Input) → Judges at code ops blob c w → (in_info w.open_blocks ≡ true → Names code ops)
    → Spelled (JudgedSo at code ops blob w) p (judged at code ops blob c p)
judged-by at code ops blob c w p j names = rw (j.read p) ([], (refl, names, j.same, j.shows), refl, omega arith)

pub judged-spelled : (at code : ℕ) (ops : List ℕ) (blob : Option (List ℕ)) (c : Context) (w : Blocks) (p : Input) → Same c w → Spelled (JudgedSo at code ops blob w) p (judged at code ops blob c p)
judged-spelled at code ops blob c w p s = by_info (in_info w.open_blocks) refl (same-info c.block_info c.scope c.outer c.abbrevs w.open_blocks s.matches)
  where
    by : (in_info w.open_blocks ≡ true → Names code ops) → Spelled (JudgedSo at code ops blob w) p (judged at code ops blob c p)
    by names = judged-by at code ops blob c w p (judged-again at code ops blob c w s names) names

    by_size : (ops : List ℕ) (n : ℕ) (ns : List ℕ) → (c.scope.block == 0) ≡ true → (code == 1) ≡ true → ops ≡ n ∷ ns → (small : Bool) → nat_lt n (2 ^ 32) ≡ small
        → ((in_info w.open_blocks ≡ true → Names code ops) → Spelled (JudgedSo at code ops blob w) p (judged at code ops blob c p)) → Spelled (JudgedSo at code ops blob w) p (judged at code ops blob c p)
    by_size ops n ns block one is true t good = good (λ info code. (n, ns, is, ltb-true n (2 ^ 32) t))
    by_size ops n ns block one is false t good = rw (is, block, one, t) tt

    by_ops : (ops : List ℕ) → (c.scope.block == 0) ≡ true → (code == 1) ≡ true
        → ((in_info w.open_blocks ≡ true → Names code ops) → Spelled (JudgedSo at code ops blob w) p (judged at code ops blob c p)) → Spelled (JudgedSo at code ops blob w) p (judged at code ops blob c p)
    by_ops [] block one good = rw (block, one) tt
    by_ops (n ∷ ns) block one good = by_size (n ∷ ns) n ns block one refl (nat_lt n (2 ^ 32)) refl good

    by_code : (c.scope.block == 0) ≡ true → (one : Bool) → (code == 1) ≡ one → Spelled (JudgedSo at code ops blob w) p (judged at code ops blob c p)
    by_code block false u = by (λ info is. absurd (eqb-false code 1 u is))
    by_code block true u = by_ops ops block u by

    by_info : (is : Bool) → in_info w.open_blocks ≡ is → (c.scope.block == 0) ≡ in_info w.open_blocks → Spelled (JudgedSo at code ops blob w) p (judged at code ops blob c p)
    by_info false t block = by (λ info. absurd (let e : false ≡ true = sym t ∙ info in cc))
    by_info true t block = by_code (block ∙ t) (code == 1) refl

-- An entry that is written is read.
pub record IsRead (c : Context) (w : Blocks) (e : Entry) (at : ℕ) (front rest : List Bool) : Type 0 where
  pub item : Option Seen
  pub after : Context
  pub read : entry_at c (at_bits at (front ++ rest)) ≡ Ok ((item, after), at_bits (at + length front) rest)
  pub same : Same after (after_entry w (at + length front) e)
  pub shows : as_list at item ≡ shown w at e

entry-behind : (c : Context) (at id : ℕ) (C : ℕ → List Bool → Type 0) (x : ℕ → Option Seen × Context) (P : BitPattern) → AgainIf C (entry_by at id c) x P
    → (front rest : List Bool) → (fixed_form c.scope.width id ⨾ P) at front → C (at + length front) rest → entry_at c (at_bits at (front ++ rest)) ≡ Ok (x (at + length front), at_bits (at + length front) rest)
entry-behind c at id C x P more front rest (one, other, p, q, is) holds =
    let place : at + length one + length other ≡ at + length front = omega (arith, ap length is, length-append one other) in
    let whole : front ++ rest ≡ one ++ (other ++ rest) = ap (λ s. s ++ rest) is ∙ append_assoc one other rest in
    let f : ℕ × Input → Result ((Option Seen × Context) × Input) BitFault = λ id. entry_by at id.0 c id.1 in
    let here : fixed_at c.scope.width (at_bits at (front ++ rest)) ≡ Ok (id, at_bits (at + length one) (other ++ rest))
    = ap (λ s. fixed_at c.scope.width (at_bits at s)) whole ∙ fixed_form-again c.scope.width id at one (other ++ rest) p tt in
    let behind : entry_by at id c (at_bits (at + length one) (other ++ rest)) ≡ Ok (x (at + length one + length other), at_bits (at + length one + length other) rest)
    = more (at + length one) other rest q (subst (λ n. C n rest) (sym place) holds) in
    let result : ℕ → Result ((Option Seen × Context) × Input) BitFault = λ n. Ok (x n, at_bits n rest) in
    ap (λ s. s >>= f) here ∙ behind ∙ ap result place

inside : (c : Context) (w : Blocks) → Same c w → 0 < length w.open_blocks → (length c.outer == 0) ≡ false
inside c w s some = ne_eqb (length c.outer) 0 (λ e. absurd (omega (arith, e, some, same-depth c.block_info c.scope c.outer c.abbrevs w.open_blocks s.matches)))

widened : (c : Context) (w : Blocks) (id at : ℕ) (P : BitPattern) (front : List Bool) → Same c w → (fixed_form (width_in w.open_blocks) id ⨾ P) at front → (fixed_form c.scope.width id ⨾ P) at front
widened c w id at P front s h = rw (same-width c.block_info c.scope c.outer c.abbrevs w.open_blocks s.matches) h

-- the end of a block
abbrev pub EndsWell : Context → ℕ → List Bool → Type 0
EndsWell c n rest = (n - c.scope.begins) / 32 % 2 ^ 32 ≡ c.scope.said

end-again : (c : Context) → AgainIf (EndsWell c) (end_at c) (λ n. (shown_in c LeaveBlock, left_block c)) pad_form
end-again c at front rest is well =
    ap (λ s. s >>= (λ q. if ((q.1).at - c.scope.begins) / 32 % 2 ^ 32 == c.scope.said then Ok ((shown_in c LeaveBlock, left_block c), q.1) else Err (BadBlockLength c.scope.entered c.scope.said)))
    (pad_form-again at front rest is tt) ∙ rw (eq-eqb _ _ well) refl

leaves-shown : (at : ℕ) (c : Context) (w : Blocks) → (c.scope.block == 0) ≡ in_info w.open_blocks → as_list at (shown_in c LeaveBlock) ≡ (if in_info w.open_blocks then [] else (at, LeaveBlock) ∷ [])
leaves-shown at c w info = by_info (in_info w.open_blocks) refl
  where
    by_info : (is : Bool) → in_info w.open_blocks ≡ is → as_list at (shown_in c LeaveBlock) ≡ (if in_info w.open_blocks then [] else (at, LeaveBlock) ∷ [])
    by_info true t = rw (info, t) refl
    by_info false t = rw (info, t) refl

ends-same : (c : Context) (w : Blocks) (b : Block) (bs : List Block) → Same c w → w.open_blocks ≡ b ∷ bs → Same (left_block c) (record w { open_blocks = outer_blocks w.open_blocks })
ends-same c w b bs s is = rw is (left-same c b bs w (rw is at s.matches) s)

said-same : (c : Context) (w : Blocks) (b : Block) (bs : List Block) → Same c w → w.open_blocks ≡ b ∷ bs → IsBlock c.scope b
said-same c w b bs s is = let m = rw is at s.matches in m.3

end-read : (c : Context) (w : Blocks) (at : ℕ) (front rest : List Bool) → Same c w → entry_form w EndBlock at front → Allowed w (at + length front) (length rest) EndBlock → IsRead c w EndBlock at front rest
end-read c w at front rest s form (b, bs, is, words) =
    let block = said-same c w b bs s is in
    record {
      item = shown_in c LeaveBlock;
      after = left_block c;
      read = entry-behind c at 0 (EndsWell c) (λ n. (shown_in c LeaveBlock, left_block c)) pad_form
          (again-unless-behind (EndsWell c) (length c.outer == 0) (λ q. Err (OutsideBlock at)) (end_at c) (λ n. (shown_in c LeaveBlock, left_block c)) pad_form
          (inside c w s (rw is (omega arith))) (end-again c))
          front rest (widened c w 0 at pad_form front s form) (rw (block.begins, block.words) words);
      same = ends-same c w b bs s is;
      shows = leaves-shown at c w (same-info c.block_info c.scope c.outer c.abbrevs w.open_blocks s.matches);
    }

-- the beginning of a block
abbrev pub enters_item : ℕ → Option Seen
enters_item number = if number == 0 then None else Some (Enters number)

enter-again : (at number width words : ℕ) (c : Context) → (c.scope.block == 0) ≡ false → nat_le 32 (length c.outer) ≡ false → number < 2 ^ 32 → 2 ≤ width → width ≤ 32
    → AgainIf (HasWords words) (enter_at at c) (λ n. (enters_item number, entered_block at (opened_is number width words n) c)) (opened_form number width words)
enter-again at number width words c block deep small low high =
    again-unless-behind (HasWords words) (c.scope.block == 0) (λ q. Err (BadOperands at)) (λ p. if nat_le 32 (length c.outer) then Err (TooDeep at) else (opened_at at p >>= more)) x (opened_form number width words) block
    (again-unless-behind (HasWords words) (nat_le 32 (length c.outer)) (λ q. Err (TooDeep at)) (λ p. opened_at at p >>= more) x (opened_form number width words) deep
    (λ n front rest form room. ap (λ s. s >>= more) (opened-again at number width words small low high n front rest form room)))
  where
    x : ℕ → Option Seen × Context
    x n = (enters_item number, entered_block at (opened_is number width words n) c)

    more : Opened × Input → Result ((Option Seen × Context) × Input) BitFault
    more o = Ok (((if (o.0).block == 0 then None else Some (Enters (o.0).block)), entered_block at o.0 c), o.1)

enters-shown : (at number : ℕ) → as_list at (enters_item number) ≡ (if number == 0 then [] else (at, Enters number) ∷ [])
enters-shown at number = by_number (number == 0) refl
  where
    by_number : (is : Bool) → (number == 0) ≡ is → as_list at (enters_item number) ≡ (if number == 0 then [] else (at, Enters number) ∷ [])
    by_number true t = rw t refl
    by_number false t = rw t refl

not_deep : (n : ℕ) → n < 32 → nat_le 32 n ≡ false
not_deep n low = by_test (nat_le 32 n) refl
  where
    by_test : (deep : Bool) → nat_le 32 n ≡ deep → nat_le 32 n ≡ false
    by_test true t = absurd (omega (arith, leb-true 32 n t, low))
    by_test false t = t

enter-read : (c : Context) (w : Blocks) (number width words at : ℕ) (front rest : List Bool) → Same c w → entry_form w (EnterBlock number width words) at front
    → Allowed w (at + length front) (length rest) (EnterBlock number width words) → IsRead c w (EnterBlock number width words) at front rest
enter-read c w number width words at front rest s form (info, depth, small, low, high, room) =
    let shallow : length c.outer < 32 = omega (arith, depth, same-depth c.block_info c.scope c.outer c.abbrevs w.open_blocks s.matches) in
    record {
      item = enters_item number;
      after = entered_block at (opened_is number width words (at + length front)) c;
      read = entry-behind c at 1 (HasWords words) (λ n. (enters_item number, entered_block at (opened_is number width words n) c)) (opened_form number width words)
          (enter-again at number width words c (same-info c.block_info c.scope c.outer c.abbrevs w.open_blocks s.matches ∙ info) (not_deep (length c.outer) shallow) small low high)
          front rest (widened c w 1 at (opened_form number width words) front s form) room;
      same = entered-same at (at + length front) number width words c w s;
      shows = enters-shown at number;
    }

-- a definition
define-plain : (at : ℕ) (ops : List AbbrevOp) (c : Context) → is_definition ops ≡ true → (c.scope.block == 0) ≡ false
    → Again (define_at at c) (None, record c { abbrevs = c.abbrevs ++ ops ∷ [] }) (definition_form ops)
define-plain at ops c may block =
    again-unless-behind Anywhere (c.scope.block == 0) (λ p. defined_for c at c.named p) (λ p. definition_at at p >>= (λ d. Ok ((None, record c { abbrevs = c.abbrevs ++ d.0 ∷ [] }), d.1)))
    (λ n. (None, record c { abbrevs = c.abbrevs ++ ops ∷ [] })) (definition_form ops) block
    (λ n front rest form t. ap (λ s. s >>= (λ d. Ok ((None, record c { abbrevs = c.abbrevs ++ d.0 ∷ [] }), d.1))) (definition-again at ops may n front rest form tt))

define-known : (at number : ℕ) (ops : List AbbrevOp) (c : Context) → is_definition ops ≡ true → (c.scope.block == 0) ≡ true → c.named ≡ Some number
    → Again (define_at at c) (None, record c { block_info = c.block_info ++ record { block = number; definition = ops } ∷ [] }) (definition_form ops)
define-known at number ops c may block named =
    again-if-behind Anywhere (c.scope.block == 0) (λ p. defined_for c at c.named p) (λ p. definition_at at p >>= (λ d. Ok ((None, record c { abbrevs = c.abbrevs ++ d.0 ∷ [] }), d.1)))
    (λ n. (None, record c { block_info = c.block_info ++ record { block = number; definition = ops } ∷ [] })) (definition_form ops) block
    (λ n front rest form t. ap (λ named. defined_for c at named (at_bits n (front ++ rest))) named ∙ ap (λ s. s >>= (λ d. Ok ((None, record c { block_info = c.block_info ++ record { block = number; definition = d.0 } ∷ [] }), d.1))) (definition-again at ops may n front rest form tt))

some_block : (bs : List Block) → 0 < length bs → (b : Block) × (more : List Block) × (bs ≡ b ∷ more)
some_block [] h = absurd (omega (arith, h))
some_block (b ∷ bs) h = (b, bs, refl)

defined-same : (c : Context) (w : Blocks) (ops : List AbbrevOp) → Same c w → 0 < length w.open_blocks → in_info w.open_blocks ≡ false
    → (n : ℕ) → Same (record c { abbrevs = c.abbrevs ++ ops ∷ [] }) (after_entry w n (Define ops))
defined-same c w ops s some info n =
    let (b, bs, is) = some_block w.open_blocks some in
    let m = with-matches c.block_info c.scope c.outer c.abbrevs ops b bs (rw is at s.matches) in
    let m' : Matches c.block_info c.scope c.outer (c.abbrevs ++ ops ∷ []) (with_abbrev ops w.open_blocks) = rw is m in
    rw info (record { matches = m'; defined = s.defined; named = s.named })

known-defined : (c : Context) (w : Blocks) (number : ℕ) (ops : List AbbrevOp) → Same c w → in_info w.open_blocks ≡ true → w.named ≡ Some number
    → (n : ℕ) → Same (record c { block_info = c.block_info ++ record { block = number; definition = ops } ∷ [] }) (after_entry w n (Define ops))
known-defined c w number ops s info named n =
    let d : with_definition ops w.named w.defined ≡ map pair_of (c.block_info ++ record { block = number; definition = ops } ∷ [])
    = rw named (ap (λ l. l ++ (number, ops) ∷ []) s.defined ∙ sym (map-push c.block_info (record { block = number; definition = ops }))) in
    let m = matches-stay c.block_info (record { block = number; definition = ops } ∷ []) c.scope c.outer c.abbrevs w.open_blocks s.matches in
    rw info (record { matches = m; defined = d; named = s.named })

define_by : (c : Context) (at : ℕ) (x : Option Seen × Context) (ops : List AbbrevOp) → (length c.outer == 0) ≡ false → Again (define_at at c) x (definition_form ops) → Again (entry_by at 2 c) x (definition_form ops)
define_by c at x ops some h = again-unless-behind Anywhere (length c.outer == 0) (λ q. Err (OutsideBlock at)) (define_at at c) (λ n. x) (definition_form ops) some h

define-read : (c : Context) (w : Blocks) (ops : List AbbrevOp) (at : ℕ) (front rest : List Bool) → Same c w → entry_form w (Define ops) at front
    → Allowed w (at + length front) (length rest) (Define ops) → IsRead c w (Define ops) at front rest
define-read c w ops at front rest s form (some, may, names) = by_info (in_info w.open_blocks) refl (same-info c.block_info c.scope c.outer c.abbrevs w.open_blocks s.matches)
  where
    by_info : (is : Bool) → in_info w.open_blocks ≡ is → (c.scope.block == 0) ≡ in_info w.open_blocks → IsRead c w (Define ops) at front rest
    by_info false t block = record {
      item = None;
      after = record c { abbrevs = c.abbrevs ++ ops ∷ [] };
      read = entry-behind c at 2 Anywhere (λ n. (None, record c { abbrevs = c.abbrevs ++ ops ∷ [] })) (definition_form ops)
          (define_by c at (None, record c { abbrevs = c.abbrevs ++ ops ∷ [] }) ops (inside c w s some) (define-plain at ops c may (block ∙ t)))
          front rest (widened c w 2 at (definition_form ops) front s form) tt;
      same = defined-same c w ops s some t (at + length front);
      shows = refl;
    }
    by_info true t block = let (number, named) = names t in record {
      item = None;
      after = record c { block_info = c.block_info ++ record { block = number; definition = ops } ∷ [] };
      read = entry-behind c at 2 Anywhere (λ n. (None, record c { block_info = c.block_info ++ record { block = number; definition = ops } ∷ [] })) (definition_form ops)
          (define_by c at (None, record c { block_info = c.block_info ++ record { block = number; definition = ops } ∷ [] }) ops (inside c w s some) (define-known at number ops c may (block ∙ t) (sym s.named ∙ named)))
          front rest (widened c w 2 at (definition_form ops) front s form) tt;
      same = known-defined c w number ops s t named (at + length front);
      shows = refl;
    }

-- a record without an abbreviation
abbrev pub plain_form : ℕ → List ℕ → BitPattern
plain_form code ops = vbr_form 6 code ⨾ vbr_form 6 (length ops) ⨾ each (vbr_form 6) ops

plain-again : (at code : ℕ) (ops : List ℕ) (c : Context) (w : Blocks) (j : Judges at code ops None c w) → Again (plain_at at c) (j.item, j.after) (plain_form code ops)
plain-again at code ops c w j =
    again-then Anywhere (vbr_at 6) (λ p code. vbr_at 6 code.1 >>= (λ count. numbers_at count.0 (Vbr 6) count.1 >>= (λ ops. judged at code.0 ops.0 None c ops.1)))
    code (λ n. (j.item, j.after)) (vbr_form 6 code) (vbr_form 6 (length ops) ⨾ each (vbr_form 6) ops) (any_vbr-again 6 code)
    (λ p. again-then Anywhere (vbr_at 6) (λ p count. numbers_at count.0 (Vbr 6) count.1 >>= (λ ops. judged at code ops.0 None c ops.1)) (length ops) (λ n. (j.item, j.after)) (vbr_form 6 (length ops)) (each (vbr_form 6) ops)
    (any_vbr-again 6 (length ops))
    (λ p n front rest form t. ap (λ s. s >>= (λ ops. judged at code ops.0 None c ops.1)) (numbers-again (Vbr 6) ops n front rest form tt) ∙ j.read (at_bits (n + length front) rest)))

plain-read : (c : Context) (w : Blocks) (code : ℕ) (ops : List ℕ) (at : ℕ) (front rest : List Bool) → Same c w → entry_form w (PlainRecord code ops) at front
    → Allowed w (at + length front) (length rest) (PlainRecord code ops) → IsRead c w (PlainRecord code ops) at front rest
plain-read c w code ops at front rest s form (some, names) =
    let j = judged-again at code ops None c w s names in
    record {
      item = j.item;
      after = j.after;
      read = entry-behind c at 3 Anywhere (λ n. (j.item, j.after)) (plain_form code ops)
          (again-unless-behind Anywhere (length c.outer == 0) (λ q. Err (OutsideBlock at)) (plain_at at c) (λ n. (j.item, j.after)) (plain_form code ops) (inside c w s some) (plain-again at code ops c w j))
          front rest (widened c w 3 at (plain_form code ops) front s form) tt;
      same = j.same;
      shows = j.shows;
    }

-- a record by an abbreviation
by_abbrev-again : (at id code : ℕ) (ops : List ℕ) (blob : Option (List ℕ)) (abbrev_ops : List AbbrevOp) (c : Context) (w : Blocks) (j : Judges at code ops blob c w)
    → Again (by_abbrev at id (Some abbrev_ops) c) (j.item, j.after) (values_form abbrev_ops (code ∷ ops) blob)
by_abbrev-again at id code ops blob abbrev_ops c w j n front rest form t =
    ap (λ s. s >>= (λ v. judged_values at (v.0).numbers (v.0).blob c v.1)) (values-again abbrev_ops (code ∷ ops) blob n front rest form tt) ∙ j.read (at_bits (n + length front) rest)

id_is_not : (id k : ℕ) → 4 ≤ id → k < 4 → (id == k) ≡ false
id_is_not id k high low = ne_eqb id k (λ e. absurd (omega (arith, high, low, e)))

abbreviated-again : (at id : ℕ) (c : Context) (abbrev_ops : List AbbrevOp) (x : Option Seen × Context) (P : BitPattern) → 4 ≤ id → (length c.outer == 0) ≡ false → abbrev_in c.scope c.block_info c.abbrevs (id - 4) ≡ Some abbrev_ops
    → Again (by_abbrev at id (Some abbrev_ops) c) x P → Again (entry_by at id c) x P
abbreviated-again at id c abbrev_ops x P high some found more n front rest form t =
    rw (id_is_not id 1 high (lit< tt), some, id_is_not id 0 high (lit< tt), id_is_not id 2 high (lit< tt), id_is_not id 3 high (lit< tt), found) (more n front rest form t)

abbrev-read : (c : Context) (w : Blocks) (id code : ℕ) (ops : List ℕ) (blob : Option (List ℕ)) (at : ℕ) (front rest : List Bool) → Same c w → entry_form w (AbbrevRecord id code ops blob) at front
    → Allowed w (at + length front) (length rest) (AbbrevRecord id code ops blob) → IsRead c w (AbbrevRecord id code ops blob) at front rest
abbrev-read c w id code ops blob at front rest s (abbrev_ops, (high, found), form) (some, names) =
    let j = judged-again at code ops blob c w s names in
    let block_info = same-abbrevs c.block_info c.scope c.outer c.abbrevs w.open_blocks (id - 4) s.matches ∙ found in
    record {
      item = j.item;
      after = j.after;
      read = entry-behind c at id Anywhere (λ n. (j.item, j.after)) (values_form abbrev_ops (code ∷ ops) blob)
          (abbreviated-again at id c abbrev_ops (j.item, j.after) (values_form abbrev_ops (code ∷ ops) blob) high (inside c w s some) block_info (by_abbrev-again at id code ops blob abbrev_ops c w j))
          front rest (widened c w id at (values_form abbrev_ops (code ∷ ops) blob) front s form) tt;
      same = j.same;
      shows = j.shows;
    }

pub entry-again : (c : Context) (w : Blocks) (e : Entry) (at : ℕ) (front rest : List Bool) → Same c w → entry_form w e at front → Allowed w (at + length front) (length rest) e → IsRead c w e at front rest
entry-again c w EndBlock at front rest s form may = end-read c w at front rest s form may
entry-again c w (EnterBlock number width words) at front rest s form may = enter-read c w number width words at front rest s form may
entry-again c w (Define ops) at front rest s form may = define-read c w ops at front rest s form may
entry-again c w (PlainRecord code ops) at front rest s form may = plain-read c w code ops at front rest s form may
entry-again c w (AbbrevRecord id code ops blob) at front rest s form may = abbrev-read c w id code ops blob at front rest s form may

-- An entry that is read is written so: which one it is, behind its id, which is `one` at `at`.
abbrev pub EntryTo : Blocks → ℕ → List Bool → Option Seen × Context → Input → List Bool → Type 0
EntryTo w at one x q other = (e : Entry) × entry_form w e at (one ++ other) × Allowed w q.at (length q.bits) e × Same x.1 (after_entry w q.at e) × (as_list at x.0 ≡ shown w at e)

abbrev pub WithId : Blocks → ℕ → ℕ → List Bool → Type 0
WithId w id at one = fixed_form (width_in w.open_blocks) id at one

-- what is so of what was read, and of where
pub spelled-with : {A : Type 0} (P : A → Input → List Bool → Type 0) (Q : A → Input → Type 0) (p : Input) (r : Result (A × Input) BitFault) → Spelled P p r → Onward Q p r → Spelled (λ x q front. P x q front × Q x q) p r
spelled-with P Q p (Ok x) (front, is, same, at) o = (front, (is, o.1), same, at)
spelled-with P Q p (Err e) h o = tt

some_open : (c : Context) (w : Blocks) → Same c w → (length c.outer == 0) ≡ false → 0 < length w.open_blocks
some_open c w s some = positive (length w.open_blocks) (λ e. eqb-false (length c.outer) 0 some (same-depth c.block_info c.scope c.outer c.abbrevs w.open_blocks s.matches ∙ e))
  where
    positive : (n : ℕ) → (n ≡ 0 → ⊥) → 0 < n
    positive zero h = absurd (h refl)
    positive (suc n) h = omega arith

end-takes : (c : Context) (w : Blocks) (at : ℕ) (one : List Bool) (p : Input) → Same c w → (length c.outer == 0) ≡ false → WithId w 0 at one → p.at ≡ at + length one → Spelled (EntryTo w at one) p (end_at c p)
end-takes c w at one p s some id place =
    let (b, bs, is) = some_block w.open_blocks (some_open c w s some) in
    let block = said-same c w b bs s is in
    let R = EntryTo w at one in
    spelled-then (λ x q front. pad_form p.at front) R p _ (λ q. if ((q.1).at - c.scope.begins) / 32 % 2 ^ 32 == c.scope.said then Ok ((shown_in c LeaveBlock, left_block c), q.1) else Err (BadBlockLength c.scope.entered c.scope.said)) (pad-spelled p) (λ q two pad at2.
    spelled-either (λ x r other. R x r (two ++ other)) q.1 (((q.1).at - c.scope.begins) / 32 % 2 ^ 32 == c.scope.said) _ _
    (λ t. spelled-nothing (λ x r other. R x r (two ++ other)) (shown_in c LeaveBlock, left_block c) q.1 (rw (append-nil two) (
      EndBlock,
      (one, two, id, moved pad_form _ _ two place pad, refl),
      (b, bs, is, rw (sym block.begins, sym block.words) (eqb-true _ _ t)),
      ends-same c w b bs s is,
      leaves-shown at c w (same-info c.block_info c.scope c.outer c.abbrevs w.open_blocks s.matches),
    )))
    (λ t. tt))

enter-takes : (c : Context) (w : Blocks) (at : ℕ) (one : List Bool) (p : Input) → Same c w → WithId w 1 at one → p.at ≡ at + length one → Spelled (EntryTo w at one) p (enter_at at c p)
enter-takes c w at one p s id place =
    let R = EntryTo w at one in
    let info = same-info c.block_info c.scope c.outer c.abbrevs w.open_blocks s.matches in
    spelled-either R p (c.scope.block == 0) _ _ (λ t. tt) (λ block. spelled-either R p (nat_le 32 (length c.outer)) _ _ (λ t. tt) (λ shallow.
    spelled-then (OpenedIs p) R p _ (λ o. Ok (((if (o.0).block == 0 then None else Some (Enters (o.0).block)), entered_block at o.0 c), o.1)) (opened-spelled at p) (λ o two is at2.
    spelled-nothing (λ x q other. R x q (two ++ other)) (enters_item (o.0).block, entered_block at o.0 c) o.1 (rw (append-nil two) (
      EnterBlock (o.0).block (o.0).width (o.0).said,
      (one, two, id, moved (opened_form (o.0).block (o.0).width (o.0).said) _ _ two place is.0, refl),
      (sym info ∙ block, omega (arith, leb-false 32 (length c.outer) shallow, same-depth c.block_info c.scope c.outer c.abbrevs w.open_blocks s.matches), is.1, is.2, is.3, is.4),
      subst (λ begins. Same (entered_block at (opened_is (o.0).block (o.0).width (o.0).said begins) c) (after_entry w (o.1).at (EnterBlock (o.0).block (o.0).width (o.0).said))) (sym is.5)
          (entered-same at (o.1).at (o.0).block (o.0).width (o.0).said c w s),
      enters-shown at (o.0).block,
    )))))

abbrev pub DefinitionIs : Input → List AbbrevOp → Input → List Bool → Type 0
DefinitionIs p ops q front = definition_form ops p.at front × IsDefinition p ops q

definition-takes : (entered : ℕ) (p : Input) → Spelled (DefinitionIs p) p (definition_at entered p)
definition-takes entered p = spelled-with (λ ops q front. definition_form ops p.at front) (IsDefinition p) p (definition_at entered p) (definition-spelled entered p) (definition-onward entered p)

define-takes : (c : Context) (w : Blocks) (at : ℕ) (one : List Bool) (p : Input) → Same c w → (length c.outer == 0) ≡ false → WithId w 2 at one → p.at ≡ at + length one → Spelled (EntryTo w at one) p (define_at at c p)
define-takes c w at one p s some id place = spelled-either (EntryTo w at one) p (c.scope.block == 0) _ _
    (λ block. by_named c.named refl (sym (same-info c.block_info c.scope c.outer c.abbrevs w.open_blocks s.matches) ∙ block))
    (λ block. plain (sym (same-info c.block_info c.scope c.outer c.abbrevs w.open_blocks s.matches) ∙ block))
  where
    plain : in_info w.open_blocks ≡ false → Spelled (EntryTo w at one) p (definition_at at p >>= (λ d. Ok ((None, record c { abbrevs = c.abbrevs ++ d.0 ∷ [] }), d.1)))
    plain info = spelled-then (DefinitionIs p) (EntryTo w at one) p _ (λ d. Ok ((None, record c { abbrevs = c.abbrevs ++ d.0 ∷ [] }), d.1)) (definition-takes at p) (λ d two is at2.
        spelled-nothing (λ x q other. EntryTo w at one x q (two ++ other)) (None, record c { abbrevs = c.abbrevs ++ d.0 ∷ [] }) d.1 (rw (append-nil two) (
          Define d.0,
          (one, two, id, moved (definition_form d.0) _ _ two place is.0, refl),
          (some_open c w s some, is.1.1, λ t. absurd (let e : false ≡ true = sym info ∙ t in cc)),
          defined-same c w d.0 s (some_open c w s some) info (d.1).at,
          refl,
        )))

    by_named : (named : Option ℕ) → c.named ≡ named → in_info w.open_blocks ≡ true → Spelled (EntryTo w at one) p (defined_for c at named p)
    by_named None is info = tt
    by_named (Some number) named info = spelled-then (DefinitionIs p) (EntryTo w at one) p _ (λ d. Ok ((None, record c { block_info = c.block_info ++ record { block = number; definition = d.0 } ∷ [] }), d.1)) (definition-takes at p) (λ d two is at2.
        spelled-nothing (λ x q other. EntryTo w at one x q (two ++ other)) (None, record c { block_info = c.block_info ++ record { block = number; definition = d.0 } ∷ [] }) d.1 (rw (append-nil two) (
          Define d.0,
          (one, two, id, moved (definition_form d.0) _ _ two place is.0, refl),
          (some_open c w s some, is.1.1, λ t. (number, s.named ∙ named)),
          known-defined c w number d.0 s info (s.named ∙ named) (d.1).at,
          refl,
        )))

plain-takes : (c : Context) (w : Blocks) (at : ℕ) (one : List Bool) (p : Input) → Same c w → (length c.outer == 0) ≡ false → WithId w 3 at one → p.at ≡ at + length one → Spelled (EntryTo w at one) p (plain_at at c p)
plain-takes c w at one p s some id place =
    let R = EntryTo w at one in
    spelled-then (λ n q front. vbr_form 6 n p.at front) R p _ (λ code. vbr_at 6 code.1 >>= (λ count. numbers_at count.0 (Vbr 6) count.1 >>= (λ ops. judged at code.0 ops.0 None c ops.1))) (any_vbr-spelled 6 p) (λ code two is2 at2.
    spelled-then (λ n q front. vbr_form 6 n (code.1).at front) (λ x q other. R x q (two ++ other)) code.1 _ (λ count. numbers_at count.0 (Vbr 6) count.1 >>= (λ ops. judged at code.0 ops.0 None c ops.1)) (any_vbr-spelled 6 code.1) (λ count three is3 at3.
    spelled-then (λ xs q front. (length xs ≡ count.0) × each (number_form (Vbr 6)) xs (count.1).at front) (λ x q other. R x q (two ++ (three ++ other))) count.1 _ (λ ops. judged at code.0 ops.0 None c ops.1) (numbers-spelled count.0 (Vbr 6) count.1 refl refl) (λ ops four is4 at4.
    spelled-weaker (JudgedSo at code.0 ops.0 None w) (λ x q other. R x q (two ++ (three ++ (four ++ other)))) ops.1 _ (judged-spelled at code.0 ops.0 None c w ops.1 s) (λ x q other at5 j. rw (j.0, append-nil four) (
      PlainRecord code.0 ops.0,
      (one, two ++ (three ++ four), id, (two, three ++ four, is2, (three, four, rw is4.0 is3, moved (each (vbr_form 6) ops.0) _ (at + length one + length two + length three) four (omega (arith, place, at2, at3)) is4.1, refl), refl), refl),
      (some_open c w s some, j.1),
      j.2,
      j.3,
    )))))

no_numbers : (ops : List AbbrevOp) (blob : Option (List ℕ)) (at : ℕ) (front : List Bool) → is_definition ops ≡ true → values_form ops [] blob at front → ⊥
no_numbers [] blob at front h f = cc
no_numbers (Literal k ∷ ops) blob at front h f = f
no_numbers (Fixed k ∷ ops) blob at front h f = f
no_numbers (Vbr k ∷ ops) blob at front h f = f
no_numbers (Char6 ∷ ops) blob at front h f = f
no_numbers (Array ∷ ops) blob at front h f = cc
no_numbers (Blob ∷ ops) blob at front h f = cc

four_or_more : (id : ℕ) → (id == 1) ≡ false → (id == 0) ≡ false → (id == 2) ≡ false → (id == 3) ≡ false → 4 ≤ id
four_or_more zero a b c d = absurd (eqb-false 0 0 b refl)
four_or_more (suc zero) a b c d = absurd (eqb-false 1 1 a refl)
four_or_more (suc (suc zero)) a b c d = absurd (eqb-false 2 2 c refl)
four_or_more (suc (suc (suc zero))) a b c d = absurd (eqb-false 3 3 d refl)
four_or_more (suc (suc (suc (suc id)))) a b c d = omega arith

abbrev-takes : (c : Context) (w : Blocks) (at id : ℕ) (one : List Bool) (p start : Input) → Same c w → IsSound c start → (length c.outer == 0) ≡ false → 4 ≤ id → WithId w id at one → p.at ≡ at + length one
    → (found : Option (List AbbrevOp)) → abbrev_in c.scope c.block_info c.abbrevs (id - 4) ≡ found → Spelled (EntryTo w at one) p (by_abbrev at id found c p)
abbrev-takes c w at id one p start s sound some high is place None found = tt
abbrev-takes c w at id one p start s sound some high is place (Some ops) found =
    spelled-then (ValuesAre ops p) (EntryTo w at one) p _ (λ v. judged_values at (v.0).numbers (v.0).blob c v.1) (values-spelled ops p (definition_rest ops may_be)) (λ v two form at2. by_numbers v.1 (v.0).numbers (v.0).blob two form)
  where
    may_be : is_definition ops ≡ true
    may_be = (found-sound (id - 4) c start sound ops found).may_be

    by_numbers : (q : Input) (numbers : List ℕ) (blob : Option (List ℕ)) (two : List Bool) → values_form ops numbers blob p.at two → Spelled (λ x r other. EntryTo w at one x r (two ++ other)) q (judged_values at numbers blob c q)
    by_numbers q [] blob two form = absurd (no_numbers ops blob p.at two may_be form)
    by_numbers q (code ∷ numbers) blob two form =
        spelled-weaker (JudgedSo at code numbers blob w) (λ x r other. EntryTo w at one x r (two ++ other)) q _ (judged-spelled at code numbers blob c w q s) (λ x r other at3 j. rw (j.0, append-nil two) (
          AbbrevRecord id code numbers blob,
          (ops, (high, sym (same-abbrevs c.block_info c.scope c.outer c.abbrevs w.open_blocks (id - 4) s.matches) ∙ found), (one, two, is, moved (values_form ops (code ∷ numbers) blob) _ _ two place form, refl)),
          (some_open c w s some, j.1),
          j.2,
          j.3,
        ))

entry_by-takes : (c : Context) (w : Blocks) (at id : ℕ) (one : List Bool) (p start : Input) → Same c w → IsSound c start → WithId w id at one → p.at ≡ at + length one → Spelled (EntryTo w at one) p (entry_by at id c p)
entry_by-takes c w at id one p start s sound is place =
    let R = EntryTo w at one in
    spelled-either R p (id == 1) _ _ (λ t. enter-takes c w at one p s (rw (eqb-true id 1 t) at is) place)
    (λ not_enter. spelled-either R p (length c.outer == 0) _ _ (λ t. tt)
    (λ some. spelled-either R p (id == 0) _ _ (λ t. end-takes c w at one p s some (rw (eqb-true id 0 t) at is) place)
    (λ not_end. spelled-either R p (id == 2) _ _ (λ t. define-takes c w at one p s some (rw (eqb-true id 2 t) at is) place)
    (λ not_define. spelled-either R p (id == 3) _ _ (λ t. plain-takes c w at one p s some (rw (eqb-true id 3 t) at is) place)
    (λ not_plain. abbrev-takes c w at id one p start s sound some (four_or_more id not_enter not_end not_define not_plain) is place (abbrev_in c.scope c.block_info c.abbrevs (id - 4)) refl)))))

pub entry-takes : (c : Context) (w : Blocks) (p : Input) → Same c w → IsSound c p → Spelled (EntryTo w p.at []) p (entry_at c p)
entry-takes c w p s sound =
    spelled-then (λ n q front. fixed_form c.scope.width n p.at front) (EntryTo w p.at []) p _ (λ id. entry_by p.at id.0 c id.1) (fixed-spelled c.scope.width p) (λ id one is at.
    entry_by-takes c w p.at id.0 one id.1 p s sound (rw (same-width c.block_info c.scope c.outer c.abbrevs w.open_blocks s.matches) at is) at)
