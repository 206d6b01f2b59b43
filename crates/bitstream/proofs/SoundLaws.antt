-- The contexts that a reader comes to, entry by entry.
use Rattle.std.proofs.Common.{◌≡◌, ℕ, ◌+◌, ◌-◌, ◌/◌, ◌%◌, ◌^◌, ◌<◌, ◌≤◌, ◌==◌, Bool, true, false, List, [], ◌∷◌, ◌++◌, length, refl, subst, arith, nat_lt, nat_le, slice_get, slice_index_or, All, Some, None, Option, if◌then◌else◌}
use Rattle.std.proofs.lemmas.Option.{slice_get_within, get_or_from_slice_get}
use Rattle.std.proofs.lemmas.List.Elements.{All-push, All-take, recursion_from_All, All-from_recursion}
use Rattle.std.specs.List.{AllByRecursion as ByRecursion}
use Rattle.bitstream.specs.declared.item.AbbrevOp.{AbbrevOp}
use Rattle.bitstream.specs.declared.item.AbbrevOp.TheVariants.{Vbr}
use Rattle.bitstream.specs.declared.cursor.Opened.{Opened}
use Rattle.bitstream.specs.declared.block_info.BlockInfoDefinition.{BlockInfoDefinition}
use Rattle.bitstream.specs.declared.entry_reader.Scope.{Scope}
use Rattle.bitstream.specs.Fields.{Input}
use Rattle.bitstream.specs.BlockInfo.{block_info_for}
use Rattle.bitstream.specs.Scopes.{abbrev_in}
use Rattle.bitstream.specs.Reading.{Seen, Enters, LeaveBlock, Record, Ends, Context, shown_in, left_block, end_at, entered_block, enter_at, defined_for, define_at, named_by, judged, plain_at, judged_values, by_abbrev, entry_by, entry_at}
use Rattle.bitstream.specs.Items.{IsReadBefore, IsSound}
use Rattle.bitstream.proofs.OnwardLaws.{Behind, Onward, same_place, further, and_then, either, weaker, Any, fixed-onward, vbr-onward, align-onward, NoMore, numbers-onward, FewValues, values-onward, definition_rest, IsDefinition, definition-onward, opened-onward}

-- each element of a list has a weaker fact
all_weaker : {X : Type 0} (P Q : X → Type 0) (xs : List X) → ((x : X) → P x → Q x) → All P xs → All Q xs
all_weaker P Q xs f h = λ k d within. f (slice_index_or xs k d) (h k d within)

read_before : (at later : ℕ) (ops : List AbbrevOp) → at ≤ later → IsReadBefore at ops → IsReadBefore later ops
read_before at later ops onward h = record { few = omega (arith, h.few, onward); may_be = h.may_be }

pub sound-later : (c : Context) (p q : Input) → Behind p q → IsSound c p → IsSound c q
sound-later c p q b s = record {
  id_bits = s.id_bits;
  outer_id_bits = s.outer_id_bits;
  abbrevs = all_weaker (IsReadBefore p.at) (IsReadBefore q.at) c.abbrevs (λ ops h. read_before p.at q.at ops b.onward h) s.abbrevs;
  block_info = all_weaker (λ k. IsReadBefore p.at k.definition) (λ k. IsReadBefore q.at k.definition) c.block_info (λ k h. read_before p.at q.at k.definition b.onward h) s.block_info;
}

-- an item other than the end, whose operands are no more than the bits before a position
abbrev pub IsItemBefore : ℕ → Option Seen → Type 0
IsItemBefore at (Some (Enters block)) = Unit {0}
IsItemBefore at (Some LeaveBlock) = Unit {0}
IsItemBefore at (Some (Record code ops blob)) = length ops ≤ at
IsItemBefore at (Some Ends) = ⊥
IsItemBefore at None = Unit {0}

abbrev pub Stepped : Option Seen × Context → Input → Type 0
Stepped x q = IsItemBefore q.at x.0 × IsSound x.1 q

some_scope : (outer : List Scope) → (length outer == 0) ≡ false → 0 < length outer
some_scope [] t = absurd cc
some_scope (s ∷ ss) t = omega arith

left-sound : (c : Context) (p : Input) → (length c.outer == 0) ≡ false → IsSound c p → IsSound (left_block c) p
left-sound c p t s = record {
  id_bits = s.outer_id_bits (length c.outer - 1) c.scope (omega (arith, some_scope c.outer t));
  outer_id_bits = All-take (λ s. 0 < s.width) (length c.outer - 1) c.outer s.outer_id_bits;
  abbrevs = All-take (IsReadBefore p.at) c.scope.first c.abbrevs s.abbrevs;
  block_info = s.block_info;
}

shown_before-is : (c : Context) (at : ℕ) → IsItemBefore at (shown_in c LeaveBlock)
shown_before-is c at = by_block (c.scope.block == 0) refl
  where
    by_block : (info : Bool) → (c.scope.block == 0) ≡ info → IsItemBefore at (shown_in c LeaveBlock)
    by_block true t = rw t tt
    by_block false t = rw t tt

pub end-onward : (c : Context) (p : Input) → (length c.outer == 0) ≡ false → IsSound c p → Onward Stepped p (end_at c p)
end-onward c p t s = and_then Any Stepped p _ _ (align-onward p) (λ q b h.
    either Stepped q.1 (((q.1).at - c.scope.begins) / 32 % 2 ^ 32 == c.scope.said) _ _
    (λ u. (same_place q.1, (shown_before-is c (q.1).at, left-sound c q.1 t (sound-later c p q.1 b s)))) (λ u h. cc))

known-sound : (at block : ℕ) (ks : List BlockInfoDefinition) → ByRecursion (λ k. IsReadBefore at k.definition) ks → ByRecursion (IsReadBefore at) (block_info_for block ks)
known-sound at block [] h = tt
known-sound at block (k ∷ ks) h = by_block (k.block == block) refl (known-sound at block ks h.1)
  where
    by_block : (same : Bool) → (k.block == block) ≡ same → ByRecursion (IsReadBefore at) (block_info_for block ks) → ByRecursion (IsReadBefore at) (block_info_for block (k ∷ ks))
    by_block true t more = rw t (h.0, more)
    by_block false t more = rw t more

entered-sound : (at : ℕ) (o : Opened) (c : Context) (p : Input) → 2 ≤ o.width → IsSound c p → IsSound (entered_block at o c) p
entered-sound at o c p wide s = record {
  id_bits = omega (arith, wide);
  outer_id_bits = All-push (λ s. 0 < s.width) c.outer c.scope s.outer_id_bits s.id_bits;
  abbrevs = s.abbrevs;
  block_info = s.block_info;
}

entered-is : (at block : ℕ) → IsItemBefore at (if block == 0 then None else Some (Enters block))
entered-is at block = by_block (block == 0) refl
  where
    by_block : (info : Bool) → (block == 0) ≡ info → IsItemBefore at (if block == 0 then None else Some (Enters block))
    by_block true t = rw t tt
    by_block false t = rw t tt

pub enter-onward : (at : ℕ) (c : Context) (p : Input) → IsSound c p → Onward Stepped p (enter_at at c p)
enter-onward at c p s = either Stepped p (c.scope.block == 0) _ _ (λ t h. cc) (λ t. either Stepped p (nat_le 32 (length c.outer)) _ _ (λ t h. cc) (λ t.
    and_then (λ o q. 2 ≤ o.width) Stepped p _ _ (opened-onward at p) (λ o b wide.
    (same_place o.1, (entered-is (o.1).at (o.0).block, entered-sound at o.0 c o.1 wide (sound-later c p o.1 b s))))))

defined-sound : (c : Context) (p q : Input) (ops : List AbbrevOp) → Behind p q → IsDefinition p ops q → IsSound c p → IsSound (record c { abbrevs = c.abbrevs ++ ops ∷ [] }) q
defined-sound c p q ops b d s = let s' = sound-later c p q b s in record {
  id_bits = s'.id_bits;
  outer_id_bits = s'.outer_id_bits;
  abbrevs = All-push (IsReadBefore q.at) c.abbrevs ops s'.abbrevs (record { few = omega (arith, d.0); may_be = d.1 });
  block_info = s'.block_info;
}

block_info_for-sound : (c : Context) (p q : Input) (block : ℕ) (ops : List AbbrevOp) → Behind p q → IsDefinition p ops q → IsSound c p
    → IsSound (record c { block_info = c.block_info ++ record { block = block; definition = ops } ∷ [] }) q
block_info_for-sound c p q block ops b d s = let s' = sound-later c p q b s in record {
  id_bits = s'.id_bits;
  outer_id_bits = s'.outer_id_bits;
  abbrevs = s'.abbrevs;
  block_info = All-push (λ k. IsReadBefore q.at k.definition) c.block_info (record { block = block; definition = ops }) s'.block_info (record { few = omega (arith, d.0); may_be = d.1 });
}

defined_for-onward : (c : Context) (at : ℕ) (named : Option ℕ) (p : Input) → IsSound c p → Onward Stepped p (defined_for c at named p)
defined_for-onward c at None p s = λ h. cc
defined_for-onward c at (Some block) p s = and_then (IsDefinition p) Stepped p _ _ (definition-onward at p) (λ d b is. (same_place d.1, (tt, block_info_for-sound c p d.1 block d.0 b is s)))

pub define-onward : (at : ℕ) (c : Context) (p : Input) → IsSound c p → Onward Stepped p (define_at at c p)
define-onward at c p s = either Stepped p (c.scope.block == 0) _ _ (λ t. defined_for-onward c at c.named p s)
    (λ t. and_then (IsDefinition p) Stepped p _ _ (definition-onward at p) (λ d b is. (same_place d.1, (tt, defined-sound c p d.1 d.0 b is s))))

named-sound : (c : Context) (p : Input) (n : ℕ) → IsSound c p → IsSound (record c { named = Some n }) p
named-sound c p n s = record { id_bits = s.id_bits; outer_id_bits = s.outer_id_bits; abbrevs = s.abbrevs; block_info = s.block_info }

named_by-onward : (at : ℕ) (numbers : List ℕ) (c : Context) (p : Input) → IsSound c p → Onward Stepped p (named_by at numbers c p)
named_by-onward at [] c p s = λ h. cc
named_by-onward at (n ∷ ns) c p s = either Stepped p (nat_lt n (2 ^ 32)) _ _ (λ t. (same_place p, (tt, named-sound c p n s))) (λ t h. cc)

judged-onward : (at code : ℕ) (numbers : List ℕ) (blob : Option (List ℕ)) (c : Context) (p : Input) → length numbers ≤ p.at → IsSound c p → Onward Stepped p (judged at code numbers blob c p)
judged-onward at code numbers blob c p few s = either Stepped p (c.scope.block == 0) _ _
    (λ t. either Stepped p (code == 1) _ _ (λ t. named_by-onward at numbers c p s) (λ t. (same_place p, (tt, s))))
    (λ t. (same_place p, (few, s)))

pub plain-onward : (at : ℕ) (c : Context) (p : Input) → IsSound c p → Onward Stepped p (plain_at at c p)
plain-onward at c p s = and_then (λ x q. p.at + 6 ≤ q.at) Stepped p _ _ (vbr-onward 6 p) (λ code b h.
    and_then (λ x q. (code.1).at + 6 ≤ q.at) Stepped code.1 _ _ (vbr-onward 6 code.1) (λ count b2 h2.
    and_then (NoMore (Vbr 6) count.1) Stepped count.1 _ _ (numbers-onward count.0 (Vbr 6) count.1) (λ ops b3 few.
    judged-onward at code.0 ops.0 None c ops.1 (omega (arith, few refl)) (sound-later c p ops.1 (further p count.1 ops.1 (further p code.1 count.1 b b2) b3) s))))

judged_values-onward : (at : ℕ) (numbers : List ℕ) (blob : Option (List ℕ)) (c : Context) (p : Input) → length numbers ≤ p.at → IsSound c p → Onward Stepped p (judged_values at numbers blob c p)
judged_values-onward at [] blob c p few s = judged-onward at 0 [] blob c p few s
judged_values-onward at (code ∷ numbers) blob c p few s = judged-onward at code numbers blob c p (omega (arith, few)) s

by_abbrev-onward : (at id : ℕ) (found : Option (List AbbrevOp)) (c : Context) (p : Input) → ((ops : List AbbrevOp) → found ≡ Some ops → IsReadBefore p.at ops) → IsSound c p
    → Onward Stepped p (by_abbrev at id found c p)
by_abbrev-onward at id None c p h s = λ e. cc
by_abbrev-onward at id (Some ops) c p h s = let block_info = h ops refl in
    and_then (FewValues ops p) Stepped p _ _ (values-onward ops p (definition_rest ops block_info.may_be)) (λ v b few.
    judged_values-onward at (v.0).numbers (v.0).blob c v.1 (omega (arith, few, block_info.few)) (sound-later c p v.1 b s))

in-sound : (at k : ℕ) (abbrevs : List (List AbbrevOp)) → All (IsReadBefore at) abbrevs → (ops : List AbbrevOp) → slice_get abbrevs k ≡ Some ops → IsReadBefore at ops
in-sound at k abbrevs all ops is = subst (IsReadBefore at) (get_or_from_slice_get abbrevs k ops ops is) (all k ops (slice_get_within abbrevs k ops is))

pub found-sound : (k : ℕ) (c : Context) (p : Input) → IsSound c p → (ops : List AbbrevOp) → abbrev_in c.scope c.block_info c.abbrevs k ≡ Some ops → IsReadBefore p.at ops
found-sound k c p s ops is = by_known (nat_lt k c.scope.block_info) refl
  where
    defined : All (IsReadBefore p.at) (block_info_for c.scope.block c.block_info)
    defined = All-from_recursion (IsReadBefore p.at) (block_info_for c.scope.block c.block_info) (known-sound p.at c.scope.block c.block_info (recursion_from_All (λ k. IsReadBefore p.at k.definition) c.block_info s.block_info))

    by_known : (low : Bool) → nat_lt k c.scope.block_info ≡ low → IsReadBefore p.at ops
    by_known true t = in-sound p.at k (block_info_for c.scope.block c.block_info) defined ops (rw t at is)
    by_known false t = in-sound p.at (c.scope.first + (k - c.scope.block_info)) c.abbrevs s.abbrevs ops (rw t at is)

pub entry_by-onward : (at id : ℕ) (c : Context) (p : Input) → IsSound c p → Onward Stepped p (entry_by at id c p)
entry_by-onward at id c p s =
    either Stepped p (id == 1) _ _ (λ t. enter-onward at c p s)
    (λ t. either Stepped p (length c.outer == 0) _ _ (λ t h. cc)
    (λ some. either Stepped p (id == 0) _ _ (λ t. end-onward c p some s)
    (λ t. either Stepped p (id == 2) _ _ (λ t. define-onward at c p s)
    (λ t. either Stepped p (id == 3) _ _ (λ t. plain-onward at c p s)
    (λ t. by_abbrev-onward at id (abbrev_in c.scope c.block_info c.abbrevs (id - 4)) c p (found-sound (id - 4) c p s) s)))))

-- An entry takes a bit at least.
abbrev pub EntryIs : Input → Option Seen × Context → Input → Type 0
EntryIs p x q = (p.at < q.at) × IsItemBefore q.at x.0 × IsSound x.1 q

pub entry-onward : (c : Context) (p : Input) → IsSound c p → Onward (EntryIs p) p (entry_at c p)
entry-onward c p s = and_then (λ x q. p.at + c.scope.width ≤ q.at) (EntryIs p) p _ _ (fixed-onward c.scope.width p) (λ id b h.
    weaker Stepped (EntryIs p) id.1 (entry_by p.at id.0 c id.1) (entry_by-onward p.at id.0 c id.1 (sound-later c p id.1 b s))
    (λ x q o k. (omega (arith, h, o.onward, s.id_bits), k.0, k.1)))
