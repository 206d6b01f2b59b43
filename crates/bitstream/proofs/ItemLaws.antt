-- The items of a reader, one after the other.
use Rattle.std.proofs.Common.{◌≡◌, ◌≢◌, ℕ, zero, suc, ◌+◌, ◌*◌, ◌<◌, ◌≤◌, ◌==◌, Bool, true, false, List, [], ◌∷◌, length, refl, sym, ◌∙◌, ap, subst, arith, eqb-true, Ok, Err, Result, Some, None, Option, if◌then◌else◌, All, IfOk, IfErr, OnOk, length-drop, lit<}
use Rattle.std.proofs.lemmas.List.Elements.{All-nil, All-cons}
use Rattle.bitstream.specs.Bits.{bits_of}
use Rattle.bitstream.proofs.BitLaws.{length-bits_of}
use Rattle.bitstream.specs.declared.item.BitFault.{BitFault}
use Rattle.bitstream.specs.declared.item.BitFault.TheVariants.{NoMemory}
use Rattle.bitstream.specs.Fields.{Input, input_at}
use Rattle.bitstream.specs.declared.item.Item.{Item}
use Rattle.bitstream.specs.Reading.{Seen, Enters, LeaveBlock, Record, Ends, seen, Context, Reading, At, Stuck, item_of, at_end, entry_at, next_at, left_at, by_fault, outside, first_bit, NextGives}
use Rattle.bitstream.specs.Items.{shown_before, behind_entry, items_at, items_of, items_in, total_bits, IsReadBefore, IsSound, IsSoundReading, operand_count}
use Rattle.bitstream.proofs.OnwardLaws.{Behind, Onward, same_place, further, and_right}
use Rattle.bitstream.proofs.SoundLaws.{sound-later, EntryIs, IsItemBefore, entry-onward}

behind-same : (at : ℕ) (r : Result ((Option Seen × Context) × Input) BitFault) (f g : Context → Input → List (ℕ × Seen) × Option BitFault)
    → ((e : (Option Seen × Context) × Input) → r ≡ Ok e → f (e.0).1 e.1 ≡ g (e.0).1 e.1) → behind_entry at r f ≡ behind_entry at r g
behind-same at (Ok e) f g h = ap (shown_before at (e.0).0) (h e refl)
behind-same at (Err e) f g h = refl

pub entry-read : (c : Context) (p : Input) (e : (Option Seen × Context) × Input) → IsSound c p → entry_at c p ≡ Ok e → Behind p e.1 × EntryIs p e.0 e.1
entry-read c p e s is = let P : Result ((Option Seen × Context) × Input) BitFault → Type 0 = Onward (EntryIs p) p in subst P is (entry-onward c p s)

pub entry-fault : (c : Context) (p : Input) (e : BitFault) → IsSound c p → entry_at c p ≡ Err e → e ≢ NoMemory
entry-fault c p e s is = let P : Result ((Option Seen × Context) × Input) BitFault → Type 0 = Onward (EntryIs p) p in subst P is (entry-onward c p s)

pub fewer_bits : (c : Context) (p : Input) (e : (Option Seen × Context) × Input) → IsSound c p → entry_at c p ≡ Ok e → length (e.1).bits < length p.bits
fewer_bits c p e s is = let r = entry-read c p e s is in omega (arith, (r.0).whole, r.1.0)

-- more than enough changes nothing
pub items-fuel : (k j : ℕ) (c : Context) (p : Input) → IsSound c p → length p.bits < k → length p.bits < j → items_at k c p ≡ items_at j c p
items-fuel zero j c p s a b = absurd (omega (arith, a))
items-fuel (suc k) zero c p s a b = absurd (omega (arith, b))
items-fuel (suc k) (suc j) c p s a b = ap (λ (more : List (ℕ × Seen) × Option BitFault). if at_end c p then ([], None) else more)
    (behind-same p.at (entry_at c p) (items_at k) (items_at j) (λ e is. let less = fewer_bits c p e s is in
    items-fuel k j (e.0).1 e.1 (entry-read c p e s is).1.2 (omega (arith, less, a)) (omega (arith, less, b))))

enough : (p : Input) → length p.bits < left_at p
enough p = omega arith

pub items-step : (c : Context) (p : Input) (e : (Option Seen × Context) × Input) → IsSound c p → at_end c p ≡ false → entry_at c p ≡ Ok e
    → items_at (left_at p) c p ≡ shown_before p.at (e.0).0 (items_at (left_at e.1) (e.0).1 e.1)
items-step c p e s more is =
    items-fuel (left_at p) (suc (length p.bits)) c p s (enough p) (omega arith)
    ∙ rw (more, is) (ap (shown_before p.at (e.0).0) (items-fuel (length p.bits) (left_at e.1) (e.0).1 e.1 (entry-read c p e s is).1.2 (fewer_bits c p e s is) (enough e.1)))

pub items-fault : (c : Context) (p : Input) (e : BitFault) → IsSound c p → at_end c p ≡ false → entry_at c p ≡ Err e → items_at (left_at p) c p ≡ ([], Some e)
items-fault c p e s more is = items-fuel (left_at p) (suc (length p.bits)) c p s (enough p) (omega arith) ∙ rw (more, is) refl

pub items-end : (c : Context) (p : Input) → IsSound c p → at_end c p ≡ true → items_at (left_at p) c p ≡ ([], None)
items-end c p s last = items-fuel (left_at p) (suc (length p.bits)) c p s (enough p) (omega arith) ∙ rw last refl

-- What the next item is, and what is behind it.
pub record NextIs (c : Context) (p : Input) (x : ℕ × Seen × Context) (q : Input) : Type 0 where
  pub sound : IsSound x.2 q
  pub behind : Behind p q
  pub few : operand_count x.1 ≤ q.at
  pub last : x.1 ≡ Ends → (items_at (left_at p) c p ≡ ([], None)) × (at_end x.2 q ≡ true) × (x.0 ≡ q.at)
  pub first : x.1 ≢ Ends → items_at (left_at p) c p ≡ ((x.0, x.1) ∷ (items_at (left_at q) x.2 q).0, (items_at (left_at q) x.2 q).1)

next-last : (c : Context) (p : Input) → IsSound c p → at_end c p ≡ true → NextIs c p (p.at, Ends, c) p
next-last c p s last = record {
  sound = s;
  behind = same_place p;
  few = omega arith;
  last = λ is. (items-end c p s last, last, refl);
  first = λ other. absurd (other refl);
}

not_end : (at : ℕ) (s : Seen) → IsItemBefore at (Some s) → (operand_count s ≤ at) × (s ≢ Ends)
not_end at (Enters block) h = (omega arith, λ e. cc)
not_end at LeaveBlock h = (omega arith, λ e. cc)
not_end at (Record code ops blob) h = (h, λ e. cc)
not_end at Ends h = absurd h

next-shown : (c after : Context) (p q : Input) (s : Seen) → IsSound c p → at_end c p ≡ false → entry_at c p ≡ Ok ((Some s, after), q) → NextIs c p (p.at, s, after) q
next-shown c after p q s sound more is =
    let r = entry-read c p ((Some s, after), q) sound is in
    let item = not_end q.at s r.1.1 in
    record {
      sound = r.1.2;
      behind = r.0;
      few = item.0;
      last = λ e. absurd (item.1 e);
      first = λ other. items-step c p ((Some s, after), q) sound more is;
    }

next-later : (c after : Context) (p q r : Input) (x : ℕ × Seen × Context) → IsSound c p → at_end c p ≡ false → entry_at c p ≡ Ok ((None, after), q) → NextIs after q x r → NextIs c p x r
next-later c after p q r x s more is n =
    let step = items-step c p ((None, after), q) s more is in
    let b = (entry-read c p ((None, after), q) s is).0 in
    record {
      sound = n.sound;
      behind = further p q r b n.behind;
      few = n.few;
      last = λ e. (step ∙ (n.last e).0, (n.last e).1, (n.last e).2);
      first = λ other. step ∙ n.first other;
    }

abbrev pub NextOf : Context → Input → Result ((ℕ × Seen × Context) × Input) BitFault → Type 0
NextOf c p (Ok x) = NextIs c p x.0 x.1
NextOf c p (Err e) = (items_at (left_at p) c p ≡ ([], Some e)) × (e ≢ NoMemory)

by-entry : (n : ℕ) (c : Context) (p : Input) (r : Result ((Option Seen × Context) × Input) BitFault) → IsSound c p → at_end c p ≡ false → entry_at c p ≡ r
    → ((e : (Option Seen × Context) × Input) → entry_at c p ≡ Ok e → NextOf (e.0).1 e.1 (next_at n (e.0).1 e.1)) → NextOf c p (next_at (suc n) c p)
by-entry n c p (Err e) s more is later = rw (more, is) (items-fault c p e s more is, entry-fault c p e s is)
by-entry n c p (Ok ((Some x, after), q)) s more is later = rw (more, is) (next-shown c after p q x s more is)
by-entry n c p (Ok ((None, after), q)) s more is later = rw (more, is) (through (next_at n after q) (later ((None, after), q) is))
  where
    through : (r : Result ((ℕ × Seen × Context) × Input) BitFault) → NextOf after q r → NextOf c p r
    through (Ok x) h = next-later c after p q x.1 x.0 s more is h
    through (Err e) h = (items-step c p ((None, after), q) s more is ∙ h.0, h.1)

pub next-is : (n : ℕ) (c : Context) (p : Input) → IsSound c p → length p.bits < n → NextOf c p (next_at n c p)
next-is zero c p s a = absurd (omega (arith, a))
next-is (suc n) c p s a = by_end (at_end c p) refl (λ more. by-entry n c p (entry_at c p) s more refl (λ e is.
    next-is n (e.0).1 e.1 (entry-read c p e s is).1.2 (omega (arith, fewer_bits c p e s is, a))))
  where
    by_end : (last : Bool) → at_end c p ≡ last → (at_end c p ≡ false → NextOf c p (next_at (suc n) c p)) → NextOf c p (next_at (suc n) c p)
    by_end true t more = rw t (next-last c p s t)
    by_end false t more = more t

-- the fault that ends items is the input's, and a record has no more operands than the input has bits
pub record ItemsAre (total : ℕ) (items : List (ℕ × Seen) × Option BitFault) : Type 0 where
  pub fault : items.1 ≢ Some NoMemory
  pub few : All (λ x. operand_count x.1 ≤ total) items.0

before-are : (total at : ℕ) (s : Seen) (items : List (ℕ × Seen) × Option BitFault) → operand_count s ≤ total → ItemsAre total items → ItemsAre total ((at, s) ∷ items.0, items.1)
before-are total at s items few h = record { fault = h.fault; few = All-cons (λ x. operand_count x.1 ≤ total) (at, s) items.0 few h.few }

none-are : (total : ℕ) (e : Option BitFault) → e ≢ Some NoMemory → ItemsAre total ([], e)
none-are total e h = record { fault = h; few = All-nil (λ x. operand_count x.1 ≤ total) }

shown-are : (total at later : ℕ) (s : Option Seen) (items : List (ℕ × Seen) × Option BitFault) → later ≤ total → IsItemBefore later s → ItemsAre total items → ItemsAre total (shown_before at s items)
shown-are total at later None items within h i = i
shown-are total at later (Some s) items within h i = let item = not_end later s h in before-are total at s items (omega (arith, item.0, within)) i

not_want : (e : BitFault) → e ≢ NoMemory → Some e ≢ Some NoMemory
not_want e h is = h cc

pub items-are : (n : ℕ) (c : Context) (p : Input) → IsSound c p → length p.bits < n → ItemsAre (p.at + length p.bits) (items_at n c p)
items-are zero c p s a = absurd (omega (arith, a))
items-are (suc n) c p s a = by_end (at_end c p) refl (λ e is. items-are n (e.0).1 e.1 (entry-read c p e s is).1.2 (omega (arith, fewer_bits c p e s is, a)))
  where
    by_entry : (r : Result ((Option Seen × Context) × Input) BitFault) → entry_at c p ≡ r
        → ((e : (Option Seen × Context) × Input) → entry_at c p ≡ Ok e → ItemsAre ((e.1).at + length (e.1).bits) (items_at n (e.0).1 e.1)) → ItemsAre (p.at + length p.bits) (behind_entry p.at r (items_at n))
    by_entry (Err e) is later = none-are (p.at + length p.bits) (Some e) (not_want e (entry-fault c p e s is))
    by_entry (Ok e) is later =
        let r = entry-read c p e s is in
        let h = rw (r.0).whole at (later e is) in
        shown-are (p.at + length p.bits) p.at (e.1).at (e.0).0 (items_at n (e.0).1 e.1) (omega (arith, (r.0).whole)) r.1.1 h

    by_end : (last : Bool) → at_end c p ≡ last
        → ((e : (Option Seen × Context) × Input) → entry_at c p ≡ Ok e → ItemsAre ((e.1).at + length (e.1).bits) (items_at n (e.0).1 e.1)) → ItemsAre (p.at + length p.bits) (items_at (suc n) c p)
    by_end true t later = rw t (none-are (p.at + length p.bits) None (λ e. cc))
    by_end false t later = rw t (by_entry (entry_at c p) refl later)

pub next-sound : (c after : Context) (p q : Input) (at : ℕ) (s : Seen) → IsSound c p → next_at (left_at p) c p ≡ Ok ((at, s, after), q) → IsSound after q
next-sound c after p q at s sound is = let n = subst (NextOf c p) is (next-is (left_at p) c p sound (enough p)) in n.sound

pub read-sound : {A : Type 0} (P : A → Input → Type 0) (c : Context) (p q : Input) (x : A) (r : Result (A × Input) BitFault) → Onward P p r → IsSound c p → r ≡ Ok (x, q) → IsSound c q
read-sound P c p q x r o s is = let b = subst (Onward P p) is o in sound-later c p q b.0 s

-- the clauses of `next`
pub record NextClauses (old : Reading) (result : Result Item BitFault) (new : Reading) : Type 0 where
  pub shown : IfOk result (λ item. seen item ≢ Ends → items_of old ≡ ((item_of new, seen item) ∷ (items_of new).0, (items_of new).1))
  pub ended : IfOk result (λ item. seen item ≡ Ends → items_of old ≡ ([], None))
  pub still_ended : IfOk result (λ item. seen item ≡ Ends → items_of new ≡ ([], None))
  pub end_position : IfOk result (λ item. seen item ≡ Ends → item_of new ≡ total_bits new)
  pub few_operands : IfOk result (λ item. operand_count (seen item) ≤ total_bits new)
  pub total : OnOk result (total_bits new ≡ total_bits old)
  pub fault : IfErr result (λ e. e ≢ NoMemory → items_of old ≡ ([], Some e))
  pub stuck : IfErr result (λ e. new ≡ Stuck e (item_of old))
  pub no_more : IfErr result (λ e. items_of new ≡ ([], Some e))
  pub again : (e : BitFault) (i : ℕ) → old ≡ Stuck e i → result ≡ Err e

no_bits_left : (c : Context) (p : Input) → at_end c p ≡ true → length p.bits ≡ 0
no_bits_left c p last = eqb-true (length p.bits) 0 (and_right (length c.outer == 0) (length p.bits == 0) last)

shown-clauses : (c after : Context) (p behind : Input) (i at : ℕ) (item : Item) → IsSound c p → NextIs c p (at, seen item, after) behind
    → NextClauses (At p c i) (Ok item) (At behind after at)
unfolding items_of
shown-clauses c after p behind i at item s n = record {
  shown = λ other. n.first other;
  ended = λ is. (n.last is).0;
  still_ended = λ is. items-end after behind n.sound (n.last is).1;
  end_position = λ is. omega (arith, (n.last is).2, no_bits_left after behind (n.last is).1);
  few_operands = omega (arith, n.few);
  total = (n.behind).whole;
  fault = tt;
  stuck = tt;
  no_more = tt;
  again = λ e i h. absurd cc;
}

pub next-clauses : (old : Reading) (result : Result Item BitFault) (new : Reading) → IsSoundReading old → NextGives old result new → NextClauses old result new
unfolding items_of
next-clauses (Stuck e i) result new s h = subst (λ r. NextClauses (Stuck e i) r new) (sym h.0) (subst (λ n. NextClauses (Stuck e i) (Err e) n) (sym h.1) (record {
  shown = tt;
  ended = tt;
  still_ended = tt;
  end_position = tt;
  few_operands = tt;
  total = tt;
  fault = λ other. refl;
  stuck = refl;
  no_more = refl;
  again = λ f j is. cc;
}))
next-clauses (At p c i) (Ok item) new s (at, after, behind, is, new-is) =
    subst (λ n. NextClauses (At p c i) (Ok item) n) (sym new-is) (shown-clauses c after p behind i at item s (subst (NextOf c p) is (next-is (left_at p) c p s (enough p))))
next-clauses (At p c i) (Err e) new s (is, new-is) = subst (λ n. NextClauses (At p c i) (Err e) n) (sym new-is) (record {
  shown = tt;
  ended = tt;
  still_ended = tt;
  end_position = tt;
  few_operands = tt;
  total = tt;
  fault = λ other. let f = subst (NextOf c p) (is other) (next-is (left_at p) c p s (enough p)) in f.0;
  stuck = refl;
  no_more = refl;
  again = λ f j h. absurd cc;
})

pub sound_reading : (fault : Option BitFault) (p : Input) (c : Context) (i : ℕ) → (fault ≡ None → IsSound c p) → IsSoundReading (by_fault fault p c i)
sound_reading None p c i h = h refl
sound_reading (Some e) p c i h = tt

pub outside-sound : (p : Input) → IsSound outside p
outside-sound p = record {
  id_bits = lit< tt;
  outer_id_bits = All-nil (λ s. 0 < s.width);
  abbrevs = All-nil (IsReadBefore p.at);
  block_info = All-nil (λ k. IsReadBefore p.at k.definition);
}

total-is : (bytes : List ℕ) → (input_at bytes 0).at + length (input_at bytes 0).bits ≡ 8 * length bytes
total-is bytes = omega (arith, length-drop 0 (bits_of bytes), length-bits_of bytes)

-- the clauses of `new`
pub new-total : (bytes : List ℕ) (r : Reading) → r ≡ first_bit bytes → total_bits r ≡ 8 * length bytes
new-total bytes r is = ap total_bits is ∙ total-is bytes

pub items_in-are : (bytes : List ℕ) → ItemsAre (8 * length bytes) (items_in bytes)
unfolding items_of items_in
items_in-are bytes = rw (sym (total-is bytes)) (items-are (left_at (input_at bytes 0)) outside (input_at bytes 0) (outside-sound (input_at bytes 0)) (enough (input_at bytes 0)))

pub new-items : (bytes : List ℕ) (r : Reading) → r ≡ first_bit bytes → items_of r ≡ items_in bytes
unfolding items_in
new-items bytes r is = ap items_of is

pub stands-so : (p q : Input) (c d : Context) (i : ℕ) → p ≡ q → c ≡ d → (let r : Reading = At p c i in r) ≡ At q d i
stands-so p q c d i a b = cc
