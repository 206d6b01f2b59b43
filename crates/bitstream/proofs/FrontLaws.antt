-- A reader gives the items of the furthest front, and its first fault is told where that ends.
use Rattle.std.proofs.Common.{◌≡◌, ℕ, zero, suc, ◌+◌, ◌<◌, ◌≤◌, ◌==◌, Bool, true, false, List, [], ◌∷◌, ◌++◌, length, refl, sym, ◌∙◌, ap, subst, arith, append_assoc, length-append, eqb-true, Ok, Err, Result, Some, None, Option}
use Rattle.std.proofs.lemmas.Bool.{ne_eqb, eqb-false}
use Rattle.std.proofs.lemmas.List.{append-nil}
use Rattle.std.proofs.lemmas.Grind.{flat_map-append}
use Rattle.bitstream.specs.declared.item.BitFault.{BitFault}
use Rattle.bitstream.specs.Bits.{byte_bits, bits_of}
use Rattle.bitstream.specs.Fields.{Input, input_at, at_bits}
use Rattle.bitstream.specs.Reading.{Seen, Context, outside, at_end, entry_at, left_at}
use Rattle.bitstream.specs.Items.{shown_before, behind_entry, items_at, items_of, items_in, IsSound}
use Rattle.bitstream.specs.Stands.{Entry, Blocks, no_blocks, entry_form, Allowed, after_entry, shown}
use Rattle.bitstream.specs.Fronts.{BeginWith, OfFurthestFront, may_be_mended, IsToldBehind, FirstFault}
use Rattle.bitstream.proofs.OnwardLaws.{and_right}
use Rattle.bitstream.proofs.FormLaws.{Spelled}
use Rattle.bitstream.proofs.ItemLaws.{entry-read, fewer_bits, items-step, items-fault, outside-sound}
use Rattle.bitstream.proofs.EntryFormLaws.{Same, as_list, EntryTo, entry-again, entry-takes}
use Rattle.bitstream.proofs.StandLaws.{no_elements, outside-same, stands-read}
use Rattle.bitstream.proofs.LastingLaws.{wider, Lasts, entry-lasts}

ok_one : (x y : (Option Seen × Context) × Input) → (let r : Result ((Option Seen × Context) × Input) BitFault = Ok x in r) ≡ Ok y → x ≡ y
ok_one x y e = cc

not_both : (x : (Option Seen × Context) × Input) (e : BitFault) (r : Result ((Option Seen × Context) × Input) BitFault) → r ≡ Ok x → r ≡ Err e → ⊥
not_both x e r a b = let h : Ok x ≡ Err e = sym a ∙ b in cc

-- the entry that stands first is read, and the others stand behind it
record FirstRead (c : Context) (w : Blocks) (p : Input) (e : Entry) (es : List Entry) (items : List (ℕ × Seen)) (end : ℕ) : Type 0 where
  pub item : Option Seen
  pub behind : Context
  pub place : Input
  pub later : List (ℕ × Seen)
  pub read : entry_at c p ≡ Ok ((item, behind), place)
  pub same : Same behind (after_entry w place.at e)
  pub rest : BeginWith (after_entry w place.at e) place.at es place.bits later end
  pub shows : items ≡ as_list p.at item ++ later

first-read : (c : Context) (w : Blocks) (p : Input) (e : Entry) (es : List Entry) (items : List (ℕ × Seen)) (end : ℕ) → Same c w → BeginWith w p.at (e ∷ es) p.bits items end → FirstRead c w p e es items end
first-read c w p e es items end s (front, rest, later, form, may, more, bits, items-are) =
    let r = entry-again c w e p.at front rest s form may in
    record {
      item = r.item;
      behind = r.after;
      place = at_bits (p.at + length front) rest;
      later = later;
      read = ap (λ b. entry_at c (at_bits p.at b)) bits ∙ r.read;
      same = r.same;
      rest = more;
      shows = items-are ∙ ap (λ l. l ++ later) (sym r.shows);
    }

-- no entries in front of a reader go behind a position, and what they show comes first among the items
abbrev Furthest : Context → Input → List (ℕ × Seen) → ℕ → Type 0
Furthest c p items stop = (w : Blocks) (es : List Entry) (first : List (ℕ × Seen)) (end : ℕ) → Same c w → BeginWith w p.at es p.bits first end → (end ≤ stop) × (more : List (ℕ × Seen)) × (items ≡ first ++ more)

none-further : (c : Context) (p : Input) → ((x : (Option Seen × Context) × Input) → entry_at c p ≡ Ok x → ⊥) → Furthest c p [] p.at
none-further c p none w [] first end s (items, place) = (omega (arith, place), [], rw items refl)
none-further c p none w (e ∷ es) first end s b = let f = first-read c w p e es first end s b in absurd (none ((f.item, f.behind), f.place) f.read)

step-further : (c : Context) (p : Input) (x : (Option Seen × Context) × Input) (items : List (ℕ × Seen)) (stop : ℕ) → entry_at c p ≡ Ok x → p.at ≤ stop → Furthest (x.0).1 x.1 items stop
    → Furthest c p (as_list p.at (x.0).0 ++ items) stop
step-further c p x items stop is low h w [] first end s (none, place) = (omega (arith, place, low), as_list p.at (x.0).0 ++ items, rw none refl)
step-further c p x items stop is low h w (e ∷ es) first end s b =
    let f = first-read c w p e es first end s b in
    let same : ((f.item, f.behind), f.place) ≡ x = ok_one ((f.item, f.behind), f.place) x (sym f.read ∙ is) in
    let behind : Furthest f.behind f.place items stop = subst (λ (y : (Option Seen × Context) × Input). Furthest (y.0).1 y.1 items stop) (sym same) h in
    let g = behind (after_entry w (f.place).at e) es f.later end f.same f.rest in (
      g.0,
      g.1,
      ap (λ (y : (Option Seen × Context) × Input). as_list p.at (y.0).0 ++ items) (sym same) ∙ ap (λ l. as_list p.at f.item ++ l) g.2
          ∙ sym (append_assoc (as_list p.at f.item) f.later g.1) ∙ ap (λ l. l ++ g.1) (sym f.shows),
    )

-- what the fault tells that ends the items
abbrev AboutFault : ℕ → Context → Input → List (ℕ × Seen) → Option BitFault → Type 0
AboutFault stop c p items None = Unit {0}
AboutFault stop c p items (Some e) = IsToldBehind stop e
    × (may_be_mended stop e ≡ false → (more : List Bool) → (items_at (left_at (wider more p)) c (wider more p) ≡ (items, Some e)) × Furthest c (wider more p) items stop)

record FrontOf (c : Context) (w : Blocks) (p : Input) (read : List (ℕ × Seen) × Option BitFault) : Type 0 where
  pub entries : List Entry
  pub stop : ℕ
  pub begins : BeginWith w p.at entries p.bits read.0 stop
  pub furthest : Furthest c p read.0 stop
  pub fault : AboutFault stop c p read.0 read.1

wider-sound : (c : Context) (p : Input) (more : List Bool) → IsSound c p → IsSound c (wider more p)
wider-sound c p more s = record { id_bits = s.id_bits; outer_id_bits = s.outer_id_bits; abbrevs = s.abbrevs; block_info = s.block_info }

wider-goes_on : (c : Context) (p : Input) (more : List Bool) → at_end c p ≡ false → at_end c (wider more p) ≡ false
wider-goes_on c p more on = by_outer (length c.outer == 0) refl
  where
    by_outer : (none : Bool) → (length c.outer == 0) ≡ none → at_end c (wider more p) ≡ false
    by_outer false t = rw t refl
    by_outer true t =
        let some : (length p.bits == 0) ≡ false = rw t at on in
        rw t (ne_eqb (length (p.bits ++ more)) 0 (λ e. eqb-false (length p.bits) 0 some (omega (arith, e, length-append p.bits more))))

shown-both : (at : ℕ) (s : Option Seen) (r : List (ℕ × Seen) × Option BitFault) → shown_before at s r ≡ (as_list at s ++ r.0, r.1)
shown-both at None r = refl
shown-both at (Some s) r = refl

front-end : (c : Context) (w : Blocks) (p : Input) → IsSound c p → at_end c p ≡ true → FrontOf c w p ([], None)
front-end c w p sound t =
    let none : length p.bits ≡ 0 = eqb-true (length p.bits) 0 (and_right (length c.outer == 0) (length p.bits == 0) t) in
    record {
      entries = [];
      stop = p.at;
      begins = (refl, refl);
      furthest = none-further c p (λ x is. absurd (let less = fewer_bits c p x sound is in omega (arith, less, none)));
      fault = tt;
    }

front-fault : (c : Context) (w : Blocks) (p : Input) (e : BitFault) → IsSound c p → at_end c p ≡ false → entry_at c p ≡ Err e → FrontOf c w p ([], Some e)
front-fault c w p e sound on is =
    let lasts : (more : List Bool) → Lasts p.at more (Err e) (entry_at c (wider more p)) = λ more. subst (λ r. Lasts p.at more r (entry_at c (wider more p))) is (entry-lasts c p more) in
    record {
      entries = [];
      stop = p.at;
      begins = (refl, refl);
      furthest = none-further c p (λ x h. not_both x e (entry_at c p) h is);
      fault = (
        (lasts []).0,
        λ stays more. let again = (lasts more).1 stays in (
          items-fault c (wider more p) e (wider-sound c p more sound) (wider-goes_on c p more on) again,
          none-further c (wider more p) (λ x h. not_both x e (entry_at c (wider more p)) h again),
        ),
      );
    }

front-step : (c : Context) (w : Blocks) (p : Input) (x : (Option Seen × Context) × Input) (e : Entry) (front : List Bool) (read : List (ℕ × Seen) × Option BitFault) → IsSound c p → at_end c p ≡ false → entry_at c p ≡ Ok x
    → entry_form w e p.at front → Allowed w (x.1).at (length (x.1).bits) e → as_list p.at (x.0).0 ≡ shown w p.at e → p.bits ≡ front ++ (x.1).bits → (x.1).at ≡ p.at + length front
    → Same (x.0).1 (after_entry w (x.1).at e) → FrontOf (x.0).1 (after_entry w (x.1).at e) x.1 read → FrontOf c w p (as_list p.at (x.0).0 ++ read.0, read.1)
front-step c w p x e front read sound on is form may shows bits at same h = record {
  entries = e ∷ h.entries;
  stop = h.stop;
  begins = (
    front,
    (x.1).bits,
    read.0,
    form,
    subst (λ n. Allowed w n (length (x.1).bits) e) at may,
    subst (λ n. BeginWith (after_entry w n e) n h.entries (x.1).bits read.0 h.stop) at h.begins,
    bits,
    ap (λ l. l ++ read.0) shows,
  );
  furthest = step-further c p x read.0 h.stop is low h.furthest;
  fault = by_fault read.1 h.fault;
}
  where
    low : p.at ≤ h.stop
    low = let f = h.furthest (after_entry w (x.1).at e) [] [] (x.1).at same (refl, refl) in omega (arith, f.0, at)

    by_fault : (fault : Option BitFault) → AboutFault h.stop (x.0).1 x.1 read.0 fault → AboutFault h.stop c p (as_list p.at (x.0).0 ++ read.0) fault
    by_fault None about = tt
    by_fault (Some e) about = (
      about.0,
      λ stays more.
          let l = about.1 stays more in
          let longer : entry_at c (wider more p) ≡ Ok (x.0, wider more x.1) = (subst (λ r. Lasts p.at more r (entry_at c (wider more p))) is (entry-lasts c p more)).1 in (
            items-step c (wider more p) (x.0, wider more x.1) (wider-sound c p more sound) (wider-goes_on c p more on) longer
                ∙ ap (shown_before p.at (x.0).0) l.0 ∙ shown-both p.at (x.0).0 (read.0, Some e),
            step-further c (wider more p) (x.0, wider more x.1) read.0 h.stop longer low l.1,
          ),
    )

front-of : (n : ℕ) (c : Context) (w : Blocks) (p : Input) → Same c w → IsSound c p → length p.bits < n → FrontOf c w p (items_at n c p)
front-of zero c w p s sound enough = absurd (omega (arith, enough))
front-of (suc n) c w p s sound enough = by_end (at_end c p) refl (λ x is e same.
    front-of n (x.0).1 (after_entry w (x.1).at e) x.1 same (entry-read c p x sound is).1.2 (omega (arith, fewer_bits c p x sound is, enough)))
  where
    Later : Type 0
    Later = (x : (Option Seen × Context) × Input) → entry_at c p ≡ Ok x → (e : Entry) → Same (x.0).1 (after_entry w (x.1).at e) → FrontOf (x.0).1 (after_entry w (x.1).at e) x.1 (items_at n (x.0).1 x.1)

    by_entry : (r : Result ((Option Seen × Context) × Input) BitFault) → at_end c p ≡ false → entry_at c p ≡ r → Spelled (EntryTo w p.at []) p r → Later → FrontOf c w p (behind_entry p.at r (items_at n))
    by_entry (Err e) on is spelled later = front-fault c w p e sound on is
    by_entry (Ok x) on is (front, (e, form, may, same, shows), bits, at) later =
        subst (FrontOf c w p) (sym (shown-both p.at (x.0).0 (items_at n (x.0).1 x.1)))
        (front-step c w p x e front (items_at n (x.0).1 x.1) sound on is form may shows bits at same (later x is e same))

    by_end : (last : Bool) → at_end c p ≡ last → Later → FrontOf c w p (items_at (suc n) c p)
    by_end true t later = rw t (front-end c w p sound t)
    by_end false t later = rw t (by_entry (entry_at c p) t refl (entry-takes c w p s sound) later)

front-in : (bytes : List ℕ) → FrontOf outside no_blocks (input_at bytes 0) (items_in bytes)
unfolding items_of items_in
front-in bytes = front-of (left_at (input_at bytes 0)) outside no_blocks (input_at bytes 0) outside-same (outside-sound (input_at bytes 0)) (omega arith)

-- What a reader gives are the items of the furthest front.
pub furthest-front : (bytes : List ℕ) → (stop : ℕ) × OfFurthestFront bytes (items_in bytes).0 stop
furthest-front bytes =
    let f = front-in bytes in
    (f.stop, record { entries = f.entries; is_front = f.begins; furthest = λ entries first end is. f.furthest no_blocks entries first end outside-same is })

none-more : {A : Type 0} (xs ys more others : List A) → xs ≡ ys ++ more → ys ≡ xs ++ others → xs ≡ ys
none-more xs ys more others a b =
    let none : length more ≡ 0 = omega (arith, ap length a, ap length b, length-append ys more, length-append xs others) in
    a ∙ ap (λ l. ys ++ l) (no_elements more none) ∙ append-nil ys

-- There is one furthest front.
pub one-front : (bytes : List ℕ) (items others : List (ℕ × Seen)) (stop end : ℕ) → OfFurthestFront bytes items stop → OfFurthestFront bytes others end → (items ≡ others) × (stop ≡ end)
one-front bytes items others stop end f g =
    let a = f.furthest g.entries others end g.is_front in
    let b = g.furthest f.entries items stop f.is_front in
    (none-more items others a.1 b.1 a.2 b.2, omega (arith, a.0, b.0))

-- The first fault is told where the furthest front ends.
pub first-fault : (bytes : List ℕ) (items : List (ℕ × Seen)) (fault : BitFault) → items_in bytes ≡ (items, Some fault) → FirstFault bytes items fault
unfolding items_of items_in
first-fault bytes items fault is =
    let f : FrontOf outside no_blocks (input_at bytes 0) (items, Some fault) = subst (FrontOf outside no_blocks (input_at bytes 0)) is (front-in bytes) in
    let longer : (more : List ℕ) → bits_of (bytes ++ more) ≡ bits_of bytes ++ bits_of more = λ more. flat_map-append byte_bits bytes more in
    let again : may_be_mended f.stop fault ≡ false → (more : List ℕ) → items_in (bytes ++ more) ≡ (items, Some fault)
    = λ stays more. ap (λ bs. items_at (left_at (at_bits 0 bs)) outside (at_bits 0 bs)) (longer more) ∙ ((f.fault).1 stays (bits_of more)).0 in
    record {
      stop = f.stop;
      given = record { entries = f.entries; is_front = f.begins; furthest = λ entries first end front. f.furthest no_blocks entries first end outside-same front };
      place = (f.fault).0;
      stuck = λ stays more entries first end front.
          ((f.fault).1 stays (bits_of more)).1 no_blocks entries first end outside-same (subst (λ bs. BeginWith no_blocks 0 entries bs first end) (longer more) front);
      stays = again;
      unspelled = λ stays more others stands. let h : (others, None) ≡ (items, Some fault) = sym (stands-read (bytes ++ more) others stands) ∙ again stays more in absurd (let e = ap (λ x. x.1) h in cc);
    }
