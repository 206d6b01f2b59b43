-- Code that is emitted piece by piece.
use Rattle.std.proofs.Common.{◌≡◌, ℕ, ◌+◌, [], ◌∷◌, true, false, sym, ap, ◌∙◌, append_assoc, append-nil}
use Rattle.object_emit.specs.declared.instruction.Instruction.TheVariants as op
use Rattle.object_emit.specs.Pieces.{Emitted, Piece, plain, one, behind, joined, in_row, taking, and_piece, or_piece, while_piece, branch_piece}

pub behind_joined : (e : Emitted) (p q : Piece) → behind e (joined p q) ≡ behind (behind e p) q
behind_joined e p q = ap (λ l. record { code = l; next = (q (p e.next).next).next }) (sym (append_assoc e.code (p e.next).code (q (p e.next).next).code))

pub behind_none : (e : Emitted) → behind e (plain []) ≡ e
behind_none e = ap (λ l. record { code = l; next = e.next }) (append-nil e.code)

-- three pieces that take labels
three : (e : Emitted) (p q r : Piece) → behind e (in_row (p ∷ q ∷ r ∷ [])) ≡ behind (behind (behind e p) q) r
three e p q r =
    behind_joined e p (in_row (q ∷ r ∷ [])) ∙ behind_joined (behind e p) q (in_row (r ∷ [])) ∙ behind_joined (behind (behind e p) q) r (plain []) ∙ behind_none (behind (behind (behind e p) q) r)

five : (e : Emitted) (p q r s t : Piece) → behind e (in_row (p ∷ q ∷ r ∷ s ∷ t ∷ [])) ≡ behind (behind (behind (behind (behind e p) q) r) s) t
five e p q r s t =
    behind_joined e p (in_row (q ∷ r ∷ s ∷ t ∷ [])) ∙ behind_joined (behind e p) q (in_row (r ∷ s ∷ t ∷ [])) ∙ three (behind (behind e p) q) r s t

-- with labels taken first
abbrev pub taken : ℕ → Emitted → Emitted
taken count e = record { code = e.code; next = e.next + count }

pub and_emitted : (right : Piece) (old begun first mid new : Emitted) → begun ≡ taken 2 old → first ≡ behind begun (one (op.Unless old.next)) → mid ≡ behind first right →
    new ≡ behind mid (plain (op.Jump (old.next + 1) ∷ op.Label old.next ∷ op.Bool false ∷ op.Label (old.next + 1) ∷ [])) → new ≡ behind old (and_piece right)
and_emitted right old begun first mid new b f m n =
    let end : Piece = plain (op.Jump (old.next + 1) ∷ op.Label old.next ∷ op.Bool false ∷ op.Label (old.next + 1) ∷ []) in
    n ∙ ap (λ x. behind x end) (m ∙ ap (λ x. behind x right) (f ∙ ap (λ x. behind x (one (op.Unless old.next))) b)) ∙ sym (three (taken 2 old) (one (op.Unless old.next)) right end)

pub or_emitted : (right : Piece) (old begun first mid new : Emitted) → begun ≡ taken 2 old → first ≡ behind begun (plain (op.Unless old.next ∷ op.Bool true ∷ op.Jump (old.next + 1) ∷ op.Label old.next ∷ [])) →
    mid ≡ behind first right → new ≡ behind mid (one (op.Label (old.next + 1))) → new ≡ behind old (or_piece right)
or_emitted right old begun first mid new b f m n =
    let front : Piece = plain (op.Unless old.next ∷ op.Bool true ∷ op.Jump (old.next + 1) ∷ op.Label old.next ∷ []) in
    let end : Piece = one (op.Label (old.next + 1)) in
    n ∙ ap (λ x. behind x end) (m ∙ ap (λ x. behind x right) (f ∙ ap (λ x. behind x front) b)) ∙ sym (three (taken 2 old) front right end)

pub while_emitted : (condition block : Piece) (old begun one_ two three_ four new : Emitted) → begun ≡ taken 2 old → one_ ≡ behind begun (one (op.Label old.next)) → two ≡ behind one_ condition →
    three_ ≡ behind two (one (op.Unless (old.next + 1))) → four ≡ behind three_ block → new ≡ behind four (plain (op.Jump old.next ∷ op.Label (old.next + 1) ∷ [])) → new ≡ behind old (while_piece condition block)
while_emitted condition block old begun one_ two three_ four new b o t h f n =
    let first : Piece = one (op.Label old.next) in
    let test : Piece = one (op.Unless (old.next + 1)) in
    let end : Piece = plain (op.Jump old.next ∷ op.Label (old.next + 1) ∷ []) in
    n ∙ ap (λ x. behind x end) (f ∙ ap (λ x. behind x block) (h ∙ ap (λ x. behind x test) (t ∙ ap (λ x. behind x condition) (o ∙ ap (λ x. behind x first) b))))
    ∙ sym (five (taken 2 old) first condition test block end)

pub branch_emitted : (end : ℕ) (condition block : Piece) (old tested begun first mid new : Emitted) → tested ≡ behind old condition → begun ≡ taken 1 tested → first ≡ behind begun (one (op.Unless tested.next)) → mid ≡ behind first block →
    new ≡ behind mid (plain (op.Jump end ∷ op.Label tested.next ∷ [])) → new ≡ behind old (branch_piece end (condition, block))
branch_emitted end condition block old tested begun first mid new t b f m n =
    let test : Emitted → Piece = λ x. one (op.Unless x.next) in
    let last : Emitted → Piece = λ x. plain (op.Jump end ∷ op.Label x.next ∷ []) in
    n ∙ ap (λ x. behind x (last tested)) (m ∙ ap (λ x. behind x block) (f ∙ ap (λ x. behind x (test tested)) b)) ∙ sym (three (taken 1 tested) (test tested) block (last tested))
    ∙ ap (λ x. behind x (taking 1 (λ n. in_row (one (op.Unless n) ∷ block ∷ plain (op.Jump end ∷ op.Label n ∷ []) ∷ [])))) t ∙ sym (behind_joined old condition (taking 1 (λ n. in_row (one (op.Unless n) ∷ block ∷ plain (op.Jump end ∷ op.Label n ∷ []) ∷ []))))

pub if_emitted : (branches : ℕ → Piece) (last : Piece) (old begun first mid new : Emitted) → begun ≡ taken 1 old → first ≡ behind begun (branches old.next) → mid ≡ behind first last →
    new ≡ behind mid (one (op.Label old.next)) → new ≡ behind old (taking 1 (λ n. in_row (branches n ∷ last ∷ one (op.Label n) ∷ [])))
if_emitted branches last old begun first mid new b f m n =
    n ∙ ap (λ x. behind x (one (op.Label old.next))) (m ∙ ap (λ x. behind x last) (f ∙ ap (λ x. behind x (branches old.next)) b)) ∙ sym (three (taken 1 old) (branches old.next) last (one (op.Label old.next)))
