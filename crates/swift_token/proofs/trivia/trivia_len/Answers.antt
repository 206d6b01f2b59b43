use Rattle.std.proofs.Common.{◌≡◌, ℕ, ◌-◌, Option, List, sym, ap, ◌∙◌, arith, take, drop, length}
use Rattle.std.proofs.lemmas.List.{length-drop, take_rest}
use Rattle.std.proofs.lemmas.Str.{IsCharBoundary-start}
use Rattle.swift_token.specs.Scans.{trivia_piece_end}
use Rattle.swift_token.proofs.TriviaLemmas.{trivia_none, trivia_on, piece_through, no_piece}
use Rattle.swift_token.proofs.Boundaries.{trivia_boundary}
use Rattle.swift_token.proofs.trivia.trivia_len.Goals as goal

seen : (bs : List ℕ) (len : ℕ) (found : Option ℕ) → found ≡ trivia_piece_end (take (length bs - len) (drop len bs)) → trivia_piece_end (drop len bs) ≡ found
seen bs len found h = ap trivia_piece_end (sym (take_rest bs len)) ∙ sym h

pub pieces-init : goal.pieces-init
pieces-init c = record { within = omega arith; trivia = trivia_none; boundary = λ u. IsCharBoundary-start c.args.bytes.now u }

pub overflow_add-len : goal.overflow_add-len
overflow_add-len c =
    let p = piece_through (drop c.pieces.len c.args.bytes.now) c.in-Some.n (seen c.args.bytes.now c.pieces.len _ c.in-Some.ensures.value) in
    omega (arith, p.within, length-drop c.pieces.len c.args.bytes.now, c.pieces.invariant.within)

pub pieces-smaller : goal.pieces-smaller
pieces-smaller c =
    let p = piece_through (drop c.pieces.len c.args.bytes.now) c.in-Some.n (seen c.args.bytes.now c.pieces.len _ c.in-Some.ensures.value) in
    omega (arith, p.some, p.within, length-drop c.pieces.len c.args.bytes.now, c.pieces.invariant.within)

pub pieces-preserved : goal.pieces-preserved
pieces-preserved c =
    let p = piece_through (drop c.pieces.len c.args.bytes.now) c.in-Some.n (seen c.args.bytes.now c.pieces.len _ c.in-Some.ensures.value) in
    record {
      within = omega (arith, p.within, length-drop c.pieces.len c.args.bytes.now, c.pieces.invariant.within);
      trivia = trivia_on c.args.bytes.now c.pieces.len c.in-Some.n c.pieces.invariant.trivia p;
      boundary = λ u. trivia_boundary c.args.bytes.now c.pieces.len c.in-Some.n c.pieces.invariant.within p u (c.pieces.invariant.boundary u);
    }

pub returns-clause-behind : goal.returns-clause-behind
returns-clause-behind c = no_piece (drop c.pieces.len c.args.bytes.now) (seen c.args.bytes.now c.pieces.len _ c.in_default.ensures.value)
