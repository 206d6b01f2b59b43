use Rattle.std.proofs.Common.{◌≡◌, ℕ, Bool, ◌||◌, List, ◌++◌, vec_len, length, map, eqb, ltb, ap, ◌∙◌, subst, arith}
use Rattle.std.proofs.lemmas.List.{length-append, length-map}
use Rattle.swift_ast.specs.declared.Token.{Token as TokenOf}
use Rattle.swift_ast.specs.Leaves.{Leaf, leaf_of}
use Rattle.swift_token.specs.declared.next_lexeme.NextLexeme.TheVariants.{End, Token, Fault}
use Rattle.swift_token.proofs.Lexed.{Lexed, lexed_end, lexed_fault, lexed_step, fault_within, pushed, place_fits}
use Rattle.swift_token.proofs.Turns.{split_off, stood, place_along, fault_at, token_cut, place_joined, after_utf8}
use Rattle.swift_token.proofs.lexer.tokens.Goals as goal

pub behind-start-requires-clause-column_fits : goal.behind-start-requires-clause-column_fits
behind-start-requires-clause-column_fits c =
    (place_fits c.tokens.place c.tokens.invariant.0 (length c.as_bytes-in-tokens.result.now) c.tokens.invariant.2
    (omega (arith, c.as_bytes-in-tokens.ensures.len, c.split_at.ensures.front_len, c.split_at.ensures.back_len, ap length c.tokens.invariant.1.whole, length-append c.tokens.invariant.0 c.tokens.rest.now, c.requires))).1

pub returns-in-End : goal.returns-in-End
returns-in-End c =
    let rest = c.tokens.rest.now in
    let trivia = c.split_at.result.0.now in
    let behind = c.split_at.result.1.now in
    let before = c.tokens.invariant.0 in
    let split = split_off c.trivia_len.result c.tokens.rest.now c.as_bytes.result.now c.split_at.result.0.now c.split_at.result.1.now c.as_bytes.ensures.value c.trivia_len.ensures.trivia c.trivia_len.ensures.behind c.split_at.ensures.front c.split_at.ensures.back in
    let lexed = subst (λ (x : List ℕ). Lexed c.args.text.now c.tokens.invariant.0 x (map leaf_of c.tokens.tokens.items)) split.whole c.tokens.invariant.1 in
    let st = stood End c.as_bytes-in-tokens-2.result.now c.split_at.result.1.now c.as_bytes-in-tokens-2.ensures.value c.in-End.ensures in
    lexed_end c.args.text.now before trivia behind (map leaf_of c.tokens.tokens.items) lexed split.trivia_is split.none st

pub split_at-requires-in-Fault : goal.split_at-requires-in-Fault
split_at-requires-in-Fault c =
    let rest = c.tokens.rest.now in
    let trivia = c.split_at.result.0.now in
    let behind = c.split_at.result.1.now in
    let before = c.tokens.invariant.0 in
    let split = split_off c.trivia_len.result c.tokens.rest.now c.as_bytes.result.now c.split_at.result.0.now c.split_at.result.1.now c.as_bytes.ensures.value c.trivia_len.ensures.trivia c.trivia_len.ensures.behind c.split_at.ensures.front c.split_at.ensures.back in
    let lexed = subst (λ (x : List ℕ). Lexed c.args.text.now c.tokens.invariant.0 x (map leaf_of c.tokens.tokens.items)) split.whole c.tokens.invariant.1 in
    let st = stood (Fault c.in-Fault.what c.in-Fault.at) c.as_bytes-in-tokens-2.result.now c.split_at.result.1.now c.as_bytes-in-tokens-2.ensures.value c.in-Fault.ensures in
    omega (arith, fault_within c.split_at.result.1.now c.in-Fault.what c.in-Fault.at split.none st, c.as_bytes-in-Fault.ensures.len)

pub behind-line-requires-clause-column_fits : goal.behind-line-requires-clause-column_fits
behind-line-requires-clause-column_fits c =
    let start = place_along c.behind-start.result c.tokens.invariant.0 c.as_bytes-in-tokens.result.now c.split_at.result.0.now c.as_bytes-in-tokens.ensures.value (c.behind-start.ensures c.tokens.invariant.0 c.tokens.invariant.2) in
    (place_fits c.behind-start.result (c.tokens.invariant.0 ++ c.split_at.result.0.now) (length c.split_at-in-Fault.result.0.now) start
    (omega (
      arith,
      c.split_at-in-Fault.ensures.front_len,
      c.split_at-in-Fault.ensures.back_len,
      c.as_bytes-in-Fault.ensures.len,
      c.split_at.ensures.front_len,
      c.split_at.ensures.back_len,
      ap length c.tokens.invariant.1.whole,
      length-append c.tokens.invariant.0 c.tokens.rest.now,
      length-append c.tokens.invariant.0 c.split_at.result.0.now,
      c.requires,
    ))).1

pub returns-in-Fault : goal.returns-in-Fault
returns-in-Fault c =
    let rest = c.tokens.rest.now in
    let trivia = c.split_at.result.0.now in
    let behind = c.split_at.result.1.now in
    let before = c.tokens.invariant.0 in
    let split = split_off c.trivia_len.result c.tokens.rest.now c.as_bytes.result.now c.split_at.result.0.now c.split_at.result.1.now c.as_bytes.ensures.value c.trivia_len.ensures.trivia c.trivia_len.ensures.behind c.split_at.ensures.front c.split_at.ensures.back in
    let lexed = subst (λ (x : List ℕ). Lexed c.args.text.now c.tokens.invariant.0 x (map leaf_of c.tokens.tokens.items)) split.whole c.tokens.invariant.1 in
    let st = stood (Fault c.in-Fault.what c.in-Fault.at) c.as_bytes-in-tokens-2.result.now c.split_at.result.1.now c.as_bytes-in-tokens-2.ensures.value c.in-Fault.ensures in
    let start = place_along c.behind-start.result c.tokens.invariant.0 c.as_bytes-in-tokens.result.now c.split_at.result.0.now c.as_bytes-in-tokens.ensures.value (c.behind-start.ensures c.tokens.invariant.0 c.tokens.invariant.2) in
    let at = fault_at c.behind-line.result c.in-Fault.what c.tokens.invariant.0 c.split_at.result.0.now c.split_at.result.1.now c.as_bytes-in-Fault.result.now c.split_at-in-Fault.result.0.now c.in-Fault.at st c.as_bytes-in-Fault.ensures.value
    c.split_at-in-Fault.ensures.front (c.behind-line.ensures (c.tokens.invariant.0 ++ c.split_at.result.0.now) start) in
    lexed_fault c.args.text.now before trivia behind (map leaf_of c.tokens.tokens.items) _ c.in-Fault.at lexed split.trivia_is split.none at

pub split_at-requires-in-Token : goal.split_at-requires-in-Token
split_at-requires-in-Token c =
    let rest = c.tokens.rest.now in
    let trivia = c.split_at.result.0.now in
    let behind = c.split_at.result.1.now in
    let before = c.tokens.invariant.0 in
    let split = split_off c.trivia_len.result c.tokens.rest.now c.as_bytes.result.now c.split_at.result.0.now c.split_at.result.1.now c.as_bytes.ensures.value c.trivia_len.ensures.trivia c.trivia_len.ensures.behind c.split_at.ensures.front c.split_at.ensures.back in
    let lexed = subst (λ (x : List ℕ). Lexed c.args.text.now c.tokens.invariant.0 x (map leaf_of c.tokens.tokens.items)) split.whole c.tokens.invariant.1 in
    let st = stood (Token c.in-Token.kind c.in-Token.len) c.as_bytes-in-tokens-2.result.now c.split_at.result.1.now c.as_bytes-in-tokens-2.ensures.value c.in-Token.ensures in
    let cut = token_cut c.in-Token.kind c.in-Token.len c.as_bytes-in-tokens-2.result.now c.split_at.result.1.now split.none st c.as_bytes-in-tokens-2.ensures.value c.as_bytes-in-tokens-2.ensures.utf8 in
    cut.boundary

pub behind-place-requires-clause-line_fits : goal.behind-place-requires-clause-line_fits
behind-place-requires-clause-line_fits c =
    let start = place_along c.behind-start.result c.tokens.invariant.0 c.as_bytes-in-tokens.result.now c.split_at.result.0.now c.as_bytes-in-tokens.ensures.value (c.behind-start.ensures c.tokens.invariant.0 c.tokens.invariant.2) in
    (place_fits c.behind-start.result (c.tokens.invariant.0 ++ c.split_at.result.0.now) (length c.as_bytes-in-Token.result.now) start
    (omega (
      arith,
      c.as_bytes-in-Token.ensures.len,
      c.split_at-in-Token.ensures.front_len,
      c.split_at-in-Token.ensures.back_len,
      c.split_at.ensures.front_len,
      c.split_at.ensures.back_len,
      ap length c.tokens.invariant.1.whole,
      length-append c.tokens.invariant.0 c.tokens.rest.now,
      length-append c.tokens.invariant.0 c.split_at.result.0.now,
      c.requires,
    ))).0

pub behind-place-requires-clause-column_fits : goal.behind-place-requires-clause-column_fits
behind-place-requires-clause-column_fits c =
    let start = place_along c.behind-start.result c.tokens.invariant.0 c.as_bytes-in-tokens.result.now c.split_at.result.0.now c.as_bytes-in-tokens.ensures.value (c.behind-start.ensures c.tokens.invariant.0 c.tokens.invariant.2) in
    (place_fits c.behind-start.result (c.tokens.invariant.0 ++ c.split_at.result.0.now) (length c.as_bytes-in-Token.result.now) start
    (omega (
      arith,
      c.as_bytes-in-Token.ensures.len,
      c.split_at-in-Token.ensures.front_len,
      c.split_at-in-Token.ensures.back_len,
      c.split_at.ensures.front_len,
      c.split_at.ensures.back_len,
      ap length c.tokens.invariant.1.whole,
      length-append c.tokens.invariant.0 c.tokens.rest.now,
      length-append c.tokens.invariant.0 c.split_at.result.0.now,
      c.requires,
    ))).1

pub tokens-smaller : goal.tokens-smaller
tokens-smaller c =
    let rest = c.tokens.rest.now in
    let trivia = c.split_at.result.0.now in
    let behind = c.split_at.result.1.now in
    let before = c.tokens.invariant.0 in
    let split = split_off c.trivia_len.result c.tokens.rest.now c.as_bytes.result.now c.split_at.result.0.now c.split_at.result.1.now c.as_bytes.ensures.value c.trivia_len.ensures.trivia c.trivia_len.ensures.behind c.split_at.ensures.front c.split_at.ensures.back in
    let lexed = subst (λ (x : List ℕ). Lexed c.args.text.now c.tokens.invariant.0 x (map leaf_of c.tokens.tokens.items)) split.whole c.tokens.invariant.1 in
    let st = stood (Token c.in-Token.kind c.in-Token.len) c.as_bytes-in-tokens-2.result.now c.split_at.result.1.now c.as_bytes-in-tokens-2.ensures.value c.in-Token.ensures in
    let cut = token_cut c.in-Token.kind c.in-Token.len c.as_bytes-in-tokens-2.result.now c.split_at.result.1.now split.none st c.as_bytes-in-tokens-2.ensures.value c.as_bytes-in-tokens-2.ensures.utf8 in
    omega (arith, cut.some, c.split_at-in-Token.ensures.back_len, c.split_at.ensures.back_len)

pub tokens-preserved : goal.tokens-preserved
tokens-preserved c =
    let rest = c.tokens.rest.now in
    let trivia = c.split_at.result.0.now in
    let behind = c.split_at.result.1.now in
    let before = c.tokens.invariant.0 in
    let split = split_off c.trivia_len.result c.tokens.rest.now c.as_bytes.result.now c.split_at.result.0.now c.split_at.result.1.now c.as_bytes.ensures.value c.trivia_len.ensures.trivia c.trivia_len.ensures.behind c.split_at.ensures.front c.split_at.ensures.back in
    let lexed = subst (λ (x : List ℕ). Lexed c.args.text.now c.tokens.invariant.0 x (map leaf_of c.tokens.tokens.items)) split.whole c.tokens.invariant.1 in
    let st = stood (Token c.in-Token.kind c.in-Token.len) c.as_bytes-in-tokens-2.result.now c.split_at.result.1.now c.as_bytes-in-tokens-2.ensures.value c.in-Token.ensures in
    let cut = token_cut c.in-Token.kind c.in-Token.len c.as_bytes-in-tokens-2.result.now c.split_at.result.1.now split.none st c.as_bytes-in-tokens-2.ensures.value c.as_bytes-in-tokens-2.ensures.utf8 in
    let start = place_along c.behind-start.result c.tokens.invariant.0 c.as_bytes-in-tokens.result.now c.split_at.result.0.now c.as_bytes-in-tokens.ensures.value (c.behind-start.ensures c.tokens.invariant.0 c.tokens.invariant.2) in
    let items : List TokenOf = c.tokens.tokens.items in
    let same_len : vec_len c.tokens.tokens ≡ length (map leaf_of items) = omega (arith, length-map items leaf_of, c.tokens.tokens.ok.0) in
    let first : c.is_first_on_line-first_on_line.result ≡ (eqb (length (map leaf_of items)) 0 || ltb c.tokens.place.line c.behind-start.result.line) =
    c.is_first_on_line-first_on_line.ensures ∙ ap (λ (b : Bool). b || ltb c.tokens.place.line c.behind-start.result.line) (c.is_empty.ensures ∙ ap (λ (n : ℕ). eqb n 0) same_len) in
    let step = lexed_step c.args.text.now before trivia behind c.split_at-in-Token.result.0.now c.split_at-in-Token.result.1.now c.in-Token.kind c.in-Token.len (map leaf_of items) c.is_first_on_line-first_on_line.result c.tokens.place c.behind-start.result
    lexed split.trivia_is split.none st c.split_at-in-Token.ensures.front c.split_at-in-Token.ensures.back c.tokens.invariant.2 start first in (
      before ++ (trivia ++ c.split_at-in-Token.result.0.now),
      subst (λ (x : List Leaf). Lexed c.args.text.now (c.tokens.invariant.0 ++ (c.split_at.result.0.now ++ c.split_at-in-Token.result.0.now)) c.split_at-in-Token.result.1.now x) (pushed items c.push.new.self.items _ c.in_ok-push-in-Token.ensures.items) step,
      place_joined c.behind-place.result before trivia c.as_bytes-in-Token.result.now c.split_at-in-Token.result.0.now c.as_bytes-in-Token.ensures.value (c.behind-place.ensures (before ++ trivia) start),
      after_utf8 c.in-Token.len c.as_bytes-in-tokens-2.result.now c.split_at.result.1.now c.split_at-in-Token.result.1.now cut c.as_bytes-in-tokens-2.ensures.value c.as_bytes-in-tokens-2.ensures.utf8 c.split_at-in-Token.ensures.back,
    )
