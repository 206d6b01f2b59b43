-- One turn of the lexer.
use Rattle.std.proofs.Common.{◌≡◌, ℕ, zero, suc, ◌<◌, ◌≤◌, true, List, [], ◌++◌, length, take, drop, sym, ap, ◌∙◌, refl, arith, subst}
use Rattle.std.specs.Str.{IsUtf8, IsCharBoundary}
use Rattle.std.proofs.lemmas.List.{append_assoc, take-append-drop}
use Rattle.std.proofs.lemmas.Str.{IsUtf8-drop}
use Rattle.swift_ast.specs.declared.TokenKind.{TokenKind}
use Rattle.swift_token.specs.declared.faults.LexWhat.{LexWhat}
use Rattle.swift_token.specs.declared.positions.Position.{Position}
use Rattle.swift_token.specs.declared.next_lexeme.NextLexeme.{NextLexeme}
use Rattle.swift_token.specs.declared.next_lexeme.NextLexeme.TheVariants.{Token, Fault}
use Rattle.swift_token.specs.Texts.{is_token_text}
use Rattle.swift_token.specs.Spelling.{line_behind, column_behind}
use Rattle.swift_token.specs.Trivia.{IsTrivia, NoTriviaPiece}
use Rattle.swift_token.specs.Positions.{IsPositionBehind}
use Rattle.swift_token.specs.NextLexeme.{next_lexeme}
use Rattle.swift_token.proofs.Words.{token_some}
use Rattle.swift_token.proofs.Boundaries.{cut_at, token_ascii}
use Rattle.swift_token.proofs.Lexed.{IsAt, standing_within}

-- The trivia that stands first, and what stands behind it.
pub record IsSplit (rest trivia behind : List ℕ) : Type 0 where
  pub whole : rest ≡ trivia ++ behind
  pub trivia_is : IsTrivia trivia
  pub none : NoTriviaPiece behind

pub split_off : (n : ℕ) (rest bs trivia behind : List ℕ) → bs ≡ rest → IsTrivia (take n bs) → NoTriviaPiece (drop n bs) → trivia ≡ take n rest → behind ≡ drop n rest → IsSplit rest trivia behind
split_off n rest bs trivia behind same g none front back = record {
  whole = sym (take-append-drop n rest) ∙ ap (λ (x : List ℕ). x ++ drop n rest) (sym front) ∙ ap (λ (x : List ℕ). trivia ++ x) (sym back);
  trivia_is = subst (λ (x : List ℕ). IsTrivia x) (ap (take n) same ∙ sym front) g;
  none = subst (λ (x : List ℕ). NoTriviaPiece x) (ap (drop n) same ∙ sym back) none;
}

pub stood : (found : NextLexeme) (bs behind : List ℕ) → bs ≡ behind → found ≡ next_lexeme bs → next_lexeme behind ≡ found
stood found bs behind same h = ap next_lexeme (sym same) ∙ sym h

pub place_along : (p : Position) (before bs trivia : List ℕ) → bs ≡ trivia → IsPositionBehind p (before ++ bs) → IsPositionBehind p (before ++ trivia)
place_along p before bs trivia same h = subst (λ (x : List ℕ). IsPositionBehind p (before ++ x)) same h

pub fault_at : (p : Position) (what : LexWhat) (before trivia behind bs front : List ℕ) (n : ℕ) → next_lexeme behind ≡ Fault what n → bs ≡ behind → front ≡ take n bs → IsPositionBehind p ((before ++ trivia) ++ front)
    → IsAt (record { line = p.line; column = p.column; what = what }) before trivia behind n
fault_at p what before trivia behind bs front n st same is at =
    let joined : (before ++ trivia) ++ front ≡ before ++ (trivia ++ take n behind) = append_assoc before trivia front ∙ ap (λ (x : List ℕ). before ++ (trivia ++ x)) (is ∙ ap (take n) same) in
    record { found = st; line = at.line ∙ ap line_behind joined; column = at.column ∙ ap column_behind joined }

token_len : (kind : TokenKind) (n : ℕ) (behind : List ℕ) → is_token_text kind (take n behind) ≡ true → 0 < n
token_len kind zero behind h = absurd (token_some kind [] h refl)
token_len kind (suc n) behind h = omega arith

-- The bytes of a token that stands first.
pub record IsCutBehind (behind : List ℕ) (n : ℕ) : Type 0 where
  pub some : 0 < n
  pub within : n ≤ length behind
  pub boundary : IsCharBoundary behind n

pub token_cut : (kind : TokenKind) (n : ℕ) (bs behind : List ℕ) → NoTriviaPiece behind → next_lexeme behind ≡ Token kind n → bs ≡ behind → IsUtf8 bs → IsCutBehind behind n
token_cut kind n bs behind none st same u =
    let within = standing_within behind kind n none st in
    record { some = token_len kind n behind within.1; within = within.0; boundary = cut_at n behind within.0 (subst (λ (x : List ℕ). IsUtf8 x) same u) (token_ascii kind (take n behind) within.1) }

pub place_joined : (p : Position) (before trivia bs t : List ℕ) → bs ≡ t → IsPositionBehind p ((before ++ trivia) ++ bs) → IsPositionBehind p (before ++ (trivia ++ t))
place_joined p before trivia bs t same h = subst (λ (x : List ℕ). IsPositionBehind p x) (append_assoc before trivia bs ∙ ap (λ (x : List ℕ). before ++ (trivia ++ x)) same) h

pub after_utf8 : (n : ℕ) (bs behind after : List ℕ) → IsCutBehind behind n → bs ≡ behind → IsUtf8 bs → after ≡ drop n behind → IsUtf8 after
after_utf8 n bs behind after cut same u back = subst (λ (x : List ℕ). IsUtf8 x) (sym back) (IsUtf8-drop behind n (subst (λ (x : List ℕ). IsUtf8 x) same u) cut.boundary)
