-- Each token, fault and end that stands first is found, and no blank or comment stands there.
use Rattle.std.proofs.Common.{◌≡◌, ℕ, ◌+◌, ◌<◌, true, false, ◌&&◌, ◌||◌, not, Option, Some, None, List, [], ◌∷◌, ◌++◌, length, take, drop, leb, eqb, sym, ap, ◌∙◌, refl, arith, ⊎_elim, subst}
use Rattle.std.specs.List.{list_all}
use Rattle.std.proofs.lemmas.Bool.{and_parts, and_from, or_cases, or_parts, or_left, or_right, or_from, false≢true, eqb-true, cond-true, cond-false, not-true, false_from_ne_true, lt-leb}
use Rattle.std.proofs.lemmas.List.{take_at, append_assoc, take-append-drop}
use Rattle.swift_ast.specs.declared.TokenKind.{TokenKind}
use Rattle.swift_ast.specs.declared.TokenKind.TheVariants.{Integer, Mark}
use Rattle.swift_token.specs.declared.faults.LexWhat.{LexWhat}
use Rattle.swift_token.specs.declared.faults.LexWhat.TheVariants.{BadCharacter, BadNumber, WideNumber, OpenString, BadEscape, OpenComment}
use Rattle.swift_token.specs.declared.next_lexeme.NextLexeme.TheVariants.{End, Token, Fault}
use Rattle.swift_token.specs.Texts.{is_blank, is_digit, is_letter, is_escape, breaks_string, begins_word, is_word_byte, is_number, number_value, is_among, marks, long_marks, short_marks}
use Rattle.swift_token.specs.Spelling.{begins_by, IsTokenIn, begins_comment}
use Rattle.swift_token.specs.Trivia.{BeginsWith, NoTriviaPiece, is_trivia_piece, is_last_line, ends_line, closes_comment}
use Rattle.swift_token.specs.Faults.{closes_string, is_string_part, FaultAt}
use Rattle.swift_token.specs.Scans.{string_end, bad_escape}
use Rattle.swift_token.specs.NextLexeme.{is_number_byte, closed_lexeme, ended_lexeme, mark_lexeme, comment_lexeme, next_lexeme}
use Rattle.swift_token.proofs.Words.{token_begins, word_not_digit, word_no_blank}
use Rattle.swift_token.proofs.Longest.{no_comment_at}
use Rattle.swift_token.proofs.Scanned.{string_ends, string_through}
use Rattle.swift_token.proofs.Escapes.{bad_found, closed_over}
use Rattle.swift_token.proofs.NextLexemeLemmas.{no_word_no_number, other_way, among_long, among_short, number_cut, number_way, number_at}

-- a blank or a comment begins as one
piece_begins : (p rest : List ℕ) → is_trivia_piece p ≡ true → (begins_by is_blank (p ++ rest) || begins_comment (p ++ rest)) ≡ true
piece_begins [] rest h = absurd (false≢true h)
piece_begins (c ∷ []) rest h = or_left (is_blank c) (begins_comment (c ∷ rest)) h
piece_begins (c ∷ d ∷ cs) rest h =
    let both = and_parts (eqb c 47) ((eqb d 47 && ends_line cs) || (eqb d 42 && closes_comment 1 0 cs)) h in
    or_right (is_blank c) (eqb c 47 && (eqb d 47 || eqb d 42))
    (and_from (eqb c 47) (eqb d 47 || eqb d 42) both.0
    (⊎_elim (λ (e : (eqb d 47 && ends_line cs) ≡ true). or_left (eqb d 47) (eqb d 42) (and_parts (eqb d 47) (ends_line cs) e).0)
    (λ (e : (eqb d 42 && closes_comment 1 0 cs) ≡ true). or_right (eqb d 47) (eqb d 42) (and_parts (eqb d 42) (closes_comment 1 0 cs) e).0)
    (or_cases (eqb d 47 && ends_line cs) (eqb d 42 && closes_comment 1 0 cs) both.1)))

pub no_piece_by : (bs : List ℕ) → begins_by is_blank bs ≡ false → begins_comment bs ≡ false → NoTriviaPiece bs
no_piece_by bs blank comment b =
    false≢true (sym (or_from (begins_by is_blank bs) (begins_comment bs) blank comment) ∙ ap (λ (x : List ℕ). begins_by is_blank x || begins_comment x) b.2 ∙ piece_begins b.0 b.1 b.3)

pub token_no_piece : (kind : TokenKind) (t after : List ℕ) → IsTokenIn kind t after → NoTriviaPiece (t ++ after)
token_no_piece kind t after h = no_piece_by (t ++ after) (token_begins kind t after h.spelled) h.no_comment

-- the rest of a line has a line feed
line_feeds : (cs rest : List ℕ) → ends_line cs ≡ true → list_all (λ (e : ℕ). not (eqb e 10)) (cs ++ rest) ≡ true → ⊥
line_feeds [] rest h all = false≢true h
line_feeds (c ∷ cs) rest h all =
    let both = and_parts (not (eqb c 10)) (list_all (λ (e : ℕ). not (eqb e 10)) (cs ++ rest)) all in
    line_feeds cs rest (sym (cond-false (eqb c 10) (eqb (length cs) 0) (ends_line cs) (not-true (eqb c 10) both.0)) ∙ h) both.1

pair_piece : (p rest : List ℕ) (d : ℕ) (ds : List ℕ) → is_trivia_piece p ≡ true → 47 ∷ d ∷ ds ≡ p ++ rest → (cs : List ℕ) × (ds ≡ cs ++ rest) × (((eqb d 47 && ends_line cs) || (eqb d 42 && closes_comment 1 0 cs)) ≡ true)
pair_piece [] rest d ds h e = absurd (false≢true h)
pair_piece (c ∷ []) rest d ds h e = let same : 47 ≡ c = cc in absurd (false≢true (ap is_blank same ∙ h))
pair_piece (c ∷ f ∷ cs) rest d ds h e =
    let second : f ≡ d = cc in
    let tail : ds ≡ cs ++ rest = cc in
    (cs, tail, subst (λ (x : ℕ). ((eqb x 47 && ends_line cs) || (eqb x 42 && closes_comment 1 0 cs)) ≡ true) second (and_parts (eqb c 47) ((eqb f 47 && ends_line cs) || (eqb f 42 && closes_comment 1 0 cs)) h).1)

line_no_piece : (ds : List ℕ) → list_all (λ (e : ℕ). not (eqb e 10)) ds ≡ true → NoTriviaPiece (47 ∷ 47 ∷ ds)
line_no_piece ds all b =
    let p = pair_piece b.0 b.1 47 ds b.3 b.2 in
    let ends : ends_line p.0 ≡ true = ⊎_elim (λ (e : ends_line p.0 ≡ true). e) (λ (e : false ≡ true). absurd (false≢true e)) (or_cases (ends_line p.0) false p.2) in
    line_feeds p.0 b.1 ends (ap (list_all (λ (e : ℕ). not (eqb e 10))) (sym p.1) ∙ all)

open_no_piece : (ds : List ℕ) → (BeginsWith (closes_comment 1 0) ds → ⊥) → NoTriviaPiece (47 ∷ 42 ∷ ds)
open_no_piece ds none b = let p = pair_piece b.0 b.1 42 ds b.3 b.2 in none (p.0, b.1, p.1, p.2)

-- the two bytes of a last line
last_pair : (c d : ℕ) (ds : List ℕ) → is_last_line (c ∷ d ∷ ds) ≡ true → (47 ∷ 47 ∷ ds ≡ c ∷ d ∷ ds) × (list_all (λ (e : ℕ). not (eqb e 10)) ds ≡ true)
last_pair c d ds h =
    let outer = and_parts (eqb c 47 && eqb d 47) (list_all (λ (e : ℕ). not (eqb e 10)) ds) h in
    let inner = and_parts (eqb c 47) (eqb d 47) outer.0 in
    let first : 47 ≡ c = sym (eqb-true c 47 inner.0) in
    let second : 47 ≡ d = sym (eqb-true d 47 inner.1) in
    (ap (λ (x : ℕ). x ∷ 47 ∷ ds) first ∙ ap (λ (x : ℕ). c ∷ x ∷ ds) second, outer.1)

nothing_begins : (p rest : List ℕ) → [] ≡ p ++ rest → is_trivia_piece p ≡ true → ⊥
nothing_begins [] rest e h = false≢true h
nothing_begins (c ∷ cs) rest e h = cc

digit_blank : (c : ℕ) → is_digit c ≡ true → is_blank c ≡ true → ⊥
digit_blank c d b = false≢true (sym (word_no_blank c (or_right (begins_word c) (is_digit c) d)) ∙ b)

pub last_no_piece : (bs : List ℕ) → is_last_line bs ≡ true → NoTriviaPiece bs
last_no_piece [] h b = nothing_begins b.0 b.1 b.2 b.3
last_no_piece (c ∷ []) h b = absurd (false≢true h)
last_no_piece (c ∷ d ∷ ds) h b = let p = last_pair c d ds h in subst (λ (x : List ℕ). NoTriviaPiece x) p.0 (line_no_piece ds p.1) b

pub last_stands : (bs : List ℕ) → is_last_line bs ≡ true → next_lexeme bs ≡ End
last_stands [] h = refl
last_stands (c ∷ []) h = absurd (false≢true h)
last_stands (c ∷ d ∷ ds) h = ap next_lexeme (sym (last_pair c d ds h).0)

-- a number's first byte
number_no_piece : (n rest : List ℕ) → is_number n ≡ true → NoTriviaPiece (n ++ rest)
number_no_piece [] rest h = absurd (false≢true h)
number_no_piece (c ∷ cs) rest h =
    let digit = (and_parts (is_digit c) (list_all is_number_byte cs) h).0 in
    no_piece_by (c ∷ (cs ++ rest))
    (false_from_ne_true (is_blank c) (λ e. digit_blank c digit e))
    (no_comment_at c (cs ++ rest) (false_from_ne_true (eqb c 47) (λ e. false≢true (sym (ap is_digit (eqb-true c 47 e)) ∙ digit))))

letter_no_number : (c : ℕ) → is_letter c ≡ true → is_number_byte c ≡ false
letter_no_number c l =
    or_from (is_digit c) (eqb c 95) (false_from_ne_true (is_digit c) (word_not_digit c (or_left (is_letter c) (eqb c 95) l)))
    (false_from_ne_true (eqb c 95) (λ e. false≢true (sym (ap is_letter (eqb-true c 95 e)) ∙ l)))

quote_no_piece : (cs : List ℕ) → NoTriviaPiece (34 ∷ cs)
quote_no_piece cs = no_piece_by (34 ∷ cs) refl (no_comment_at 34 cs refl)

-- What a fault says of the text that it stands in.
pub record Faulty (what : LexWhat) (front after : List ℕ) : Type 0 where
  pub found : next_lexeme (front ++ after) ≡ Fault what (length front)
  pub no_piece : NoTriviaPiece (front ++ after)

faulty_character : (c : ℕ) (cs : List ℕ) → (is_blank c || is_word_byte c || eqb c 34) ≡ false → (BeginsWith (is_among marks) (c ∷ cs) → ⊥) → Faulty BadCharacter [] (c ∷ cs)
faulty_character c cs other none =
    let outer = or_parts (is_blank c || is_word_byte c) (eqb c 34) other in
    let inner = or_parts (is_blank c) (is_word_byte c) outer.0 in
    let no_comment : begins_comment (c ∷ cs) ≡ false = no_comment_at c cs (false_from_ne_true (eqb c 47) (λ e. none (c ∷ [], cs, refl, ap (λ (x : ℕ). is_among marks (x ∷ [])) (eqb-true c 47 e)))) in
    let long : is_among long_marks (take 2 (c ∷ cs)) ≡ false =
    false_from_ne_true (is_among long_marks (take 2 (c ∷ cs))) (λ e. none (take 2 (c ∷ cs), drop 2 (c ∷ cs), sym (take-append-drop 2 (c ∷ cs)), among_long (take 2 (c ∷ cs)) e)) in
    let short : is_among short_marks (c ∷ []) ≡ false = false_from_ne_true (is_among short_marks (c ∷ [])) (λ e. none (c ∷ [], cs, refl, among_short (c ∷ []) e)) in
    record {
      found = other_way c cs inner.1 outer.1 ∙ cond-false (begins_comment (c ∷ cs)) (comment_lexeme cs) (mark_lexeme (c ∷ cs)) no_comment
          ∙ cond-false (is_among long_marks (take 2 (c ∷ cs))) (Token Mark 2) _ long ∙ cond-false (is_among short_marks (c ∷ [])) (Token Mark 1) (Fault BadCharacter 0) short;
      no_piece = no_piece_by (c ∷ cs) inner.0 no_comment;
    }

faulty_number : (n : List ℕ) (c : ℕ) (cs : List ℕ) → is_number n ≡ true → is_letter c ≡ true → Faulty BadNumber [] (n ++ (c ∷ cs))
faulty_number n c cs number letter = record {
  found = number_way n (c ∷ cs) number ∙ number_at (n ++ (c ∷ cs)) n (c ∷ cs) (number_cut n (c ∷ cs) number (letter_no_number c letter)) ∙ cond-true (is_letter c) (Fault BadNumber 0) _ letter;
  no_piece = number_no_piece n (c ∷ cs) number;
}

faulty_wide : (n rest : List ℕ) → is_number n ≡ true → begins_by is_word_byte rest ≡ false → 9223372036854775807 < number_value n → Faulty WideNumber [] (n ++ rest)
faulty_wide n rest number stops wide =
    let apart = no_word_no_number rest stops in
    record {
      found = number_way n rest number ∙ number_at (n ++ rest) n rest (number_cut n rest number apart.0) ∙ cond-false (begins_by is_letter rest) (Fault BadNumber 0) _ apart.1
          ∙ cond-false (leb (number_value n) 9223372036854775807) (Token Integer (length n)) (Fault WideNumber 0) (lt-leb (number_value n) 9223372036854775807 wide);
      no_piece = number_no_piece n rest number;
    }

no_string_end : (cs : List ℕ) (found : Option ℕ) → string_end false cs ≡ found → (BeginsWith (closes_string false) cs → ⊥) → found ≡ None
no_string_end cs None h none = refl
no_string_end cs (Some n) h none = absurd (none (take n cs, drop n cs, sym (take-append-drop n cs), (string_through false cs n h).0))

faulty_open : (cs : List ℕ) → (BeginsWith (closes_string false) cs → ⊥) → Faulty OpenString [] (34 ∷ cs)
faulty_open cs none = record { found = ap (ended_lexeme cs) (no_string_end cs (string_end false cs) refl none); no_piece = quote_no_piece cs }

faulty_escape : (good : List ℕ) (d : ℕ) (f r : List ℕ) → is_string_part false good ≡ true → (is_escape d || breaks_string d) ≡ false → closes_string false f ≡ true → Faulty BadEscape (34 ∷ good) (92 ∷ d ∷ (f ++ r))
faulty_escape good d f r part bad closed =
    let both = or_parts (is_escape d) (breaks_string d) bad in
    let whole : good ++ (92 ∷ d ∷ (f ++ r)) ≡ (good ++ (92 ∷ d ∷ f)) ++ r = sym (append_assoc good (92 ∷ d ∷ f) r) in
    let over : closes_string false (good ++ (92 ∷ d ∷ f)) ≡ true = closed_over false good d f part both.1 closed in
    let ends : string_end false (good ++ (92 ∷ d ∷ (f ++ r))) ≡ Some (length (good ++ (92 ∷ d ∷ f))) = ap (string_end false) whole ∙ string_ends false (good ++ (92 ∷ d ∷ f)) r over in
    let front : take (length (good ++ (92 ∷ d ∷ f))) (good ++ (92 ∷ d ∷ (f ++ r))) ≡ good ++ (92 ∷ d ∷ f) =
    ap (take (length (good ++ (92 ∷ d ∷ f)))) whole ∙ take_at (good ++ (92 ∷ d ∷ f)) r (length (good ++ (92 ∷ d ∷ f))) refl in
    let at : bad_escape false (take (length (good ++ (92 ∷ d ∷ f))) (good ++ (92 ∷ d ∷ (f ++ r)))) ≡ Some (length good + 1) = ap (bad_escape false) front ∙ bad_found false good d f part both.0 in
    record {
      found = ap (ended_lexeme (good ++ (92 ∷ d ∷ (f ++ r)))) ends ∙ ap (closed_lexeme (length (good ++ (92 ∷ d ∷ f)))) at ∙ ap (λ (n : ℕ). Fault BadEscape n) (omega arith);
      no_piece = quote_no_piece (good ++ (92 ∷ d ∷ (f ++ r)));
    }

-- Each fault that stands first is found.
pub fault_stands : (what : LexWhat) (front after : List ℕ) → FaultAt what front after → Faulty what front after
fault_stands BadCharacter front after h =
    subst (λ (x : List ℕ). Faulty BadCharacter x after) (sym h.0)
    (subst (λ (x : List ℕ). Faulty BadCharacter [] x) (sym h.1.2) (faulty_character h.1.0 h.1.1 h.1.3 (λ b. h.1.4 (subst (λ (x : List ℕ). BeginsWith (is_among marks) x) (sym h.1.2) b))))
fault_stands BadNumber front after h = subst (λ (x : List ℕ). Faulty BadNumber x after) (sym h.0) (subst (λ (x : List ℕ). Faulty BadNumber [] x) (sym h.1.3) (faulty_number h.1.0 h.1.1 h.1.2 h.1.4 h.1.5))
fault_stands WideNumber front after h = subst (λ (x : List ℕ). Faulty WideNumber x after) (sym h.0) (subst (λ (x : List ℕ). Faulty WideNumber [] x) (sym h.1.2) (faulty_wide h.1.0 h.1.1 h.1.3 h.1.4 h.1.5))
fault_stands OpenString front after h = subst (λ (x : List ℕ). Faulty OpenString x after) (sym h.0) (subst (λ (x : List ℕ). Faulty OpenString [] x) (sym h.1.1) (faulty_open h.1.0 h.1.2))
fault_stands BadEscape front after h =
    let closed = h.7 in
    let cs_is : h.2 ≡ closed.0 ++ closed.1 = closed.2 in
    subst (λ (x : List ℕ). Faulty BadEscape x after) (sym h.3)
    (subst (λ (x : List ℕ). Faulty BadEscape (34 ∷ h.0) x) (ap (λ (x : List ℕ). 92 ∷ h.1 ∷ x) (sym cs_is) ∙ sym h.4) (faulty_escape h.0 h.1 closed.0 closed.1 h.5 h.6 closed.3))
fault_stands OpenComment front after h =
    subst (λ (x : List ℕ). Faulty OpenComment x after) (sym h.0) (subst (λ (x : List ℕ). Faulty OpenComment [] x) (sym h.1.1) (record { found = refl; no_piece = open_no_piece h.1.0 h.1.2 }))
