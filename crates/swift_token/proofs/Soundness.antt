-- What the lexer says of the front of a text is so.
use Rattle.std.proofs.Common.{◌≡◌, ℕ, suc, ◌+◌, ◌≤◌, Bool, true, false, ◌||◌, not, Option, Some, None, List, [], ◌∷◌, ◌++◌, length, take, drop, leb, eqb, sym, ap, ◌∙◌, refl, arith, ⊎_elim, ◌⊎◌, inl, inr, subst}
use Rattle.std.specs.List.{list_all, prefix_len}
use Rattle.std.proofs.lemmas.Bool.{and_parts, and_from, or_cases, or_parts, or_left, or_from, cases_Bool, false≢true, true≢false, eqb-true, leb-true, leb-false, cond-true, cond-false, not_from_false, false_from_ne_true}
use Rattle.std.proofs.lemmas.List.{take_at, drop_at, append-nil, append_assoc, take-append-drop, nil_from_length, length-append, length-take}
use Rattle.std.proofs.lemmas.List.Sums.{prefix_len-le-length}
use Rattle.swift_ast.specs.declared.TokenKind.{TokenKind}
use Rattle.swift_ast.specs.declared.TokenKind.TheVariants.{Identifier, Keyword, Integer, StringText, Mark}
use Rattle.swift_token.specs.declared.faults.LexWhat.TheVariants.{BadCharacter, BadNumber, WideNumber, BadEscape, OpenComment}
use Rattle.swift_token.specs.declared.next_lexeme.NextLexeme.{NextLexeme}
use Rattle.swift_token.specs.declared.next_lexeme.NextLexeme.TheVariants.{End, Token, Fault}
use Rattle.swift_token.specs.Texts.{is_blank, is_digit, is_letter, begins_word, is_word_byte, is_word, is_keyword, is_number, number_value, ends_string, is_token_text, is_among, marks, long_marks, short_marks}
use Rattle.swift_token.specs.Spelling.{begins_by, IsLongest, IsTokenIn, begins_comment}
use Rattle.swift_token.specs.Trivia.{BeginsWith, NoTriviaPiece, is_last_line, ends_line}
use Rattle.swift_token.specs.Faults.{closes_string, FaultAt}
use Rattle.swift_token.specs.Scans.{string_end, bad_escape}
use Rattle.swift_token.specs.NextLexeme.{is_number_byte, number_len, number_lexeme, word_lexeme, closed_lexeme, ended_lexeme, mark_lexeme, comment_lexeme, next_lexeme}
use Rattle.swift_token.proofs.Fronts.{front_passes, front_stops, among_passes}
use Rattle.swift_token.proofs.Words.{keyword_is_word, word_bytes, number_bytes, token_some}
use Rattle.swift_token.proofs.Longest.{longest_word, no_comment_at}
use Rattle.swift_token.proofs.Scanned.{string_ends, string_through, Through}
use Rattle.swift_token.proofs.Escapes.{strict_closes, strict_from, bad_in}
use Rattle.swift_token.proofs.NextLexemeLemmas.{digit_way, word_way, other_way, two_long, one_long, among_long, among_short, among_split, mark_first}

abbrev pub IsStanding : NextLexeme → List ℕ → Type 0
IsStanding End bs = is_last_line bs ≡ true
IsStanding (Token kind n) bs = (n ≤ length bs) × IsTokenIn kind (take n bs) (drop n bs)
IsStanding (Fault what n) bs = (n ≤ length bs) × FaultAt what (take n bs) (drop n bs)

-- the cut at the end of a front whose bytes pass
cut_whole : (p : ℕ → Bool) (bs : List ℕ) → bs ≡ take (prefix_len p bs) bs ++ drop (prefix_len p bs) bs
cut_whole p bs = sym (take-append-drop (prefix_len p bs) bs)

-- numbers
number_front : (c : ℕ) (cs front back : List ℕ) → c ∷ cs ≡ front ++ back → is_digit c ≡ true → list_all is_number_byte front ≡ true → begins_by is_number_byte back ≡ false → is_number front ≡ true
number_front c cs [] [] e d all stops = absurd (cc)
number_front c cs [] (b ∷ bs) e d all stops =
    let same : c ≡ b = cc in
    absurd (false≢true (sym stops ∙ or_left (is_digit b) (eqb b 95) (ap is_digit (sym same) ∙ d)))
number_front c cs (f ∷ fs) back e d all stops =
    let same : c ≡ f = cc in
    and_from (is_digit f) (list_all is_number_byte fs) (ap is_digit (sym same) ∙ d) (and_parts (is_number_byte f) (list_all is_number_byte fs) all).1

number_letter : (bs front back : List ℕ) → bs ≡ front ++ back → is_number front ≡ true → begins_by is_letter back ≡ true → FaultAt BadNumber [] bs
number_letter bs front [] e n l = absurd (false≢true l)
number_letter bs front (c ∷ cs) e n l = (refl, (front, c, cs, e, n, l))

number_apart : (back : List ℕ) → begins_by is_number_byte back ≡ false → begins_by is_letter back ≡ false → begins_by is_word_byte back ≡ false
number_apart [] n l = refl
number_apart (c ∷ cs) n l = let both = or_parts (is_digit c) (eqb c 95) n in or_from (begins_word c) (is_digit c) (or_from (is_letter c) (eqb c 95) l both.1) both.0

first_no_comment : (c : ℕ) (cs front back : List ℕ) → c ∷ cs ≡ front ++ back → eqb c 47 ≡ false → begins_comment (front ++ back) ≡ false
first_no_comment c cs front back e h = ap begins_comment (sym e) ∙ no_comment_at c cs h

digit_no_slash : (c : ℕ) → is_digit c ≡ true → eqb c 47 ≡ false
digit_no_slash c d = false_from_ne_true (eqb c 47) (λ e. false≢true (sym (ap is_digit (eqb-true c 47 e)) ∙ d))

word_no_slash : (c : ℕ) → begins_word c ≡ true → eqb c 47 ≡ false
word_no_slash c w = false_from_ne_true (eqb c 47) (λ e. false≢true (sym (ap begins_word (eqb-true c 47 e)) ∙ w))

number_token : (c : ℕ) (cs front back : List ℕ) → c ∷ cs ≡ front ++ back → is_digit c ≡ true → is_number front ≡ true → begins_by is_word_byte back ≡ false → leb (number_value front) 9223372036854775807 ≡ true → IsTokenIn Integer front back
number_token c cs front back e d n stops narrow = record {
  spelled = and_from (is_number front) (leb (number_value front) 9223372036854775807) n narrow;
  longest = longest_word front back (number_bytes front n) (λ none. false≢true (sym (ap is_number none) ∙ n)) stops;
  number_ends = λ _. stops;
  no_comment = first_no_comment c cs front back e (digit_no_slash c d);
}

number_sound : (c : ℕ) (cs : List ℕ) → is_digit c ≡ true → IsStanding (number_lexeme (c ∷ cs)) (c ∷ cs)
number_sound c cs d =
    let n = number_len (c ∷ cs) in
    let front = take (number_len (c ∷ cs)) (c ∷ cs) in
    let back = drop (number_len (c ∷ cs)) (c ∷ cs) in
    let whole : c ∷ cs ≡ take (number_len (c ∷ cs)) (c ∷ cs) ++ drop (number_len (c ∷ cs)) (c ∷ cs) = cut_whole is_number_byte (c ∷ cs) in
    let stops : begins_by is_number_byte (drop (number_len (c ∷ cs)) (c ∷ cs)) ≡ false = front_stops is_number_byte (c ∷ cs) in
    let number : is_number (take (number_len (c ∷ cs)) (c ∷ cs)) ≡ true = number_front c cs front back whole d (front_passes is_number_byte (c ∷ cs)) stops in
    ⊎_elim (λ (l : begins_by is_letter (drop (number_len (c ∷ cs)) (c ∷ cs)) ≡ true).
    subst (λ (s : NextLexeme). IsStanding s (c ∷ cs)) (sym (cond-true (begins_by is_letter (drop (number_len (c ∷ cs)) (c ∷ cs))) (Fault BadNumber 0) _ l)) (omega arith, number_letter (c ∷ cs) front back whole number l))
    (λ (l : begins_by is_letter (drop (number_len (c ∷ cs)) (c ∷ cs)) ≡ false).
    let apart = number_apart back stops l in
    subst (λ (s : NextLexeme). IsStanding s (c ∷ cs)) (sym (cond-false (begins_by is_letter (drop (number_len (c ∷ cs)) (c ∷ cs))) (Fault BadNumber 0) _ l))
    (⊎_elim (λ (v : leb (number_value (take (number_len (c ∷ cs)) (c ∷ cs))) 9223372036854775807 ≡ true).
    subst (λ (s : NextLexeme). IsStanding s (c ∷ cs)) (sym (cond-true (leb (number_value (take (number_len (c ∷ cs)) (c ∷ cs))) 9223372036854775807) (Token Integer n) (Fault WideNumber 0) v))
    (prefix_len-le-length is_number_byte (c ∷ cs), number_token c cs front back whole d number apart v))
    (λ (v : leb (number_value (take (number_len (c ∷ cs)) (c ∷ cs))) 9223372036854775807 ≡ false).
    subst (λ (s : NextLexeme). IsStanding s (c ∷ cs)) (sym (cond-false (leb (number_value (take (number_len (c ∷ cs)) (c ∷ cs))) 9223372036854775807) (Token Integer n) (Fault WideNumber 0) v))
    (omega arith, (refl, (front, back, whole, number, apart, leb-false (number_value (take (number_len (c ∷ cs)) (c ∷ cs))) 9223372036854775807 v))))
    (cases_Bool (leb (number_value (take (number_len (c ∷ cs)) (c ∷ cs))) 9223372036854775807))))
    (cases_Bool (begins_by is_letter (drop (number_len (c ∷ cs)) (c ∷ cs))))

-- words
word_front : (c : ℕ) (cs front back : List ℕ) → c ∷ cs ≡ front ++ back → begins_word c ≡ true → list_all is_word_byte front ≡ true → begins_by is_word_byte back ≡ false → is_word front ≡ true
word_front c cs [] [] e d all stops = absurd (cc)
word_front c cs [] (b ∷ bs) e d all stops =
    let same : c ≡ b = cc in
    absurd (false≢true (sym stops ∙ or_left (begins_word b) (is_digit b) (ap begins_word (sym same) ∙ d)))
word_front c cs (f ∷ fs) back e d all stops =
    let same : c ≡ f = cc in
    and_from (begins_word f) (list_all is_word_byte fs) (ap begins_word (sym same) ∙ d) (and_parts (is_word_byte f) (list_all is_word_byte fs) all).1

word_token_in : (kind : TokenKind) (c : ℕ) (cs front back : List ℕ) → c ∷ cs ≡ front ++ back → begins_word c ≡ true → is_word front ≡ true → begins_by is_word_byte back ≡ false → is_token_text kind front ≡ true → IsTokenIn kind front back
word_token_in kind c cs front back e w word stops spelled = record {
  spelled = spelled;
  longest = longest_word front back (word_bytes front word) (token_some kind front spelled) stops;
  number_ends = λ _. stops;
  no_comment = first_no_comment c cs front back e (word_no_slash c w);
}

word_sound : (c : ℕ) (cs : List ℕ) → begins_word c ≡ true → IsStanding (word_lexeme (c ∷ cs)) (c ∷ cs)
word_sound c cs w =
    let front = take (prefix_len is_word_byte (c ∷ cs)) (c ∷ cs) in
    let back = drop (prefix_len is_word_byte (c ∷ cs)) (c ∷ cs) in
    let whole : c ∷ cs ≡ take (prefix_len is_word_byte (c ∷ cs)) (c ∷ cs) ++ drop (prefix_len is_word_byte (c ∷ cs)) (c ∷ cs) = cut_whole is_word_byte (c ∷ cs) in
    let stops : begins_by is_word_byte (drop (prefix_len is_word_byte (c ∷ cs)) (c ∷ cs)) ≡ false = front_stops is_word_byte (c ∷ cs) in
    let word : is_word (take (prefix_len is_word_byte (c ∷ cs)) (c ∷ cs)) ≡ true = word_front c cs front back whole w (front_passes is_word_byte (c ∷ cs)) stops in
    let by : TokenKind → Type 0 = λ k. IsStanding (Token k (prefix_len is_word_byte (c ∷ cs))) (c ∷ cs) in
    ⊎_elim (λ (k : is_keyword (take (prefix_len is_word_byte (c ∷ cs)) (c ∷ cs)) ≡ true).
    subst by (sym (cond-true (is_keyword (take (prefix_len is_word_byte (c ∷ cs)) (c ∷ cs))) Keyword Identifier k)) (prefix_len-le-length is_word_byte (c ∷ cs), word_token_in Keyword c cs front back whole w word stops k))
    (λ (k : is_keyword (take (prefix_len is_word_byte (c ∷ cs)) (c ∷ cs)) ≡ false).
    subst by (sym (cond-false (is_keyword (take (prefix_len is_word_byte (c ∷ cs)) (c ∷ cs))) Keyword Identifier k)) (
      prefix_len-le-length is_word_byte (c ∷ cs),
      word_token_in Identifier c cs front back whole w word stops
          (and_from (is_word (take (prefix_len is_word_byte (c ∷ cs)) (c ∷ cs))) (not (is_keyword (take (prefix_len is_word_byte (c ∷ cs)) (c ∷ cs)))) word (not_from_false (is_keyword (take (prefix_len is_word_byte (c ∷ cs)) (c ∷ cs))) k)),
    ))
    (cases_Bool (is_keyword (take (prefix_len is_word_byte (c ∷ cs)) (c ∷ cs))))

-- strings
one_end : (t more : List ℕ) → closes_string false t ≡ true → closes_string false (t ++ more) ≡ true → more ≡ []
one_end t more a b =
    let first : string_end false (t ++ more) ≡ Some (length t) = string_ends false t more a in
    let second : string_end false ((t ++ more) ++ []) ≡ Some (length (t ++ more)) = string_ends false (t ++ more) [] b in
    let same : Some (length t) ≡ Some (length (t ++ more)) = sym first ∙ sym (ap (string_end false) (append-nil (t ++ more))) ∙ second in
    let len : length t ≡ length (t ++ more) = cc in
    nil_from_length more (omega (arith, len, length-append t more))

longest_string : (t after : List ℕ) → ends_string false t ≡ true → IsLongest (34 ∷ t) after
longest_string t after h Identifier more rest e s = absurd (false≢true s)
longest_string t after h Keyword more rest e s = absurd (false≢true (keyword_is_word (34 ∷ (t ++ more)) s))
longest_string t after h Integer more rest e s = absurd (false≢true s)
longest_string t after h StringText more rest e s = one_end t more (strict_closes false t h) (strict_closes false (t ++ more) s)
longest_string t after h Mark more rest e s = absurd (true≢false (mark_first 34 (t ++ more) s).1)

string_token : (t after : List ℕ) → ends_string false t ≡ true → IsTokenIn StringText (34 ∷ t) after
string_token t after h = record { spelled = h; longest = longest_string t after h; number_ends = λ e. absurd (cc); no_comment = no_comment_at 34 (t ++ after) refl }

closed_sound : (cs : List ℕ) (n : ℕ) (found : Option ℕ) → Through (closes_string false) n cs → bad_escape false (take n cs) ≡ found → IsStanding (closed_lexeme n found) (34 ∷ cs)
closed_sound cs n None through none =
    let next : suc n ≡ n + 1 = omega arith in
    subst (λ (k : ℕ). IsStanding (Token StringText k) (34 ∷ cs)) next (omega (arith, through.1), string_token (take n cs) (drop n cs) (strict_from false (take n cs) through.0 none))
closed_sound cs n (Some k) through some =
    let b = bad_in false (take n cs) k through.0 some in
    let at : suc (length b.good) ≡ k = omega (arith, b.place) in
    let whole : cs ≡ b.good ++ (92 ∷ b.bad ∷ (b.rest ++ drop n cs)) =
    sym (take-append-drop n cs) ∙ ap (λ (x : List ℕ). x ++ drop n cs) b.split ∙ append_assoc b.good (92 ∷ b.bad ∷ b.rest) (drop n cs) in
    let front : take (length b.good) cs ≡ b.good = ap (take (length b.good)) whole ∙ take_at b.good (92 ∷ b.bad ∷ (b.rest ++ drop n cs)) (length b.good) refl in
    let back : drop (length b.good) cs ≡ 92 ∷ b.bad ∷ (b.rest ++ drop n cs) = ap (drop (length b.good)) whole ∙ drop_at b.good (92 ∷ b.bad ∷ (b.rest ++ drop n cs)) (length b.good) refl in
    subst (λ (m : ℕ). IsStanding (Fault BadEscape m) (34 ∷ cs)) at (
      omega (arith, ap length whole, length-append b.good (92 ∷ b.bad ∷ (b.rest ++ drop n cs))),
      (b.good, b.bad, b.rest ++ drop n cs, ap (λ (x : List ℕ). 34 ∷ x) front, back, b.part, b.no_escape, (b.rest, drop n cs, refl, b.closed)),
    )

ended_sound : (cs : List ℕ) (found : Option ℕ) → string_end false cs ≡ found → IsStanding (ended_lexeme cs found) (34 ∷ cs)
ended_sound cs None h =
    (omega arith, (refl, (cs, refl, λ b. let e : None ≡ Some (length b.0) = sym h ∙ ap (string_end false) b.2 ∙ string_ends false b.0 b.1 b.3 in absurd (cc))))
ended_sound cs (Some n) h = closed_sound cs n (bad_escape false (take n cs)) (string_through false cs n h) refl

-- comments that don't end
line_or_piece : (cs : List ℕ) → (list_all (λ (e : ℕ). not (eqb e 10)) cs ≡ true) ⊎ BeginsWith ends_line cs
line_or_piece [] = inl refl
line_or_piece (c ∷ cs) =
    ⊎_elim (λ (f : eqb c 10 ≡ true). inr (c ∷ [], cs, refl, cond-true (eqb c 10) true _ f))
    (λ (f : eqb c 10 ≡ false).
    ⊎_elim (λ (all : list_all (λ (e : ℕ). not (eqb e 10)) cs ≡ true). inl (and_from (not (eqb c 10)) (list_all (λ (e : ℕ). not (eqb e 10)) cs) (not_from_false (eqb c 10) f) all))
    (λ (b : BeginsWith ends_line cs). inr (c ∷ b.0, b.1, ap (λ (x : List ℕ). c ∷ x) b.2, cond-false (eqb c 10) (eqb (length b.0) 0) (ends_line b.0) f ∙ b.3))
    (line_or_piece cs))
    (cases_Bool (eqb c 10))

line_sound : (cs : List ℕ) → NoTriviaPiece (47 ∷ 47 ∷ cs) → is_last_line (47 ∷ 47 ∷ cs) ≡ true
line_sound cs none =
    ⊎_elim (λ (all : list_all (λ (e : ℕ). not (eqb e 10)) cs ≡ true). all)
    (λ (b : BeginsWith ends_line cs). absurd (none (47 ∷ 47 ∷ b.0, b.1, ap (λ (x : List ℕ). 47 ∷ 47 ∷ x) b.2, or_left (ends_line b.0) false b.3)))
    (line_or_piece cs)

open_sound : (cs : List ℕ) → NoTriviaPiece (47 ∷ 42 ∷ cs) → FaultAt OpenComment [] (47 ∷ 42 ∷ cs)
open_sound cs none = (refl, (cs, refl, λ b. none (47 ∷ 42 ∷ b.0, b.1, ap (λ (x : List ℕ). 47 ∷ 42 ∷ x) b.2, b.3)))

comment_sound : (c : ℕ) (cs : List ℕ) → NoTriviaPiece (c ∷ cs) → begins_comment (c ∷ cs) ≡ true → IsStanding (comment_lexeme cs) (c ∷ cs)
comment_sound c [] none h = absurd (false≢true h)
comment_sound c (d ∷ ds) none h =
    let both = and_parts (eqb c 47) (eqb d 47 || eqb d 42) h in
    let slash : 47 ≡ c = sym (eqb-true c 47 both.0) in
    ⊎_elim (λ (s : eqb d 42 ≡ true).
    let star : 42 ≡ d = sym (eqb-true d 42 s) in
    let pair : 47 ∷ 42 ∷ ds ≡ c ∷ d ∷ ds = ap (λ (x : ℕ). x ∷ 42 ∷ ds) slash ∙ ap (λ (x : ℕ). c ∷ x ∷ ds) star in
    subst (λ (t : NextLexeme). IsStanding t (c ∷ d ∷ ds)) (sym (cond-true (eqb d 42) (Fault OpenComment 0) End s))
    (omega arith, subst (λ (x : List ℕ). FaultAt OpenComment [] x) pair (open_sound ds (subst (λ (x : List ℕ). NoTriviaPiece x) (sym pair) none))))
    (λ (s : eqb d 42 ≡ false).
    let second : 47 ≡ d = ⊎_elim (λ (e : eqb d 47 ≡ true). sym (eqb-true d 47 e)) (λ (e : eqb d 42 ≡ true). absurd (false≢true (sym s ∙ e))) (or_cases (eqb d 47) (eqb d 42) both.1) in
    let pair : 47 ∷ 47 ∷ ds ≡ c ∷ d ∷ ds = ap (λ (x : ℕ). x ∷ 47 ∷ ds) slash ∙ ap (λ (x : ℕ). c ∷ x ∷ ds) second in
    subst (λ (t : NextLexeme). IsStanding t (c ∷ d ∷ ds)) (sym (cond-false (eqb d 42) (Fault OpenComment 0) End s))
    (subst (λ (x : List ℕ). is_last_line x ≡ true) pair (line_sound ds (subst (λ (x : List ℕ). NoTriviaPiece x) (sym pair) none))))
    (cases_Bool (eqb d 42))

-- marks
marks_short : (t : List ℕ) → is_among marks t ≡ true → length t ≤ 2
marks_short t h = leb-true (length t) 2 (among_passes (λ (x : List ℕ). leb (length x) 2) marks t refl h)

mark_kind : (kind : TokenKind) (c : ℕ) (cs : List ℕ) → is_word_byte c ≡ false → eqb c 34 ≡ false → is_token_text kind (c ∷ cs) ≡ true → is_among marks (c ∷ cs) ≡ true
mark_kind Identifier c cs w q h = absurd (false≢true (sym (or_parts (begins_word c) (is_digit c) w).0 ∙ (and_parts (begins_word c) (list_all is_word_byte cs) (and_parts (is_word (c ∷ cs)) (not (is_keyword (c ∷ cs))) h).0).0))
mark_kind Keyword c cs w q h = absurd (false≢true (sym (or_parts (begins_word c) (is_digit c) w).0 ∙ (and_parts (begins_word c) (list_all is_word_byte cs) (keyword_is_word (c ∷ cs) h)).0))
mark_kind Integer c cs w q h =
    absurd (false≢true (sym (or_parts (begins_word c) (is_digit c) w).1 ∙ (and_parts (is_digit c) (list_all is_number_byte cs) (and_parts (is_number (c ∷ cs)) (leb (number_value (c ∷ cs)) 9223372036854775807) h).0).0))
mark_kind StringText c cs w q h = absurd (false≢true (sym q ∙ (and_parts (eqb c 34) (ends_string false cs) h).0))
mark_kind Mark c cs w q h = h

long_longest : (t after : List ℕ) → is_among long_marks t ≡ true → IsLongest t after
long_longest [] after h kind more rest e s = absurd (omega (arith, two_long [] h))
long_longest (c ∷ cs) after h kind more rest e s =
    let first = mark_first c cs (among_long (c ∷ cs) h) in
    let short : length ((c ∷ cs) ++ more) ≤ 2 = marks_short ((c ∷ cs) ++ more) (mark_kind kind c (cs ++ more) first.0 first.1 s) in
    nil_from_length more (omega (arith, short, length-append (c ∷ cs) more, two_long (c ∷ cs) h))

short_longest : (c : ℕ) (after : List ℕ) → is_among short_marks (c ∷ []) ≡ true → is_among long_marks (take 2 (c ∷ after)) ≡ false → IsLongest (c ∷ []) after
short_longest c after h no_long kind [] rest e s = refl
short_longest c after h no_long kind (m ∷ ms) rest e s =
    let first = mark_first c [] (among_short (c ∷ []) h) in
    let among : is_among marks (c ∷ m ∷ ms) ≡ true = mark_kind kind c (m ∷ ms) first.0 first.1 s in
    ⊎_elim (λ (l : is_among long_marks (c ∷ m ∷ ms) ≡ true).
    let none : ms ≡ [] = nil_from_length ms (omega (arith, two_long (c ∷ m ∷ ms) l)) in
    let two : take 2 (c ∷ after) ≡ c ∷ m ∷ ms = ap (λ (x : List ℕ). take 2 (c ∷ x)) e ∙ ap (λ (x : List ℕ). c ∷ m ∷ x) (sym none) in
    absurd (false≢true (sym no_long ∙ ap (is_among long_marks) two ∙ l)))
    (λ (l : is_among short_marks (c ∷ m ∷ ms) ≡ true). absurd (omega (arith, one_long (c ∷ m ∷ ms) l)))
    (or_cases (is_among long_marks (c ∷ m ∷ ms)) (is_among short_marks (c ∷ m ∷ ms)) (among_split (c ∷ m ∷ ms) among))

no_mark : (bs : List ℕ) → is_among long_marks (take 2 bs) ≡ false → is_among short_marks (take 1 bs) ≡ false → BeginsWith (is_among marks) bs → ⊥
no_mark bs l s b =
    ⊎_elim (λ (h : is_among long_marks b.0 ≡ true).
    let two : take 2 bs ≡ b.0 = ap (take 2) b.2 ∙ take_at b.0 b.1 2 (two_long b.0 h) in
    false≢true (sym l ∙ ap (is_among long_marks) two ∙ h))
    (λ (h : is_among short_marks b.0 ≡ true).
    let one : take 1 bs ≡ b.0 = ap (take 1) b.2 ∙ take_at b.0 b.1 1 (one_long b.0 h) in
    false≢true (sym s ∙ ap (is_among short_marks) one ∙ h))
    (or_cases (is_among long_marks b.0) (is_among short_marks b.0) (among_split b.0 b.3))

mark_sound : (c : ℕ) (cs : List ℕ) → NoTriviaPiece (c ∷ cs) → is_word_byte c ≡ false → eqb c 34 ≡ false → begins_comment (c ∷ cs) ≡ false → IsStanding (mark_lexeme (c ∷ cs)) (c ∷ cs)
mark_sound c cs none w q n =
    ⊎_elim (λ (l : is_among long_marks (take 2 (c ∷ cs)) ≡ true).
    let two = two_long (take 2 (c ∷ cs)) l in
    subst (λ (s : NextLexeme). IsStanding s (c ∷ cs)) (sym (cond-true (is_among long_marks (take 2 (c ∷ cs))) (Token Mark 2) _ l)) (
      omega (arith, two, length-take 2 (c ∷ cs)),
      record {
        spelled = among_long (take 2 (c ∷ cs)) l;
        longest = long_longest (take 2 (c ∷ cs)) (drop 2 (c ∷ cs)) l;
        number_ends = λ e. absurd (cc);
        no_comment = ap begins_comment (take-append-drop 2 (c ∷ cs)) ∙ n;
      },
    ))
    (λ (l : is_among long_marks (take 2 (c ∷ cs)) ≡ false).
    subst (λ (s : NextLexeme). IsStanding s (c ∷ cs)) (sym (cond-false (is_among long_marks (take 2 (c ∷ cs))) (Token Mark 2) _ l))
    (⊎_elim (λ (s : is_among short_marks (c ∷ []) ≡ true).
    subst (λ (x : NextLexeme). IsStanding x (c ∷ cs)) (sym (cond-true (is_among short_marks (c ∷ [])) (Token Mark 1) (Fault BadCharacter 0) s))
    (omega arith, record { spelled = among_short (c ∷ []) s; longest = short_longest c cs s l; number_ends = λ e. absurd (cc); no_comment = n }))
    (λ (s : is_among short_marks (c ∷ []) ≡ false).
    subst (λ (x : NextLexeme). IsStanding x (c ∷ cs)) (sym (cond-false (is_among short_marks (c ∷ [])) (Token Mark 1) (Fault BadCharacter 0) s)) (
      omega arith,
      (
        refl,
        (
          c,
          cs,
          refl,
          or_from (is_blank c || is_word_byte c) (eqb c 34) (or_from (is_blank c) (is_word_byte c) (false_from_ne_true (is_blank c) (λ b. none (c ∷ [], cs, refl, b))) w) q,
          no_mark (c ∷ cs) l s,
        ),
      ),
    ))
    (cases_Bool (is_among short_marks (c ∷ [])))))
    (cases_Bool (is_among long_marks (take 2 (c ∷ cs))))

-- What stands first is what the lexer finds.
pub stands_sound : (bs : List ℕ) → NoTriviaPiece bs → IsStanding (next_lexeme bs) bs
stands_sound [] none = refl
stands_sound (c ∷ cs) none =
    ⊎_elim (λ (d : is_digit c ≡ true). subst (λ (s : NextLexeme). IsStanding s (c ∷ cs)) (sym (digit_way c cs d)) (number_sound c cs d))
    (λ (d : is_digit c ≡ false).
    ⊎_elim (λ (w : begins_word c ≡ true). subst (λ (s : NextLexeme). IsStanding s (c ∷ cs)) (sym (word_way c cs w)) (word_sound c cs w))
    (λ (w : begins_word c ≡ false).
    ⊎_elim (λ (q : eqb c 34 ≡ true).
    subst (λ (x : ℕ). IsStanding (next_lexeme (x ∷ cs)) (x ∷ cs)) (sym (eqb-true c 34 q)) (ended_sound cs (string_end false cs) refl))
    (λ (q : eqb c 34 ≡ false).
    let word : is_word_byte c ≡ false = or_from (begins_word c) (is_digit c) w d in
    subst (λ (s : NextLexeme). IsStanding s (c ∷ cs)) (sym (other_way c cs word q))
    (⊎_elim (λ (n : begins_comment (c ∷ cs) ≡ true).
    subst (λ (s : NextLexeme). IsStanding s (c ∷ cs)) (sym (cond-true (begins_comment (c ∷ cs)) (comment_lexeme cs) (mark_lexeme (c ∷ cs)) n)) (comment_sound c cs none n))
    (λ (n : begins_comment (c ∷ cs) ≡ false).
    subst (λ (s : NextLexeme). IsStanding s (c ∷ cs)) (sym (cond-false (begins_comment (c ∷ cs)) (comment_lexeme cs) (mark_lexeme (c ∷ cs)) n)) (mark_sound c cs none word q n))
    (cases_Bool (begins_comment (c ∷ cs)))))
    (cases_Bool (eqb c 34)))
    (cases_Bool (begins_word c)))
    (cases_Bool (is_digit c))
