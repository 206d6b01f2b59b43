-- What stands first in a text is its token or its fault.
use Rattle.std.proofs.Common.{◌≡◌, ℕ, true, false, ◌||◌, not, cond, Some, None, List, [], ◌∷◌, ◌++◌, length, take, drop, leb, eqb, sym, ap, ◌∙◌, refl, arith, ⊎_elim}
use Rattle.std.specs.List.{list_all, prefix_len}
use Rattle.std.specs.Str.{bytes_eq}
use Rattle.std.proofs.lemmas.Bool.{and_parts, and_from, or_cases, or_parts, or_left, or_right, or_from, false≢true, eqb-true, cond-true, cond-false, not-true, false_from_ne_true}
use Rattle.std.proofs.lemmas.List.{take_at, drop_at}
use Rattle.std.proofs.lemmas.List.Folds.{list_any-append}
use Rattle.swift_ast.specs.declared.TokenKind.{TokenKind}
use Rattle.swift_ast.specs.declared.TokenKind.TheVariants.{Identifier, Keyword, Integer, StringText, Mark}
use Rattle.swift_token.specs.declared.faults.LexWhat.TheVariants.{BadCharacter, BadNumber, WideNumber}
use Rattle.swift_token.specs.declared.next_lexeme.NextLexeme.{NextLexeme}
use Rattle.swift_token.specs.declared.next_lexeme.NextLexeme.TheVariants.{Token, Fault}
use Rattle.swift_token.specs.Texts.{is_digit, is_letter, begins_word, is_word_byte, is_word, is_keyword, is_number, number_value, ends_string, is_among, marks, long_marks, short_marks}
use Rattle.swift_token.specs.Spelling.{begins_by, IsLongest, IsTokenIn, begins_comment}
use Rattle.swift_token.specs.Scans.{string_end, bad_escape}
use Rattle.swift_token.specs.NextLexeme.{is_number_byte, number_len, number_lexeme, word_lexeme, closed_lexeme, ended_lexeme, string_lexeme, mark_lexeme, comment_lexeme, next_lexeme}
use Rattle.swift_token.proofs.Fronts.{front_is, among_passes}
use Rattle.swift_token.proofs.Words.{keyword_is_word, word_bytes, word_not_digit}
use Rattle.swift_token.proofs.Longest.{word_stops}
use Rattle.swift_token.proofs.Scanned.{string_ends}
use Rattle.swift_token.proofs.Escapes.{strict_closes, strict_no_bad}

-- Which of the five ways a first byte goes.
pub digit_way : (c : ℕ) (cs : List ℕ) → is_digit c ≡ true → next_lexeme (c ∷ cs) ≡ number_lexeme (c ∷ cs)
digit_way c cs d = cond-true (is_digit c) (number_lexeme (c ∷ cs)) _ d

pub word_way : (c : ℕ) (cs : List ℕ) → begins_word c ≡ true → next_lexeme (c ∷ cs) ≡ word_lexeme (c ∷ cs)
word_way c cs w = cond-false (is_digit c) (number_lexeme (c ∷ cs)) _ (false_from_ne_true (is_digit c) (word_not_digit c w)) ∙ cond-true (begins_word c) (word_lexeme (c ∷ cs)) _ w

pub other_way : (c : ℕ) (cs : List ℕ) → is_word_byte c ≡ false → eqb c 34 ≡ false → next_lexeme (c ∷ cs) ≡ cond (begins_comment (c ∷ cs)) (comment_lexeme cs) (mark_lexeme (c ∷ cs))
other_way c cs w q =
    let both = or_parts (begins_word c) (is_digit c) w in
    cond-false (is_digit c) (number_lexeme (c ∷ cs)) _ both.1 ∙ cond-false (begins_word c) (word_lexeme (c ∷ cs)) _ both.0 ∙ cond-false (eqb c 34) (string_lexeme cs) _ q

-- words
word_found : (kind : TokenKind) (t after : List ℕ) → is_word t ≡ true → begins_by is_word_byte after ≡ false → cond (is_keyword t) Keyword Identifier ≡ kind → next_lexeme (t ++ after) ≡ Token kind (length t)
word_found kind [] after w stops k = absurd (false≢true w)
word_found kind (c ∷ cs) after w stops k =
    let len : prefix_len is_word_byte ((c ∷ cs) ++ after) ≡ length (c ∷ cs) = front_is is_word_byte (c ∷ cs) after (word_bytes (c ∷ cs) w) stops in
    let front : take (prefix_len is_word_byte ((c ∷ cs) ++ after)) ((c ∷ cs) ++ after) ≡ c ∷ cs = take_at (c ∷ cs) after (prefix_len is_word_byte ((c ∷ cs) ++ after)) (sym len) in
    let by_text : List ℕ → NextLexeme = λ t. Token (cond (is_keyword t) Keyword Identifier) (prefix_len is_word_byte ((c ∷ cs) ++ after)) in
    let by_len : ℕ → NextLexeme = λ n. Token (cond (is_keyword (c ∷ cs)) Keyword Identifier) n in
    let by_kind : TokenKind → NextLexeme = λ x. Token x (length (c ∷ cs)) in
    word_way c (cs ++ after) (and_parts (begins_word c) (list_all is_word_byte cs) w).0 ∙ ap by_text front ∙ ap by_len len ∙ ap by_kind k

-- numbers
number_bytes_alone : (t : List ℕ) → is_number t ≡ true → list_all is_number_byte t ≡ true
number_bytes_alone [] h = refl
number_bytes_alone (c ∷ cs) h =
    let both = and_parts (is_digit c) (list_all is_number_byte cs) h in
    and_from (is_number_byte c) (list_all is_number_byte cs) (or_left (is_digit c) (eqb c 95) both.0) both.1

pub no_word_no_number : (after : List ℕ) → begins_by is_word_byte after ≡ false → (begins_by is_number_byte after ≡ false) × (begins_by is_letter after ≡ false)
no_word_no_number [] h = (refl, refl)
no_word_no_number (c ∷ cs) h =
    let outer = or_parts (begins_word c) (is_digit c) h in
    let inner = or_parts (is_letter c) (eqb c 95) outer.0 in
    (or_from (is_digit c) (eqb c 95) outer.1 inner.1, inner.0)

-- how a number at the front goes on
pub record NumberCut (bs t after : List ℕ) : Type 0 where
  pub len : number_len bs ≡ length t
  pub front : take (number_len bs) bs ≡ t
  pub back : drop (number_len bs) bs ≡ after

pub number_cut : (t after : List ℕ) → is_number t ≡ true → begins_by is_number_byte after ≡ false → NumberCut (t ++ after) t after
number_cut t after n stops =
    let len : number_len (t ++ after) ≡ length t = front_is is_number_byte t after (number_bytes_alone t n) stops in
    record { len = len; front = take_at t after (number_len (t ++ after)) (sym len); back = drop_at t after (number_len (t ++ after)) (sym len) }

pub number_way : (t after : List ℕ) → is_number t ≡ true → next_lexeme (t ++ after) ≡ number_lexeme (t ++ after)
number_way [] after n = absurd (false≢true n)
number_way (c ∷ cs) after n = digit_way c (cs ++ after) (and_parts (is_digit c) (list_all is_number_byte cs) n).0

pub number_at : (bs t after : List ℕ) → NumberCut bs t after
    → number_lexeme bs ≡ cond (begins_by is_letter after) (Fault BadNumber 0) (cond (leb (number_value t) 9223372036854775807) (Token Integer (length t)) (Fault WideNumber 0))
number_at bs t after cut =
    let by_back : List ℕ → NextLexeme = λ x. cond (begins_by is_letter x) (Fault BadNumber 0) (cond (leb (number_value (take (number_len bs) bs)) 9223372036854775807) (Token Integer (number_len bs)) (Fault WideNumber 0)) in
    let by_front : List ℕ → NextLexeme = λ x. cond (begins_by is_letter after) (Fault BadNumber 0) (cond (leb (number_value x) 9223372036854775807) (Token Integer (number_len bs)) (Fault WideNumber 0)) in
    let by_len : ℕ → NextLexeme = λ n. cond (begins_by is_letter after) (Fault BadNumber 0) (cond (leb (number_value t) 9223372036854775807) (Token Integer n) (Fault WideNumber 0)) in
    ap by_back cut.back ∙ ap by_front cut.front ∙ ap by_len cut.len

-- strings
string_way : (cs : List ℕ) → next_lexeme (34 ∷ cs) ≡ string_lexeme cs
string_way cs = refl

string_found : (cs after : List ℕ) → ends_string false cs ≡ true → next_lexeme ((34 ∷ cs) ++ after) ≡ Token StringText (length (34 ∷ cs))
string_found cs after h =
    let ends : string_end false (cs ++ after) ≡ Some (length cs) = string_ends false cs after (strict_closes false cs h) in
    let front : take (length cs) (cs ++ after) ≡ cs = take_at cs after (length cs) refl in
    let none : bad_escape false (take (length cs) (cs ++ after)) ≡ None = ap (bad_escape false) front ∙ strict_no_bad false cs h in
    string_way (cs ++ after) ∙ ap (ended_lexeme (cs ++ after)) ends ∙ ap (closed_lexeme (length cs)) none ∙ ap (λ (n : ℕ). Token StringText n) (omega arith)

-- marks
pub among_split : (t : List ℕ) → is_among marks t ≡ true → (is_among long_marks t || is_among short_marks t) ≡ true
among_split t h = sym (list_any-append (λ (x : List ℕ). bytes_eq x t) long_marks short_marks) ∙ h

pub among_long : (t : List ℕ) → is_among long_marks t ≡ true → is_among marks t ≡ true
among_long t h = list_any-append (λ (x : List ℕ). bytes_eq x t) long_marks short_marks ∙ or_left (is_among long_marks t) (is_among short_marks t) h

pub among_short : (t : List ℕ) → is_among short_marks t ≡ true → is_among marks t ≡ true
among_short t h = list_any-append (λ (x : List ℕ). bytes_eq x t) long_marks short_marks ∙ or_right (is_among long_marks t) (is_among short_marks t) h

pub two_long : (t : List ℕ) → is_among long_marks t ≡ true → length t ≡ 2
two_long t h = eqb-true (length t) 2 (among_passes (λ (x : List ℕ). eqb (length x) 2) long_marks t refl h)

pub one_long : (t : List ℕ) → is_among short_marks t ≡ true → length t ≡ 1
one_long t h = eqb-true (length t) 1 (among_passes (λ (x : List ℕ). eqb (length x) 1) short_marks t refl h)

-- no mark begins as another token does
pub mark_first : (c : ℕ) (cs : List ℕ) → is_among marks (c ∷ cs) ≡ true → (is_word_byte c ≡ false) × (eqb c 34 ≡ false)
mark_first c cs h = (
  not-true (is_word_byte c) (among_passes (λ (t : List ℕ). not (begins_by is_word_byte t)) marks (c ∷ cs) refl h),
  not-true (eqb c 34) (among_passes (λ (t : List ℕ). not (begins_by (λ d. eqb d 34) t)) marks (c ∷ cs) refl h),
)

mark_way : (t after : List ℕ) → is_among marks t ≡ true → begins_comment (t ++ after) ≡ false → next_lexeme (t ++ after) ≡ mark_lexeme (t ++ after)
mark_way [] after h n = absurd (false≢true h)
mark_way (c ∷ cs) after h n =
    let first = mark_first c cs h in
    other_way c (cs ++ after) first.0 first.1 ∙ cond-false (begins_comment (c ∷ (cs ++ after))) (comment_lexeme (cs ++ after)) (mark_lexeme (c ∷ (cs ++ after))) n

long_found : (t after : List ℕ) → is_among long_marks t ≡ true → begins_comment (t ++ after) ≡ false → next_lexeme (t ++ after) ≡ Token Mark (length t)
long_found t after h n =
    let two : length t ≡ 2 = two_long t h in
    let front : take 2 (t ++ after) ≡ t = take_at t after 2 two in
    mark_way t after (among_long t h) n ∙ cond-true (is_among long_marks (take 2 (t ++ after))) (Token Mark 2) _ (ap (is_among long_marks) front ∙ h) ∙ ap (λ (k : ℕ). Token Mark k) (sym two)

no_longer : (c : ℕ) (after : List ℕ) → IsLongest (c ∷ []) after → is_among long_marks (take 2 (c ∷ after)) ≡ false
no_longer c [] longest = false_from_ne_true (is_among long_marks (c ∷ [])) (λ e. absurd (omega (arith, two_long (c ∷ []) e)))
no_longer c (d ∷ ds) longest =
    false_from_ne_true (is_among long_marks (c ∷ d ∷ []))
    (λ e. let none : (d ∷ []) ≡ [] = longest Mark (d ∷ []) ds refl (among_long (c ∷ d ∷ []) e) in absurd (cc))

short_found : (t after : List ℕ) → is_among short_marks t ≡ true → IsLongest t after → begins_comment (t ++ after) ≡ false → next_lexeme (t ++ after) ≡ Token Mark (length t)
short_found [] after h longest n = absurd (omega (arith, one_long [] h))
short_found (c ∷ []) after h longest n =
    mark_way (c ∷ []) after (among_short (c ∷ []) h) n ∙ cond-false (is_among long_marks (take 2 (c ∷ after))) (Token Mark 2) _ (no_longer c after longest)
    ∙ cond-true (is_among short_marks (c ∷ [])) (Token Mark 1) (Fault BadCharacter 0) h
short_found (c ∷ d ∷ ds) after h longest n = absurd (omega (arith, one_long (c ∷ d ∷ ds) h))

-- Each token that stands first is found.
pub token_stands : (kind : TokenKind) (t after : List ℕ) → IsTokenIn kind t after → next_lexeme (t ++ after) ≡ Token kind (length t)
token_stands Identifier t after h =
    let both = and_parts (is_word t) (not (is_keyword t)) h.spelled in
    word_found Identifier t after both.0 (word_stops t after both.0 h.longest) (cond-false (is_keyword t) Keyword Identifier (not-true (is_keyword t) both.1))
token_stands Keyword t after h =
    let word = keyword_is_word t h.spelled in
    word_found Keyword t after word (word_stops t after word h.longest) (cond-true (is_keyword t) Keyword Identifier h.spelled)
token_stands Integer t after h =
    let both = and_parts (is_number t) (leb (number_value t) 9223372036854775807) h.spelled in
    let stops = no_word_no_number after (h.number_ends refl) in
    number_way t after both.0 ∙ number_at (t ++ after) t after (number_cut t after both.0 stops.0) ∙ cond-false (begins_by is_letter after) (Fault BadNumber 0) _ stops.1
    ∙ cond-true (leb (number_value t) 9223372036854775807) (Token Integer (length t)) (Fault WideNumber 0) both.1
token_stands StringText [] after h = absurd (false≢true h.spelled)
token_stands StringText (c ∷ cs) after h =
    let both = and_parts (eqb c 34) (ends_string false cs) h.spelled in
    ap (λ (x : ℕ). next_lexeme (x ∷ (cs ++ after))) (eqb-true c 34 both.0) ∙ string_found cs after both.1
token_stands Mark t after h =
    ⊎_elim (λ (e : is_among long_marks t ≡ true). long_found t after e h.no_comment)
    (λ (e : is_among short_marks t ≡ true). short_found t after e h.longest h.no_comment)
    (or_cases (is_among long_marks t) (is_among short_marks t) (among_split t h.spelled))
