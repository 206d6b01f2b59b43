-- Which texts are words.
use Rattle.std.proofs.Common.{◌≡◌, ℕ, zero, suc, ◌≤◌, Bool, true, false, ◌&&◌, ◌||◌, not, List, [], ◌∷◌, ◌++◌, leb, eqb, sym, ap, ◌∙◌, refl, arith, ⊎_elim}
use Rattle.std.specs.List.{list_all}
use Rattle.std.specs.Str.{IsAscii, IsUtf8}
use Rattle.std.proofs.lemmas.Bool.{and_parts, and_from, or_cases, or_left, or_right, cases_Bool, false≢true, leb-true, eqb-true, not_from_false, false_from_ne_true, not-true}
use Rattle.std.proofs.lemmas.List.Folds.{list_all-append}
use Rattle.std.proofs.lemmas.Str.{IsUtf8-from_ascii}
use Rattle.swift_ast.specs.declared.TokenKind.{TokenKind}
use Rattle.swift_ast.specs.declared.TokenKind.TheVariants.{Identifier, Keyword, Integer, StringText, Mark}
use Rattle.swift_token.specs.Texts.{is_blank, ends_string, is_letter, is_digit, begins_word, is_word_byte, is_word, is_keyword, keywords, is_number, is_token_text, marks}
use Rattle.swift_token.specs.Spelling.{begins_by}
use Rattle.swift_token.proofs.Fronts.{among_passes}

-- what passes a test passes a wider one, byte by byte
pub all_wider : (p q : ℕ → Bool) (xs : List ℕ) → ((c : ℕ) → p c ≡ true → q c ≡ true) → list_all p xs ≡ true → list_all q xs ≡ true
all_wider p q [] wider all = refl
all_wider p q (x ∷ xs) wider all =
    let both = and_parts (p x) (list_all p xs) all in
    and_from (q x) (list_all q xs) (wider x both.0) (all_wider p q xs wider both.1)

pub keyword_is_word : (text : List ℕ) → is_keyword text ≡ true → is_word text ≡ true
keyword_is_word text h = among_passes is_word keywords text refl h

pub word_bytes : (text : List ℕ) → is_word text ≡ true → list_all is_word_byte text ≡ true
word_bytes [] h = refl
word_bytes (c ∷ cs) h =
    let both = and_parts (begins_word c) (list_all is_word_byte cs) h in
    and_from (is_word_byte c) (list_all is_word_byte cs) (or_left (begins_word c) (is_digit c) both.0) both.1

digit_or_line : (c : ℕ) → (is_digit c || eqb c 95) ≡ true → is_word_byte c ≡ true
digit_or_line c h =
    ⊎_elim (λ (e : is_digit c ≡ true). or_right (begins_word c) (is_digit c) e)
    (λ (e : eqb c 95 ≡ true). or_left (begins_word c) (is_digit c) (or_right (is_letter c) (eqb c 95) e))
    (or_cases (is_digit c) (eqb c 95) h)

pub number_bytes : (text : List ℕ) → is_number text ≡ true → list_all is_word_byte text ≡ true
number_bytes [] h = refl
number_bytes (c ∷ cs) h =
    let both = and_parts (is_digit c) (list_all (λ (d : ℕ). is_digit d || eqb d 95) cs) h in
    and_from (is_word_byte c) (list_all is_word_byte cs) (or_right (begins_word c) (is_digit c) both.0) (all_wider (λ (d : ℕ). is_digit d || eqb d 95) is_word_byte cs digit_or_line both.1)

digit_bounds : (c : ℕ) → is_digit c ≡ true → (48 ≤ c) × (c ≤ 57)
digit_bounds c h = let both = and_parts (leb 48 c) (leb c 57) h in (leb-true 48 c both.0, leb-true c 57 both.1)

letter_bounds : (c : ℕ) → begins_word c ≡ true → 65 ≤ c
letter_bounds c h =
    ⊎_elim (λ (e : is_letter c ≡ true).
    ⊎_elim (λ (f : (leb 65 c && leb c 90) ≡ true). leb-true 65 c (and_parts (leb 65 c) (leb c 90) f).0)
    (λ (f : (leb 97 c && leb c 122) ≡ true). omega (arith, leb-true 97 c (and_parts (leb 97 c) (leb c 122) f).0))
    (or_cases (leb 65 c && leb c 90) (leb 97 c && leb c 122) e))
    (λ (e : eqb c 95 ≡ true). omega (arith, eqb-true c 95 e))
    (or_cases (is_letter c) (eqb c 95) h)

letter_limit : (c : ℕ) → begins_word c ≡ true → c ≤ 122
letter_limit c h =
    ⊎_elim (λ (e : is_letter c ≡ true).
    ⊎_elim (λ (f : (leb 65 c && leb c 90) ≡ true). omega (arith, leb-true c 90 (and_parts (leb 65 c) (leb c 90) f).1))
    (λ (f : (leb 97 c && leb c 122) ≡ true). leb-true c 122 (and_parts (leb 97 c) (leb c 122) f).1)
    (or_cases (leb 65 c && leb c 90) (leb 97 c && leb c 122) e))
    (λ (e : eqb c 95 ≡ true). omega (arith, eqb-true c 95 e))
    (or_cases (is_letter c) (eqb c 95) h)

-- no byte both begins a word and is a digit
pub word_not_digit : (c : ℕ) → begins_word c ≡ true → is_digit c ≡ true → ⊥
word_not_digit c h d = omega (arith, letter_bounds c h, (digit_bounds c d).1)

-- the bytes of words lie between 48 and 122
pub word_byte_bounds : (c : ℕ) → is_word_byte c ≡ true → (48 ≤ c) × (c ≤ 122)
word_byte_bounds c h =
    ⊎_elim (λ (e : begins_word c ≡ true). (omega (arith, letter_bounds c e), letter_limit c e))
    (λ (e : is_digit c ≡ true). let b = digit_bounds c e in (b.0, omega (arith, b.1)))
    (or_cases (begins_word c) (is_digit c) h)

pub number_not_word : (text : List ℕ) → is_number text ≡ true → is_word text ≡ true → ⊥
number_not_word [] n w = false≢true n
number_not_word (c ∷ cs) n w = word_not_digit c (and_parts (begins_word c) (list_all is_word_byte cs) w).0 (and_parts (is_digit c) (list_all (λ (d : ℕ). is_digit d || eqb d 95) cs) n).0

pub word_grows : (text : List ℕ) (c : ℕ) → is_word text ≡ true → is_word_byte c ≡ true → is_word (text ++ (c ∷ [])) ≡ true
word_grows [] c h b = absurd (false≢true h)
word_grows (d ∷ ds) c h b =
    let both = and_parts (begins_word d) (list_all is_word_byte ds) h in
    and_from (begins_word d) (list_all is_word_byte (ds ++ (c ∷ []))) both.0
    (list_all-append is_word_byte ds (c ∷ []) ∙ and_from (list_all is_word_byte ds) (is_word_byte c && true) both.1 (and_from (is_word_byte c) true b refl))

-- each word is a token
pub word_token : (text : List ℕ) → is_word text ≡ true → (kind : TokenKind) × (is_token_text kind text ≡ true)
word_token text h =
    ⊎_elim (λ (e : is_keyword text ≡ true). (Keyword, e))
    (λ (e : is_keyword text ≡ false). (Identifier, and_from (is_word text) (not (is_keyword text)) h (not_from_false (is_keyword text) e)))
    (cases_Bool (is_keyword text))

-- a token that begins with a letter, a digit or `_` has no other bytes
pub word_like : (kind : TokenKind) (c : ℕ) (cs : List ℕ) → is_word_byte c ≡ true → is_token_text kind (c ∷ cs) ≡ true → list_all is_word_byte (c ∷ cs) ≡ true
word_like Identifier c cs b h = word_bytes (c ∷ cs) (and_parts (is_word (c ∷ cs)) (not (is_keyword (c ∷ cs))) h).0
word_like Keyword c cs b h = word_bytes (c ∷ cs) (keyword_is_word (c ∷ cs) h)
word_like Integer c cs b h = number_bytes (c ∷ cs) (and_parts (is_number (c ∷ cs)) _ h).0
word_like StringText c cs b h = absurd (omega (arith, word_byte_bounds c b, eqb-true c 34 (and_parts (eqb c 34) _ h).0))
word_like Mark c cs b h =
    let no : not (begins_by is_word_byte (c ∷ cs)) ≡ true = among_passes (λ (t : List ℕ). not (begins_by is_word_byte t)) marks (c ∷ cs) refl h in
    absurd (false≢true (ap not (sym b) ∙ no))

pub ascii_word : (text : List ℕ) → list_all is_word_byte text ≡ true → IsAscii text
ascii_word [] all k = omega arith
ascii_word (c ∷ cs) all zero = omega (arith, word_byte_bounds c (and_parts (is_word_byte c) (list_all is_word_byte cs) all).0)
ascii_word (c ∷ cs) all (suc k) = ascii_word cs (and_parts (is_word_byte c) (list_all is_word_byte cs) all).1 k

pub utf8_word : (text : List ℕ) → list_all is_word_byte text ≡ true → IsUtf8 text
utf8_word text all = IsUtf8-from_ascii text (ascii_word text all)

blank_small : (c : ℕ) → 48 ≤ c → is_blank c ≡ true → ⊥
blank_small c big h =
    ⊎_elim (λ (e : (eqb c 32 || eqb c 9 || eqb c 13) ≡ true).
    ⊎_elim (λ (f : (eqb c 32 || eqb c 9) ≡ true).
    ⊎_elim (λ (g : eqb c 32 ≡ true). omega (arith, eqb-true c 32 g)) (λ (g : eqb c 9 ≡ true). omega (arith, eqb-true c 9 g)) (or_cases (eqb c 32) (eqb c 9) f))
    (λ (f : eqb c 13 ≡ true). omega (arith, eqb-true c 13 f))
    (or_cases (eqb c 32 || eqb c 9) (eqb c 13) e))
    (λ (e : eqb c 10 ≡ true). omega (arith, eqb-true c 10 e))
    (or_cases (eqb c 32 || eqb c 9 || eqb c 13) (eqb c 10) h)

-- letters, digits and `_` are no blanks
pub word_no_blank : (c : ℕ) → is_word_byte c ≡ true → is_blank c ≡ false
word_no_blank c h = false_from_ne_true (is_blank c) (λ e. blank_small c (word_byte_bounds c h).0 e)

-- a text of letters, digits and `_` begins with no blank
word_begins : (text after : List ℕ) → list_all is_word_byte text ≡ true → (text ≡ [] → ⊥) → begins_by is_blank (text ++ after) ≡ false
word_begins [] after all some = absurd (some refl)
word_begins (c ∷ cs) after all some = word_no_blank c (and_parts (is_word_byte c) (list_all is_word_byte cs) all).0

-- no token is empty
pub token_some : (kind : TokenKind) (text : List ℕ) → is_token_text kind text ≡ true → text ≡ [] → ⊥
token_some Identifier text h e = false≢true (sym (ap (is_token_text Identifier) e) ∙ h)
token_some Keyword text h e = false≢true (sym (ap (is_token_text Keyword) e) ∙ h)
token_some Integer text h e = false≢true (sym (ap (is_token_text Integer) e) ∙ h)
token_some StringText text h e = false≢true (sym (ap (is_token_text StringText) e) ∙ h)
token_some Mark text h e = false≢true (sym (ap (is_token_text Mark) e) ∙ h)

-- no token begins with a blank
pub token_begins : (kind : TokenKind) (text after : List ℕ) → is_token_text kind text ≡ true → begins_by is_blank (text ++ after) ≡ false
token_begins Identifier text after h = word_begins text after (word_bytes text (and_parts (is_word text) (not (is_keyword text)) h).0) (token_some Identifier text h)
token_begins Keyword text after h = word_begins text after (word_bytes text (keyword_is_word text h)) (token_some Keyword text h)
token_begins Integer text after h = word_begins text after (number_bytes text (and_parts (is_number text) _ h).0) (token_some Integer text h)
token_begins StringText [] after h = absurd (false≢true h)
token_begins StringText (c ∷ cs) after h = ap is_blank (eqb-true c 34 (and_parts (eqb c 34) (ends_string false cs) h).0)
token_begins Mark [] after h = absurd (false≢true h)
token_begins Mark (c ∷ cs) after h = not-true (is_blank c) (among_passes (λ (t : List ℕ). not (begins_by is_blank t)) marks (c ∷ cs) refl h)
