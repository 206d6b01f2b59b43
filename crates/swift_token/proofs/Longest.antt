-- No token is longer than a word, an integer, `=` or `+` that ends where its bytes do.
use Rattle.std.proofs.Common.{◌≡◌, ℕ, Bool, true, false, ◌||◌, not, List, [], ◌∷◌, ◌++◌, eqb, sym, ap, ◌∙◌, refl, ⊎_elim, ◌⊎◌, inl, inr}
use Rattle.std.specs.List.{list_all}
use Rattle.std.specs.Str.{bytes_eq}
use Rattle.std.proofs.lemmas.Bool.{and_parts, or_cases, cases_Bool, false≢true, eqb-true, and_left}
use Rattle.std.proofs.lemmas.List.Folds.{list_all-append}
use Rattle.std.proofs.lemmas.Slice.Eq.{bytes_eq-Decides}
use Rattle.swift_ast.specs.declared.TokenKind.{TokenKind}
use Rattle.swift_ast.specs.declared.TokenKind.TheVariants.{Identifier, Keyword, Integer, StringText, Mark}
use Rattle.swift_token.specs.Texts.{is_word_byte, is_word, is_token_text, marks}
use Rattle.swift_token.specs.Spelling.{begins_by, IsLongest, begins_comment}
use Rattle.swift_token.proofs.Fronts.{among_passes}
use Rattle.swift_token.proofs.Words.{word_like, word_token, word_grows, keyword_is_word}

-- A text of letters, digits and `_` is longest where none of them stands behind it.
pub longest_word : (text after : List ℕ) → list_all is_word_byte text ≡ true → (text ≡ [] → ⊥) → begins_by is_word_byte after ≡ false → IsLongest text after
longest_word [] after all some stops kind more rest e h = absurd (some refl)
longest_word (c ∷ cs) after all some stops kind [] rest e h = refl
longest_word (c ∷ cs) after all some stops kind (m ∷ ms) rest e h =
    let bytes : list_all is_word_byte ((c ∷ cs) ++ (m ∷ ms)) ≡ true = word_like kind c (cs ++ (m ∷ ms)) (and_parts (is_word_byte c) (list_all is_word_byte cs) all).0 h in
    let behind = and_parts (list_all is_word_byte (c ∷ cs)) (list_all is_word_byte (m ∷ ms)) (sym (list_all-append is_word_byte (c ∷ cs) (m ∷ ms)) ∙ bytes) in
    let first : is_word_byte m ≡ true = (and_parts (is_word_byte m) (list_all is_word_byte ms) behind.1).0 in
    absurd (false≢true (sym stops ∙ ap (begins_by is_word_byte) e ∙ first))

-- Behind a longest word stands no letter, digit or `_`.
pub word_stops : (text after : List ℕ) → is_word text ≡ true → IsLongest text after → begins_by is_word_byte after ≡ false
word_stops text [] w longest = refl
word_stops text (c ∷ cs) w longest =
    ⊎_elim (λ (e : is_word_byte c ≡ true).
    let token = word_token (text ++ (c ∷ [])) (word_grows text c w e) in
    let none : (c ∷ []) ≡ [] = longest token.0 (c ∷ []) cs refl token.1 in
    absurd (cc))
    (λ (e : is_word_byte c ≡ false). e)
    (cases_Bool (is_word_byte c))

-- the test is passed by `=`, by `==` and by what doesn't begin so
equals_alone : List ℕ → Bool
equals_alone t = not (begins_by (λ c. eqb c 61) t) || (bytes_eq (61 ∷ []) t || bytes_eq (61 ∷ 61 ∷ []) t)

plus_alone : List ℕ → Bool
plus_alone t = not (begins_by (λ c. eqb c 43) t) || bytes_eq (43 ∷ []) t

-- a token that begins with `=` is `=` or `==`
equals_token : (kind : TokenKind) (more : List ℕ) → is_token_text kind (61 ∷ more) ≡ true → (more ≡ []) ⊎ (more ≡ 61 ∷ [])
equals_token Identifier more h = absurd (false≢true h)
equals_token Keyword more h = absurd (false≢true (keyword_is_word (61 ∷ more) h))
equals_token Integer more h = absurd (false≢true h)
equals_token StringText more h = absurd (false≢true h)
equals_token Mark more h =
    let alone : (bytes_eq (61 ∷ []) (61 ∷ more) || bytes_eq (61 ∷ 61 ∷ []) (61 ∷ more)) ≡ true = unfold equals_alone in among_passes equals_alone marks (61 ∷ more) refl h in
    ⊎_elim (λ (e : bytes_eq (61 ∷ []) (61 ∷ more) ≡ true). let s : 61 ∷ [] ≡ 61 ∷ more = (bytes_eq-Decides (61 ∷ []) (61 ∷ more)).0 e in inl (cc))
    (λ (e : bytes_eq (61 ∷ 61 ∷ []) (61 ∷ more) ≡ true). let s : 61 ∷ 61 ∷ [] ≡ 61 ∷ more = (bytes_eq-Decides (61 ∷ 61 ∷ []) (61 ∷ more)).0 e in inr (cc))
    (or_cases (bytes_eq (61 ∷ []) (61 ∷ more)) (bytes_eq (61 ∷ 61 ∷ []) (61 ∷ more)) alone)

-- a token that begins with `+` is `+`
plus_token : (kind : TokenKind) (more : List ℕ) → is_token_text kind (43 ∷ more) ≡ true → more ≡ []
plus_token Identifier more h = absurd (false≢true h)
plus_token Keyword more h = absurd (false≢true (keyword_is_word (43 ∷ more) h))
plus_token Integer more h = absurd (false≢true h)
plus_token StringText more h = absurd (false≢true h)
plus_token Mark more h =
    let alone : bytes_eq (43 ∷ []) (43 ∷ more) ≡ true = unfold plus_alone in among_passes plus_alone marks (43 ∷ more) refl h in
    let s : 43 ∷ [] ≡ 43 ∷ more = (bytes_eq-Decides (43 ∷ []) (43 ∷ more)).0 alone in cc

pub longest_equals : (after : List ℕ) → begins_by (λ c. eqb c 61) after ≡ false → IsLongest (61 ∷ []) after
longest_equals after stops kind more rest e h =
    ⊎_elim (λ (n : more ≡ []). n)
    (λ (n : more ≡ 61 ∷ []).
    let f : after ≡ 61 ∷ rest = e ∙ ap (λ (m : List ℕ). m ++ rest) n in
    absurd (false≢true (sym stops ∙ ap (begins_by (λ c. eqb c 61)) f)))
    (equals_token kind more h)

pub longest_plus : (after : List ℕ) → IsLongest (43 ∷ []) after
longest_plus after kind more rest e h = plus_token kind more h

-- Behind a longest `=` stands no `=`.
pub equals_stops : (after : List ℕ) → IsLongest (61 ∷ []) after → begins_by (λ c. eqb c 61) after ≡ false
equals_stops [] longest = refl
equals_stops (c ∷ cs) longest =
    ⊎_elim (λ (e : eqb c 61 ≡ true).
    let is : c ≡ 61 = eqb-true c 61 e in
    let none : (61 ∷ []) ≡ [] = longest Mark (61 ∷ []) cs (ap (λ (d : ℕ). d ∷ cs) is) refl in
    absurd (cc))
    (λ (e : eqb c 61 ≡ false). e)
    (cases_Bool (eqb c 61))

-- no comment begins with another byte than `/`
pub no_comment_at : (c : ℕ) (cs : List ℕ) → eqb c 47 ≡ false → begins_comment (c ∷ cs) ≡ false
no_comment_at c [] h = refl
no_comment_at c (d ∷ ds) h = and_left (eqb c 47) (eqb d 47 || eqb d 42) h
