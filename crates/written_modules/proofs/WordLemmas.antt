-- Words and names by their bytes.
use Rattle.std.proofs.Common.{◌≡◌, ℕ, Bool, true, false, List, [], ◌∷◌, refl, ap, sym, ◌∙◌}
use Rattle.std.specs.Prelude.{not, ◌&&◌, ◌==◌}
use Rattle.std.specs.List.{list_all, list_any}
use Rattle.std.proofs.lemmas.Bool.{eqb-true, and_parts, and_from, or_from, or_left, or_parts, false≢true}
use Rattle.drv_outside.specs.Plain.{is_path_byte, is_plain_path, are_path_bytes, are_plain_components}
use Rattle.swift_token.specs.Texts.{begins_word, is_word_byte, is_identifier, is_keyword, keywords, is_word as is_token_word}
use Rattle.swift_token.proofs.Fronts.{among_passes}
use Rattle.type_infer.specs.Plain.{separators, is_separator, is_word, is_name}

-- bytes that a test tells apart are two
apart : (t : ℕ → Bool) (b c : ℕ) → (t b ≡ t c → ⊥) → (b == c) ≡ false
apart t b c n = (elim (b == c) as (λ v. (b == c) ≡ v → v ≡ false) [ true ↦ λ e. absurd (n (ap t (eqb-true b c e))) | false ↦ λ e. refl ]) refl

-- what passes is no byte that doesn't
no-such : (t : ℕ → Bool) (b c : ℕ) → t b ≡ true → t c ≡ false → (b == c) ≡ false
no-such t b c h g = apart t b c (λ e. false≢true (sym g ∙ sym e ∙ h))

none-such : (t : ℕ → Bool) (b : ℕ) (cs : List ℕ) → t b ≡ true → list_any t cs ≡ false → list_any (λ c. c == b) cs ≡ false
none-such t b [] h g = refl
none-such t b (c ∷ cs) h g =
    let parts = or_parts (t c) (list_any t cs) g in
    or_from (c == b) (list_any (λ c. c == b) cs) (apart t c b (λ e. false≢true (sym parts.0 ∙ e ∙ h))) (none-such t b cs h parts.1)

-- bytes of a test that no separator passes part nothing
parts-nothing : (t : ℕ → Bool) → list_any t separators ≡ false → (b : ℕ) → t b ≡ true → not (is_separator b) ≡ true
parts-nothing t g b h = ap not (none-such t b separators h g)

-- a test that is weaker passes too
weaker : (t u : ℕ → Bool) → ((b : ℕ) → t b ≡ true → u b ≡ true) → (bs : List ℕ) → list_all t bs ≡ true → list_all u bs ≡ true
weaker t u w [] h = refl
weaker t u w (b ∷ bs) h =
    let parts = and_parts (t b) (list_all t bs) h in
    and_from (u b) (list_all u bs) (w b parts.0) (weaker t u w bs parts.1)

-- letters, digits and `_` are words, and names
bytes-word : (bs : List ℕ) → list_all is_word_byte bs ≡ true → is_word bs ≡ true
bytes-word bs h = weaker is_word_byte (λ b. not (is_separator b)) (parts-nothing is_word_byte refl) bs h

no-mark : (b : ℕ) → is_word_byte b ≡ true → (not (b == 46) && not (b == 64)) ≡ true
no-mark b h = and_from (not (b == 46)) (not (b == 64)) (ap not (no-such is_word_byte b 46 h refl)) (ap not (no-such is_word_byte b 64 h refl))

bytes-name : (bs : List ℕ) → list_all is_word_byte bs ≡ true → is_name bs ≡ true
bytes-name bs h =
    and_from (is_word bs) (list_all (λ b. not (b == 46) && not (b == 64)) bs) (bytes-word bs h) (weaker is_word_byte (λ b. not (b == 46) && not (b == 64)) no-mark bs h)

token-bytes : (text : List ℕ) → is_token_word text ≡ true → list_all is_word_byte text ≡ true
token-bytes [] h = absurd (false≢true h)
token-bytes (b ∷ bs) h =
    let parts = and_parts (begins_word b) (list_all is_word_byte bs) h in
    and_from (is_word_byte b) (list_all is_word_byte bs) (or_left (begins_word b) _ parts.0) parts.1

-- An identifier is a name.
pub identifier-name : (text : List ℕ) → is_identifier text ≡ true → is_name text ≡ true
identifier-name text h = bytes-name text (token-bytes text (and_parts (is_token_word text) (not (is_keyword text)) h).0)

-- A name is a word.
pub name-word : (text : List ℕ) → is_name text ≡ true → is_word text ≡ true
name-word text h = (and_parts (is_word text) (list_all (λ b. not (b == 46) && not (b == 64)) text) h).0

-- A keyword is a word.
pub keyword-word : (text : List ℕ) → is_keyword text ≡ true → is_word text ≡ true
keyword-word text h = among_passes is_word keywords text refl h

-- A plain path is a word.
pub path-word : (path : List ℕ) → is_plain_path path ≡ true → is_word path ≡ true
path-word path h =
    let front = (and_parts _ (are_plain_components path) h).0 in
    weaker is_path_byte (λ b. not (is_separator b)) (parts-nothing is_path_byte refl) path (and_parts _ (are_path_bytes path) front).1
