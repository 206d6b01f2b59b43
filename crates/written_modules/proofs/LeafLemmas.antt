-- The names and the labels among the tokens of a text.
use Rattle.std.proofs.Common.{◌≡◌, ℕ, Bool, true, false, List, [], ◌∷◌, ◌++◌, refl, sym, ◌∙◌}
use Rattle.std.specs.Prelude.{◌==◌, codes, if◌then◌else◌}
use Rattle.std.specs.List.{list_any, AllByRecursion}
use Rattle.std.specs.Str.{bytes_eq}
use Rattle.std.proofs.lemmas.Bool.{or_parts, false≢true}
use Rattle.swift_ast.specs.declared.tokens.TokenKind.{TokenKind}
use Rattle.swift_ast.specs.declared.tokens.TokenKind.TheVariants as kind
use Rattle.swift_ast.specs.declared.terminals.Terminal.{Terminal}
use Rattle.swift_ast.specs.declared.terminals.Terminal.TheVariants as T
use Rattle.swift_ast.specs.Leaves.{Leaf}
use Rattle.swift_ast.specs.Terminals.{terminal_of, keyword_terminal, mark_terminal, number}
use Rattle.swift_ast.specs.Tests.{one_of}
use Rattle.swift_token.specs.Texts.{is_token_text}
use Rattle.swift_token.specs.Faults.{SpellsTo}
use Rattle.type_infer.specs.Plain.{is_word, is_name}
use Rattle.written_modules.proofs.WordLemmas.{identifier-name, name-word, keyword-word}

-- what the grammar takes for a name, and what for a label
abbrev pub can_name : Terminal → Bool
can_name k = number k == number T.Identifier

abbrev pub can_label : Terminal → Bool
can_label = one_of (T.Identifier ∷ T.Wildcard ∷ [])

-- Where the grammar takes it for a name it is one, and where for a label it is a word.
pub record IsGoodText (kind : TokenKind) (text : List ℕ) : Type 0 where
  pub name : can_name (terminal_of kind text) ≡ true → is_name text ≡ true
  pub label : can_label (terminal_of kind text) ≡ true → is_word text ≡ true

abbrev pub Good : Leaf → Type 0
Good t = IsGoodText t.kind t.text

-- the terminal of a text, by a table of spellings
abbrev spelled : List ℕ → List (List ℕ × Terminal) → Terminal
spelled text [] = T.Unused
spelled text (row ∷ rows) = if bytes_eq text row.0 then row.1 else spelled text rows

abbrev keyword_rows : List (List ℕ × Terminal)
keyword_rows =
    (codes "let", T.Let) ∷ (codes "var", T.Var) ∷ (codes "func", T.Func) ∷ (codes "struct", T.Struct) ∷ (codes "extension", T.Extension)
    ∷ (codes "typealias", T.Typealias) ∷ (codes "return", T.Return) ∷ (codes "if", T.If) ∷ (codes "else", T.Else) ∷ (codes "while", T.While)
    ∷ (codes "true", T.True) ∷ (codes "false", T.False) ∷ (codes "self", T.SelfValue) ∷ (codes "private", T.Private) ∷ (codes "fileprivate", T.Fileprivate)
    ∷ (codes "internal", T.Internal) ∷ (codes "public", T.Public) ∷ (codes "_", T.Wildcard) ∷ []

abbrev mark_rows : List (List ℕ × Terminal)
mark_rows =
    (codes "(", T.LeftParenthesis) ∷ (codes ")", T.RightParenthesis) ∷ (codes "{", T.LeftBrace) ∷ (codes "}", T.RightBrace) ∷ (codes ",", T.Comma)
    ∷ (codes ":", T.Colon) ∷ (codes ".", T.Dot) ∷ (codes "->", T.Arrow) ∷ (codes "=", T.Assign) ∷ (codes "==", T.Equal)
    ∷ (codes "!=", T.NotEqual) ∷ (codes "<", T.Less) ∷ (codes "<=", T.LessOrEqual) ∷ (codes ">", T.Greater) ∷ (codes ">=", T.GreaterOrEqual)
    ∷ (codes "+", T.Plus) ∷ (codes "-", T.Minus) ∷ (codes "*", T.Times) ∷ (codes "/", T.Divide) ∷ (codes "%", T.Remainder)
    ∷ (codes "&&", T.And) ∷ (codes "||", T.Or) ∷ (codes "!", T.Not) ∷ []

-- what neither of two passes, their choice doesn't
neither : (t : Terminal → Bool) (b : Bool) (x y : Terminal) → t x ≡ false → t y ≡ false → t (if b then x else y) ≡ false
neither t true x y h g = h
neither t false x y h g = g

-- what no terminal of the table passes, none that is read from it does
none-spelled : (t : Terminal → Bool) (text : List ℕ) (rows : List (List ℕ × Terminal)) → t T.Unused ≡ false → list_any (λ row. t row.1) rows ≡ false → t (spelled text rows) ≡ false
none-spelled t text [] u h = u
none-spelled t text (row ∷ rows) u h =
    let parts = or_parts (t row.1) (list_any (λ row. t row.1) rows) h in
    neither t (bytes_eq text row.0) row.1 (spelled text rows) parts.0 (none-spelled t text rows u parts.1)

keyword-names-none : (text : List ℕ) → can_name (keyword_terminal text) ≡ false
unfolding keyword_terminal
keyword-names-none text = none-spelled can_name text keyword_rows refl refl

mark-labels-none : (text : List ℕ) → can_label (mark_terminal text) ≡ false
unfolding mark_terminal
mark-labels-none text = none-spelled can_label text mark_rows refl refl

mark-names-none : (text : List ℕ) → can_name (mark_terminal text) ≡ false
mark-names-none text = (or_parts (can_name (mark_terminal text)) (one_of (T.Wildcard ∷ []) (mark_terminal text)) (mark-labels-none text)).0

good-text : (k : TokenKind) (text : List ℕ) → is_token_text k text ≡ true → IsGoodText k text
good-text kind.Identifier text h = record { name = λ e. identifier-name text h; label = λ e. name-word text (identifier-name text h) }
good-text kind.Keyword text h = record { name = λ e. absurd (false≢true (sym (keyword-names-none text) ∙ e)); label = λ e. keyword-word text h }
good-text kind.Integer text h = record { name = λ e. absurd (false≢true e); label = λ e. absurd (false≢true e) }
good-text kind.StringText text h = record { name = λ e. absurd (false≢true e); label = λ e. absurd (false≢true e) }
good-text kind.Mark text h = record { name = λ e. absurd (false≢true (sym (mark-names-none text) ∙ e)); label = λ e. absurd (false≢true (sym (mark-labels-none text) ∙ e)) }

-- The tokens that spell a text are good.
pub spelled-good : (End : List ℕ → List ℕ → Type 0) (before : List ℕ) (ts : List Leaf) (rest : List ℕ) → SpellsTo End before ts rest → AllByRecursion Good ts
spelled-good End before [] rest h = tt
spelled-good End before (t ∷ ts) rest h = (good-text t.kind t.text h.4.spelled, spelled-good End (before ++ (h.0 ++ t.text)) ts h.1 h.6)
