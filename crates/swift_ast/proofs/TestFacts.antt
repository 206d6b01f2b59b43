-- Facts about tests of tokens, by computation over all terminals.
use Rattle.std.proofs.Common.{◌≡◌, ℕ, ◌==◌, Bool, true, List, [], ◌∷◌, Some, codes, refl, sym, ◌∙◌, ap, subst}
use Rattle.std.proofs.lemmas.Bool.{eqb-true}
use Rattle.grammar.specs.Forms.{token, begins_by}
use Rattle.grammar.specs.Faults.{AreDisjoint, IsSubset, Begins, Stops}
use Rattle.grammar.specs.Levels.{Plain}
use Rattle.grammar.specs.Tests.{at_place, HasEach, are_apart, is_within}
use Rattle.grammar.proofs.TestLemmas.{tests_apart, tests_within}
use Rattle.grammar.proofs.Sequences.{token_some}
use Rattle.grammar.proofs.Basics.{or_both, not_true, both_false, apart_stops}
use Rattle.swift_ast.specs.declared.tokens.TokenKind.TheVariants as kind
use Rattle.swift_ast.specs.declared.terminals.Terminal.{Terminal}
use Rattle.swift_ast.specs.declared.terminals.Terminal.TheVariants as T
use Rattle.swift_ast.specs.Leaves.{Leaf}
use Rattle.swift_ast.specs.Terminals.{terminal, terminals, number, keyword_terminal, mark_terminal}
use Rattle.swift_ast.specs.Tests.{Test, on, is, opens_level, closes_level, among, or}

pub all_terminals : HasEach terminals number
all_terminals T.Identifier = refl
all_terminals T.Integer = refl
all_terminals T.StringText = refl
all_terminals T.Let = refl
all_terminals T.Var = refl
all_terminals T.Func = refl
all_terminals T.Struct = refl
all_terminals T.Extension = refl
all_terminals T.Typealias = refl
all_terminals T.Return = refl
all_terminals T.If = refl
all_terminals T.Else = refl
all_terminals T.While = refl
all_terminals T.True = refl
all_terminals T.False = refl
all_terminals T.SelfValue = refl
all_terminals T.Private = refl
all_terminals T.Fileprivate = refl
all_terminals T.Internal = refl
all_terminals T.Public = refl
all_terminals T.Wildcard = refl
all_terminals T.LeftParenthesis = refl
all_terminals T.RightParenthesis = refl
all_terminals T.LeftBrace = refl
all_terminals T.RightBrace = refl
all_terminals T.Comma = refl
all_terminals T.Colon = refl
all_terminals T.Dot = refl
all_terminals T.Arrow = refl
all_terminals T.Assign = refl
all_terminals T.Equal = refl
all_terminals T.NotEqual = refl
all_terminals T.Less = refl
all_terminals T.LessOrEqual = refl
all_terminals T.Greater = refl
all_terminals T.GreaterOrEqual = refl
all_terminals T.Plus = refl
all_terminals T.Minus = refl
all_terminals T.Times = refl
all_terminals T.Divide = refl
all_terminals T.Remainder = refl
all_terminals T.And = refl
all_terminals T.Or = refl
all_terminals T.Not = refl
all_terminals T.Unused = refl

some_is : {X : Type 0} (x y : X) → Some x ≡ Some y → x ≡ y
some_is x y e = cc

-- a terminal is told by its number
pub terminal_is : (a b : Terminal) → (number a == number b) ≡ true → a ≡ b
terminal_is a b e = some_is a b (sym (all_terminals a) ∙ ap (λ n. at_place terminals n) (eqb-true (number a) (number b) e) ∙ all_terminals b)

-- a token of a terminal has it
pub is_terminal : (k : Terminal) (t : Leaf) → on (is k) t ≡ true → terminal t ≡ k
is_terminal k t e = terminal_is (terminal t) k e

pub apart : (one two : Test) → are_apart one two terminals ≡ true → AreDisjoint (on one) (on two)
apart one two e t m = tests_apart terminals number all_terminals one two e (terminal t) t.first_on_line m

pub within : (one two : Test) → is_within one two terminals ≡ true → IsSubset (on one) (on two)
within one two e t m = tests_within terminals number all_terminals one two e (terminal t) t.first_on_line m

pub plain : (test : Test) → are_apart test opens_level terminals ≡ true → are_apart test closes_level terminals ≡ true → Plain (on opens_level) (on closes_level) (on test)
plain test e h t m = (apart test opens_level e t m, apart test closes_level h t m)

-- ---- a token of each terminal

word_sample : Bool → List ℕ → Leaf
word_sample first text = record { kind = kind.Keyword; text = text; first_on_line = first; line = 1; column = 1 }

mark_sample : Bool → List ℕ → Leaf
mark_sample first text = record { kind = kind.Mark; text = text; first_on_line = first; line = 1; column = 1 }

-- a token of a terminal, first on its line or not
pub sample : Bool → Terminal → Leaf
sample first T.Identifier = record { kind = kind.Identifier; text = []; first_on_line = first; line = 1; column = 1 }
sample first T.Integer = record { kind = kind.Integer; text = []; first_on_line = first; line = 1; column = 1 }
sample first T.StringText = record { kind = kind.StringText; text = []; first_on_line = first; line = 1; column = 1 }
sample first T.Let = word_sample first (codes "let")
sample first T.Var = word_sample first (codes "var")
sample first T.Func = word_sample first (codes "func")
sample first T.Struct = word_sample first (codes "struct")
sample first T.Extension = word_sample first (codes "extension")
sample first T.Typealias = word_sample first (codes "typealias")
sample first T.Return = word_sample first (codes "return")
sample first T.If = word_sample first (codes "if")
sample first T.Else = word_sample first (codes "else")
sample first T.While = word_sample first (codes "while")
sample first T.True = word_sample first (codes "true")
sample first T.False = word_sample first (codes "false")
sample first T.SelfValue = word_sample first (codes "self")
sample first T.Private = word_sample first (codes "private")
sample first T.Fileprivate = word_sample first (codes "fileprivate")
sample first T.Internal = word_sample first (codes "internal")
sample first T.Public = word_sample first (codes "public")
sample first T.Wildcard = word_sample first (codes "_")
sample first T.LeftParenthesis = mark_sample first (codes "(")
sample first T.RightParenthesis = mark_sample first (codes ")")
sample first T.LeftBrace = mark_sample first (codes "{")
sample first T.RightBrace = mark_sample first (codes "}")
sample first T.Comma = mark_sample first (codes ",")
sample first T.Colon = mark_sample first (codes ":")
sample first T.Dot = mark_sample first (codes ".")
sample first T.Arrow = mark_sample first (codes "->")
sample first T.Assign = mark_sample first (codes "=")
sample first T.Equal = mark_sample first (codes "==")
sample first T.NotEqual = mark_sample first (codes "!=")
sample first T.Less = mark_sample first (codes "<")
sample first T.LessOrEqual = mark_sample first (codes "<=")
sample first T.Greater = mark_sample first (codes ">")
sample first T.GreaterOrEqual = mark_sample first (codes ">=")
sample first T.Plus = mark_sample first (codes "+")
sample first T.Minus = mark_sample first (codes "-")
sample first T.Times = mark_sample first (codes "*")
sample first T.Divide = mark_sample first (codes "/")
sample first T.Remainder = mark_sample first (codes "%")
sample first T.And = mark_sample first (codes "&&")
sample first T.Or = mark_sample first (codes "||")
sample first T.Not = mark_sample first (codes "!")
sample first T.Unused = mark_sample first []

pub sample_terminal : (first : Bool) (k : Terminal) → terminal (sample first k) ≡ k
unfolding word_sample mark_sample sample keyword_terminal mark_terminal
sample_terminal first T.Identifier = refl
sample_terminal first T.Integer = refl
sample_terminal first T.StringText = refl
sample_terminal first T.Let = refl
sample_terminal first T.Var = refl
sample_terminal first T.Func = refl
sample_terminal first T.Struct = refl
sample_terminal first T.Extension = refl
sample_terminal first T.Typealias = refl
sample_terminal first T.Return = refl
sample_terminal first T.If = refl
sample_terminal first T.Else = refl
sample_terminal first T.While = refl
sample_terminal first T.True = refl
sample_terminal first T.False = refl
sample_terminal first T.SelfValue = refl
sample_terminal first T.Private = refl
sample_terminal first T.Fileprivate = refl
sample_terminal first T.Internal = refl
sample_terminal first T.Public = refl
sample_terminal first T.Wildcard = refl
sample_terminal first T.LeftParenthesis = refl
sample_terminal first T.RightParenthesis = refl
sample_terminal first T.LeftBrace = refl
sample_terminal first T.RightBrace = refl
sample_terminal first T.Comma = refl
sample_terminal first T.Colon = refl
sample_terminal first T.Dot = refl
sample_terminal first T.Arrow = refl
sample_terminal first T.Assign = refl
sample_terminal first T.Equal = refl
sample_terminal first T.NotEqual = refl
sample_terminal first T.Less = refl
sample_terminal first T.LessOrEqual = refl
sample_terminal first T.Greater = refl
sample_terminal first T.GreaterOrEqual = refl
sample_terminal first T.Plus = refl
sample_terminal first T.Minus = refl
sample_terminal first T.Times = refl
sample_terminal first T.Divide = refl
sample_terminal first T.Remainder = refl
sample_terminal first T.And = refl
sample_terminal first T.Or = refl
sample_terminal first T.Not = refl
sample_terminal first T.Unused = refl

pub sample_first : (first : Bool) (k : Terminal) → (sample first k).first_on_line ≡ first
unfolding word_sample mark_sample sample
sample_first first T.Identifier = refl
sample_first first T.Integer = refl
sample_first first T.StringText = refl
sample_first first T.Let = refl
sample_first first T.Var = refl
sample_first first T.Func = refl
sample_first first T.Struct = refl
sample_first first T.Extension = refl
sample_first first T.Typealias = refl
sample_first first T.Return = refl
sample_first first T.If = refl
sample_first first T.Else = refl
sample_first first T.While = refl
sample_first first T.True = refl
sample_first first T.False = refl
sample_first first T.SelfValue = refl
sample_first first T.Private = refl
sample_first first T.Fileprivate = refl
sample_first first T.Internal = refl
sample_first first T.Public = refl
sample_first first T.Wildcard = refl
sample_first first T.LeftParenthesis = refl
sample_first first T.RightParenthesis = refl
sample_first first T.LeftBrace = refl
sample_first first T.RightBrace = refl
sample_first first T.Comma = refl
sample_first first T.Colon = refl
sample_first first T.Dot = refl
sample_first first T.Arrow = refl
sample_first first T.Assign = refl
sample_first first T.Equal = refl
sample_first first T.NotEqual = refl
sample_first first T.Less = refl
sample_first first T.LessOrEqual = refl
sample_first first T.Greater = refl
sample_first first T.GreaterOrEqual = refl
sample_first first T.Plus = refl
sample_first first T.Minus = refl
sample_first first T.Times = refl
sample_first first T.Divide = refl
sample_first first T.Remainder = refl
sample_first first T.And = refl
sample_first first T.Or = refl
sample_first first T.Not = refl
sample_first first T.Unused = refl

pub sample_on : (test : Test) (first : Bool) (k : Terminal) → test k first ≡ true → on test (sample first k) ≡ true
sample_on test first k e = subst (λ z. test z (sample first k).first_on_line ≡ true) (sym (sample_terminal first k)) (subst (λ z. test k z ≡ true) (sym (sample_first first k)) e)

-- some token of a test
pub some_token : (test : Test) (first : Bool) (k : Terminal) → test k first ≡ true → Begins (token (on test)) []
some_token test first k e = token_some (on test) (sample first k) (sample_on test first k e)

-- ---- lists that do not begin with a token of one of several terminals

pub stops_none : (v : List Leaf) → Stops (on (among [])) v
stops_none [] = tt
stops_none (t ∷ v) = refl

pub stops_among : (k : Terminal) (ks : List Terminal) (v : List Leaf) → Stops (on (is k)) v → Stops (on (among ks)) v → Stops (on (among (k ∷ ks))) v
stops_among k ks [] a b = tt
stops_among k ks (t ∷ v) a b = or_both (number (terminal t) == number k) (among ks (terminal t) t.first_on_line) a b

pub stops_either : (one two : Test) (v : List Leaf) → Stops (on one) v → Stops (on two) v → Stops (on (or one two)) v
stops_either one two [] a b = tt
stops_either one two (t ∷ v) a b = or_both (on one t) (on two t) a b

-- a list that stops for a test stops for each narrower one
pub stops_within : (one two : Test) (v : List Leaf) → is_within one two terminals ≡ true → Stops (on two) v → Stops (on one) v
stops_within one two [] e s = tt
stops_within one two (t ∷ v) e s = not_true (on one t) (λ h. both_false (on two t) s (within one two e t h))

-- the next token is of a test that is apart
pub begins_apart : (one two : Test) (v : List Leaf) → are_apart one two terminals ≡ true → begins_by (on one) v ≡ true → Stops (on two) v
begins_apart one two v e h = apart_stops (on one) (on two) v (apart one two e) h
