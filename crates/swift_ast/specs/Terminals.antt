-- What a token is to the grammar: its terminal.
use Rattle.std.specs.Prelude.{ℕ, List, [], ◌∷◌, codes, if◌then◌else◌}
use Rattle.std.specs.Str.{bytes_eq}
use Rattle.swift_ast.specs.declared.tokens.TokenKind.{TokenKind}
use Rattle.swift_ast.specs.declared.tokens.TokenKind.TheVariants as kind
use Rattle.swift_ast.specs.declared.terminals.Terminal.{Terminal}
use Rattle.swift_ast.specs.declared.terminals.Terminal.TheVariants as T
use Rattle.swift_ast.specs.Leaves.{Leaf}

-- each keyword that the grammar names, by its spelling
unfoldable pub keyword_terminal : List ℕ → Terminal
keyword_terminal text =
    if bytes_eq text (codes "let") then T.Let else
    if bytes_eq text (codes "var") then T.Var else
    if bytes_eq text (codes "func") then T.Func else
    if bytes_eq text (codes "struct") then T.Struct else
    if bytes_eq text (codes "extension") then T.Extension else
    if bytes_eq text (codes "typealias") then T.Typealias else
    if bytes_eq text (codes "return") then T.Return else
    if bytes_eq text (codes "if") then T.If else
    if bytes_eq text (codes "else") then T.Else else
    if bytes_eq text (codes "while") then T.While else
    if bytes_eq text (codes "true") then T.True else
    if bytes_eq text (codes "false") then T.False else
    if bytes_eq text (codes "self") then T.SelfValue else
    if bytes_eq text (codes "private") then T.Private else
    if bytes_eq text (codes "fileprivate") then T.Fileprivate else
    if bytes_eq text (codes "internal") then T.Internal else
    if bytes_eq text (codes "public") then T.Public else
    if bytes_eq text (codes "_") then T.Wildcard else
    T.Unused

-- each mark, by its spelling
unfoldable pub mark_terminal : List ℕ → Terminal
mark_terminal text =
    if bytes_eq text (codes "(") then T.LeftParenthesis else
    if bytes_eq text (codes ")") then T.RightParenthesis else
    if bytes_eq text (codes "{") then T.LeftBrace else
    if bytes_eq text (codes "}") then T.RightBrace else
    if bytes_eq text (codes ",") then T.Comma else
    if bytes_eq text (codes ":") then T.Colon else
    if bytes_eq text (codes ".") then T.Dot else
    if bytes_eq text (codes "->") then T.Arrow else
    if bytes_eq text (codes "=") then T.Assign else
    if bytes_eq text (codes "==") then T.Equal else
    if bytes_eq text (codes "!=") then T.NotEqual else
    if bytes_eq text (codes "<") then T.Less else
    if bytes_eq text (codes "<=") then T.LessOrEqual else
    if bytes_eq text (codes ">") then T.Greater else
    if bytes_eq text (codes ">=") then T.GreaterOrEqual else
    if bytes_eq text (codes "+") then T.Plus else
    if bytes_eq text (codes "-") then T.Minus else
    if bytes_eq text (codes "*") then T.Times else
    if bytes_eq text (codes "/") then T.Divide else
    if bytes_eq text (codes "%") then T.Remainder else
    if bytes_eq text (codes "&&") then T.And else
    if bytes_eq text (codes "||") then T.Or else
    if bytes_eq text (codes "!") then T.Not else
    T.Unused

-- a name, an integer and a string by their kind alone
abbrev pub terminal_of : TokenKind → List ℕ → Terminal
terminal_of kind.Identifier text = T.Identifier
terminal_of kind.Integer text = T.Integer
terminal_of kind.StringText text = T.StringText
terminal_of kind.Keyword text = keyword_terminal text
terminal_of kind.Mark text = mark_terminal text

abbrev pub terminal : Leaf → Terminal
terminal t = terminal_of t.kind t.text

-- each terminal
abbrev pub terminals : List Terminal
terminals =
    T.Identifier ∷ T.Integer ∷ T.StringText ∷ T.Let ∷ T.Var ∷ T.Func ∷ T.Struct ∷ T.Extension ∷ T.Typealias ∷ T.Return ∷
    T.If ∷ T.Else ∷ T.While ∷ T.True ∷ T.False ∷ T.SelfValue ∷ T.Private ∷ T.Fileprivate ∷ T.Internal ∷ T.Public ∷
    T.Wildcard ∷ T.LeftParenthesis ∷ T.RightParenthesis ∷ T.LeftBrace ∷ T.RightBrace ∷ T.Comma ∷ T.Colon ∷ T.Dot ∷ T.Arrow ∷ T.Assign ∷
    T.Equal ∷ T.NotEqual ∷ T.Less ∷ T.LessOrEqual ∷ T.Greater ∷ T.GreaterOrEqual ∷ T.Plus ∷ T.Minus ∷ T.Times ∷ T.Divide ∷
    T.Remainder ∷ T.And ∷ T.Or ∷ T.Not ∷ T.Unused ∷ []

-- its place among them
abbrev pub number : Terminal → ℕ
number T.Identifier = 0
number T.Integer = 1
number T.StringText = 2
number T.Let = 3
number T.Var = 4
number T.Func = 5
number T.Struct = 6
number T.Extension = 7
number T.Typealias = 8
number T.Return = 9
number T.If = 10
number T.Else = 11
number T.While = 12
number T.True = 13
number T.False = 14
number T.SelfValue = 15
number T.Private = 16
number T.Fileprivate = 17
number T.Internal = 18
number T.Public = 19
number T.Wildcard = 20
number T.LeftParenthesis = 21
number T.RightParenthesis = 22
number T.LeftBrace = 23
number T.RightBrace = 24
number T.Comma = 25
number T.Colon = 26
number T.Dot = 27
number T.Arrow = 28
number T.Assign = 29
number T.Equal = 30
number T.NotEqual = 31
number T.Less = 32
number T.LessOrEqual = 33
number T.Greater = 34
number T.GreaterOrEqual = 35
number T.Plus = 36
number T.Minus = 37
number T.Times = 38
number T.Divide = 39
number T.Remainder = 40
number T.And = 41
number T.Or = 42
number T.Not = 43
number T.Unused = 44
