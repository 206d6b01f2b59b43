-- The text of each error, and the order of errors.
use Rattle.std.specs.Prelude.{ℕ, List, ◌++◌, codes}
use Rattle.std.specs.declared.cmp.Ordering.{Ordering}
use Rattle.std.specs.Ordering.{nat_cmp, on, then_cmp}
use Rattle.std.specs.Cmp.Lexicographic.{slice_cmp, nat_list_cmp_total}
use Rattle.std.specs.Cmp.{IsTotalOrder, then_total, on_total, nat_cmp_total}
use Rattle.dep_key.specs.declared.key.Key.{Key}
use Rattle.dep_key.specs.KeyOrder.{key_order}
use Rattle.type_rules.specs.Shown.{shown_type}
use Rattle.swift_ast.specs.Leaves.{Leaf}
use Rattle.checks.specs.Logs.{Orders}
use Rattle.expr_check.specs.declared.line.Line.{Line}
use Rattle.expr_check.specs.declared.place.Place.{Place}
use Rattle.expr_check.specs.Message.{Message}
use Rattle.expr_check.specs.Message as is

-- a name in a sentence
abbrev pub about : List ℕ → List ℕ → List ℕ → List ℕ
about before name after = before ++ name ++ after

-- What is said, each below its place and its cause.
unfoldable pub text_of : Message → List ℕ
-- at a value's name that nothing has
text_of (is.NotFound name) = about (codes "cannot find '") name (codes "' in scope")
-- at a type's name that nothing has
text_of (is.TypeNotFound name) = about (codes "cannot find type '") name (codes "' in scope")
-- at a type's name that means neither a struct nor an alias
text_of (is.NotAType name) = about (codes "'") name (codes "' is not a type")
-- at a name or a member that means a type, or a function or `print` that isn't called; at `self` outside of a member
text_of (is.NotAValue name) = about (codes "'") name (codes "' is not a value")
-- at a name or a member whose key has several declarations
text_of (is.Ambiguous name) = about (codes "ambiguous use of '") name (codes "'")
-- At a name or a member whose meaning is broken or circular. Where the stored parts of a struct are so: at the first token of the
-- expression or of the target, at the written type, or at the type's name of the extension, with the name of the struct.
text_of (is.HasErrors name) = about (codes "'") name (codes "' has errors where it is declared")
-- at the name of a declaration that needs itself, or something that is circular
text_of (is.Circular name) = about (codes "circular reference through '") name (codes "'")
-- at the name of each declaration whose key has several declarations, or whose file declares it once more with the other visibility;
-- at each later local of a name in one block, and each later parameter of a name
text_of (is.Redeclared name) = about (codes "invalid redeclaration of '") name (codes "'")
-- at a member that its type doesn't have
text_of (is.NoMember of name) = about (codes "value of type '") (shown_type of) (about (codes "' has no member '") name (codes "'"))
-- at the first token of an expression whose type isn't the one that is asked for: a written type, an argument, an assignment, a
-- result, a condition (`Bool`), what `print` is given (`String`)
text_of (is.NoConversion of wanted) = about (codes "cannot convert value of type '") (shown_type of) (about (codes "' to '") (shown_type wanted) (codes "'"))
-- at the operator
text_of (is.NoBinary operator left right) =
    about (codes "binary operator '") operator (about (codes "' cannot be applied to '") (shown_type left) (about (codes "' and '") (shown_type right) (codes "'")))
-- at the operator
text_of (is.NoUnary operator of) = about (codes "unary operator '") operator (about (codes "' cannot be applied to '") (shown_type of) (codes "'"))
-- at the last name of what is called, where the number of arguments or a label differs
text_of (is.WrongArguments name) = about (codes "wrong arguments in call to '") name (codes "'")
-- at the first token of what is called, where that is a value
text_of (is.NotCallable of) = about (codes "cannot call a value of type '") (shown_type of) (codes "'")
-- at the root or the member that can't be assigned
text_of (is.NotAssignable name) = about (codes "cannot assign to '") name (codes "'")
-- at a `return` without expression, where the result isn't `Void`
text_of (is.ReturnNeedsValue of) = about (codes "'return' needs a value of type '") (shown_type of) (codes "'")
-- at the name of a function or a computed property that falls through, where the result isn't `Void`
text_of (is.MissingReturn of) = about (codes "missing return in a function that returns '") (shown_type of) (codes "'")
-- at the type's name of an extension whose context means no struct
text_of (is.NotAStruct name) = about (codes "extension of '") name (codes "', which is not a struct of this module")
-- at the name of a struct
text_of (is.TooLarge name) = about (codes "struct '") name (codes "' is larger than 1048576 words")

abbrev pub place_of : Leaf → Place
place_of t = record { line = t.line; column = t.column }

-- an error at a place
abbrev pub line : Place → Message → Line
line at what = record { line = at.line; column = at.column; text = text_of what }

-- Errors come by line, column and text.
abbrev pub line_order : Line → Line → Ordering
line_order = then_cmp (on (λ l. l.line) nat_cmp) (then_cmp (on (λ l. l.column) nat_cmp) (on (λ l. l.text) (slice_cmp nat_cmp)))

pub line_order_total : IsTotalOrder line_order
line_order_total =
    then_total (on_total (λ (l : Line). l.line) nat_cmp_total)
    (then_total (on_total (λ (l : Line). l.column) nat_cmp_total) (on_total (λ (l : Line). l.text) nat_list_cmp_total))

abbrev pub orders : Orders Key Line
orders = record { keys = key_order; errors = line_order }
