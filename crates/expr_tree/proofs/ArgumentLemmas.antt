-- What is made of an argument, by what was made of its value.
use Rattle.std.proofs.Common.{◌≡◌, ℕ, List, Option, Some, None, sym, ap, ◌∙◌}
use Rattle.dep_key.specs.declared.key.Key.{Key}
use Rattle.type_rules.specs.declared.meaning.Meaning.{Meaning}
use Rattle.swift_ast.specs.declared.expressions.Arg.{Arg, out-Arg}
use Rattle.checks.specs.Logs.{Orders, Logged, made}
use Rattle.expr_check.specs.declared.line.Line.{Line}
use Rattle.expr_check.specs.declared.place.Place.{Place}
use Rattle.expr_check.specs.declared.typed.Typed.{Typed}
use Rattle.expr_check.specs.declared.scope.Scope.{Scope}
use Rattle.expr_check.specs.Phrases.{given, label_of, arg_meant, expr_phrase}
use Rattle.expr_tree.proofs.TreeLemmas.{arg_none, arg_made}

pub none_given : (o : Orders Key Line) (meanings : Key → Meaning) (s : Scope) (x : Arg) (value : Option Typed) (old new : Logged Key Line) → value ≡ None →
    (value, new) ≡ made o meanings ((expr_phrase (out-Arg x).value).check s) old → (None, new) ≡ made o meanings (given s (arg_meant x)) old
none_given o meanings s x value old new e h = arg_none o meanings s x old new (ap (λ v. (v, new)) (sym e) ∙ h)

pub one_given : (o : Orders Key Line) (meanings : Key → Meaning) (s : Scope) (x : Arg) (value : Option Typed) (v : Typed) (label : List ℕ) (first : Place) (old new : Logged Key Line) → value ≡ Some v →
    (value, new) ≡ made o meanings ((expr_phrase (out-Arg x).value).check s) old → label ≡ label_of (out-Arg x).label → first ≡ (expr_phrase (out-Arg x).value).first →
    (Some (record { label = label; first = first; value = v }), new) ≡ made o meanings (given s (arg_meant x)) old
one_given o meanings s x value v label first old new e h l f =
    arg_made o meanings s x v (record { label = label; first = first; value = v }) old new (ap (λ v. (v, new)) (sym e) ∙ h) (λ i. record { label = l i; first = f i; value = v })
