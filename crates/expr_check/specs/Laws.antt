-- What checking an expression depends on.
use Rattle.std.specs.Prelude.{◌≡◌}
use Rattle.queries.specs.Queries.{Among, dependencies}
use Rattle.dep_key.specs.declared.key.Key.{Key}
use Rattle.type_rules.specs.declared.meaning.Meaning.{Meaning}
use Rattle.swift_ast.specs.declared.expressions.Expr.{Expr}
use Rattle.checks.specs.Logs.{Logged, made}
use Rattle.expr_check.specs.declared.line.Line.{Line}
use Rattle.expr_check.specs.declared.scope.Scope.{Scope}
use Rattle.expr_check.specs.Messages.{orders}
use Rattle.expr_check.specs.Phrases.{expr_phrase}

-- where keys mean the same in two modules, at each key that checking an expression asks, it gives, says and asks the same in both
abbrev pub SameMeaningsMakeTheSame : Type 0
SameMeaningsMakeTheSame = (meanings others : Key → Meaning) (tree : Expr) (s : Scope) (log : Logged Key Line) →
    ((key : Key) → Among (dependencies meanings ((expr_phrase tree).check s)) key → meanings key ≡ others key) →
    made orders meanings ((expr_phrase tree).check s) log ≡ made orders others ((expr_phrase tree).check s) log
