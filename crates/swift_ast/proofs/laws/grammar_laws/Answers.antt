use Rattle.grammar.proofs.Wholes.{one_whole}
use Rattle.swift_ast.specs.Expressions.{expr_form}
use Rattle.swift_ast.specs.Statements.{block_form}
use Rattle.swift_ast.specs.Declarations.{decls_form}
use Rattle.swift_ast.proofs.ExpressionLaws.{expr_one}
use Rattle.swift_ast.proofs.StatementLaws.{block_one}
use Rattle.swift_ast.proofs.DeclarationLaws.{decls_one}
use Rattle.swift_ast.proofs.DeclarationLevels.{decls_balanced}
use Rattle.swift_ast.proofs.laws.grammar_laws.Goals as goal

pub returns-clause-file : goal.returns-clause-file
returns-clause-file c = λ ts v w. one_whole decls_form ts decls_one v w

pub returns-clause-expression : goal.returns-clause-expression
returns-clause-expression c = λ ts v w. one_whole expr_form ts expr_one v w

pub returns-clause-block : goal.returns-clause-block
returns-clause-block c = λ ts v w. one_whole block_form ts block_one v w

pub returns-clause-brackets : goal.returns-clause-brackets
returns-clause-brackets c = decls_balanced
