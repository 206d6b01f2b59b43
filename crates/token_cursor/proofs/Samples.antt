-- A token of each test.
use Rattle.std.proofs.Common.{◌≡◌, ◌==◌, ℕ, true, false, refl, arith}
use Rattle.swift_ast.specs.declared.terminals.Terminal.TheVariants as T
use Rattle.swift_ast.specs.Leaves.{Leaf}
use Rattle.swift_ast.specs.Terminals.{number}
use Rattle.swift_ast.specs.Tests.{on}
use Rattle.swift_ast.proofs.TestFacts.{sample, sample_on}
use Rattle.token_cursor.specs.declared.token_class.TokenClass.{TokenClass}
use Rattle.token_cursor.specs.declared.token_class.TokenClass.TheVariants as test
use Rattle.token_cursor.specs.Reading.{test_of}

abbrev pub sample_of : TokenClass → Leaf
sample_of (test.Is k) = sample true k
sample_of test.PrefixOperator = sample true T.Not
sample_of test.InfixOperator = sample true T.Plus
sample_of test.BeginsPart = sample true T.Dot
sample_of test.OpensArgs = sample false T.LeftParenthesis
sample_of test.BeginsStmt = sample true T.Return
sample_of test.BeginsNextStmt = sample true T.Return
sample_of test.BeginsValue = sample false T.Integer
sample_of test.Label = sample true T.Wildcard
sample_of test.BeginsNextDecl = sample true T.Let
sample_of test.BeginsStructMember = sample true T.Let
sample_of test.BeginsNextStructMember = sample true T.Let
sample_of test.BeginsExtensionMember = sample true T.Var
sample_of test.BeginsNextExtensionMember = sample true T.Var

equal_to_itself : (n : ℕ) → (n == n) ≡ true
equal_to_itself n = grind arith

pub sample_holds : (t : TokenClass) → on (test_of t) (sample_of t) ≡ true
sample_holds (test.Is k) = sample_on (test_of (test.Is k)) true k (equal_to_itself (number k))
sample_holds test.PrefixOperator = sample_on (test_of test.PrefixOperator) true T.Not refl
sample_holds test.InfixOperator = sample_on (test_of test.InfixOperator) true T.Plus refl
sample_holds test.BeginsPart = sample_on (test_of test.BeginsPart) true T.Dot refl
sample_holds test.OpensArgs = sample_on (test_of test.OpensArgs) false T.LeftParenthesis refl
sample_holds test.BeginsStmt = sample_on (test_of test.BeginsStmt) true T.Return refl
sample_holds test.BeginsNextStmt = sample_on (test_of test.BeginsNextStmt) true T.Return refl
sample_holds test.BeginsValue = sample_on (test_of test.BeginsValue) false T.Integer refl
sample_holds test.Label = sample_on (test_of test.Label) true T.Wildcard refl
sample_holds test.BeginsNextDecl = sample_on (test_of test.BeginsNextDecl) true T.Let refl
sample_holds test.BeginsStructMember = sample_on (test_of test.BeginsStructMember) true T.Let refl
sample_holds test.BeginsNextStructMember = sample_on (test_of test.BeginsNextStructMember) true T.Let refl
sample_holds test.BeginsExtensionMember = sample_on (test_of test.BeginsExtensionMember) true T.Var refl
sample_holds test.BeginsNextExtensionMember = sample_on (test_of test.BeginsNextExtensionMember) true T.Var refl
