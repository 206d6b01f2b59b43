-- What the parser gives is written.
use Rattle.std.proofs.Common.{ℕ, List, [], refl, sym, subst}
use Rattle.swift_token.specs.Trivia.{IsLastTrivia}
use Rattle.swift_parser.specs.Whole.{IsTreeOf}
use Rattle.swift_ast.specs.declared.declarations.FileTree.{FileTree}
use Rattle.written_modules.specs.Written.{IsWrittenTree, ParsedTreesAreWritten}
use Rattle.written_modules.proofs.LeafLemmas.{spelled-good}
use Rattle.written_modules.proofs.TreeLemmas.{AreGood, tree-written}

-- The tree of a text is written: its tokens spell the text.
of-text : (path text : List ℕ) (tree : FileTree) → IsTreeOf path text tree → IsWrittenTree tree
of-text path text tree h =
    let whole = h.1.2 in
    tree-written tree (subst AreGood (sym whole.1) (spelled-good (λ before rest. IsLastTrivia rest) [] h.1.0 text h.1.1)) whole.0

pub parsed-written : ParsedTreesAreWritten
parsed-written path text tree h = of-text path text tree ((h.0 tree).0 refl)
