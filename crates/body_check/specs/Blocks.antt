-- What a statement leaves of the scope that it stands in.
use Rattle.std.specs.Prelude.{List, [], ◌∷◌}
use Rattle.expr_check.specs.declared.scope.Local.{Local}
use Rattle.expr_check.specs.declared.scope.Scope.{Scope}

-- all blocks but the innermost
abbrev pub outer_blocks : List (List Local) → List (List Local)
outer_blocks [] = []
outer_blocks (block ∷ []) = []
outer_blocks (block ∷ next ∷ blocks) = block ∷ outer_blocks (next ∷ blocks)

-- a scope out of its innermost block
abbrev pub without_innermost : Scope → Scope
without_innermost s = record s { blocks = outer_blocks s.blocks }

-- What no statement changes: all but the innermost block and the types of locals.
abbrev pub surroundings : Scope → Scope
surroundings s = record s { blocks = outer_blocks s.blocks; types = [] }
