-- What was found of a key, as contracts see it.
use Rattle.std.specs.Prelude.{Option, Some, None}
use Rattle.expr_check.specs.declared.types.Found as code
use Rattle.expr_check.specs.Types.{Found}

abbrev pub found_view : Option code.Found → Option Found
found_view None = None
found_view (Some f) = Some (f.key, f.meaning.now)
