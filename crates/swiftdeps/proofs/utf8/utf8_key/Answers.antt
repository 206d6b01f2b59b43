use Rattle.std.proofs.Common.{subst}
use Rattle.std.specs.Prelude.{IsUtf8}
use Rattle.swiftdeps.proofs.utf8.utf8_key.Goals as goal

pub returns : goal.returns
returns c = (subst IsUtf8 c.as_str.ensures c.utf8_text.ensures, (subst IsUtf8 c.as_str-2.ensures c.utf8_text-2.ensures, tt))
