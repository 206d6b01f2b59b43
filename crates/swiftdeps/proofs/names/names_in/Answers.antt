use Rattle.std.proofs.Common.{ℕ, List, subst}
use Rattle.swiftdeps.specs.Written.{texts_in, Adds}
use Rattle.swiftdeps.proofs.NameLaws.{names_are}
use Rattle.swiftdeps.proofs.names.names_in.Goals as goal

pub returns : goal.returns
returns c =
    names_are c.args.files.now c.add_files.new.texts c.in_ok-names.names (subst (λ (a : List (List ℕ)). Adds (texts_in c.args.files.now) a c.add_files.new.texts) c.new-met.ensures c.in_ok-add_files.ensures)
    c.in_ok-names.ensures.permutation c.in_ok-names.ensures.ascending
