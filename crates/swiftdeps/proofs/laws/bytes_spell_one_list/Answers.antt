use Rattle.std.proofs.Common.{◌≡◌, ℕ, List, false, sym, ap, ◌∙◌}
use Rattle.dep_key.specs.declared.graph.FileGraph.{FileGraph}
use Rattle.swiftdeps.proofs.Complete.{bytes_again}
use Rattle.swiftdeps.proofs.Taking.{ok_is}
use Rattle.swiftdeps.proofs.laws.bytes_spell_one_list.Goals as goal

pub returns : goal.returns
returns c = λ bytes version other files others v w h g.
    let same : (version, files) ≡ (other, others) = ok_is (version, files) (other, others) (sym (bytes_again false version files bytes v (λ e. absurd cc) h) ∙ bytes_again false other others bytes w (λ e. absurd cc) g) in
    (ap (λ (x : ℕ × List FileGraph). x.0) same, ap (λ (x : ℕ × List FileGraph). x.1) same)
