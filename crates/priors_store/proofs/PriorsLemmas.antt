-- Bytes are the priors of one graph.
use Rattle.std.proofs.Common.{◌≡◌, ℕ, List, false, sym, ap, ◌∙◌}
use Rattle.dep_key.specs.declared.graph.FileGraph.{FileGraph}
use Rattle.swiftdeps.proofs.Complete.{bytes_again}
use Rattle.swiftdeps.proofs.Taking.{ok_is}
use Rattle.priors_store.specs.Priors.{ArePriors, recorded}

pub one_graph : (bytes : List ℕ) (version other : ℕ) (files others : List FileGraph) → ArePriors version files bytes → ArePriors other others bytes → (version ≡ other) × (files ≡ others)
one_graph bytes version other files others h g =
    let same : (version, h.spelled) ≡ (other, g.spelled) = ok_is (version, h.spelled) (other, g.spelled) (sym (bytes_again false version h.spelled bytes h.is_known (λ e. absurd cc) h.spell) ∙ bytes_again false other g.spelled bytes g.is_known (λ e. absurd cc) g.spell) in
    (ap (λ (x : ℕ × List FileGraph). x.0) same, h.graph ∙ ap (λ (x : ℕ × List FileGraph). recorded x.0 x.1) same ∙ sym g.graph)
