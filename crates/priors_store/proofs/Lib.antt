mod PriorsLemmas
