mod MergingLemmas
mod ArcLemmas
