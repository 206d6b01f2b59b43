pub mod ImagesLemmas
pub mod CommitLemmas
pub mod ActsLemmas
pub mod MomentsLemmas
