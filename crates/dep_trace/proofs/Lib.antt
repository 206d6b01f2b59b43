mod TraceLemmas
mod FollowLemmas
