pub mod ArgumentLemmas
pub mod Chains
pub mod CheckLaws
pub mod Lists
pub mod MemberLemmas
pub mod TreeLemmas
