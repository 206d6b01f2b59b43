mod SetLemmas
mod Entering
mod FoundLemmas
