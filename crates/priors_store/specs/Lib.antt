pub mod Priors
