pub mod LineLemmas
pub mod PathLemmas
pub mod PathOrderLemmas
pub mod MergeLemmas
pub mod MissingLemmas
pub mod OneOrderLemmas
pub mod AnyOrderLemmas
pub mod TextLawLemmas
