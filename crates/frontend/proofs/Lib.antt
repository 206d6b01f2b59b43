pub mod ParsingLemmas
