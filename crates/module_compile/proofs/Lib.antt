pub mod CompiledLemmas
