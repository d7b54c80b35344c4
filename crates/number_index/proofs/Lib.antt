pub mod LinkLemmas
pub mod IndexLemmas
