pub mod FunctionLemmas
pub mod TraceLemmas
