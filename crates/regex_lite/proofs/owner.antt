-- lemmas that the proofs of the owners share
pub mod CountLemmas
pub mod HandedLemmas
pub mod BlockLemmas
