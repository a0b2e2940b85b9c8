-- lemmas that the proofs of what is returned of a pattern share
pub mod OutlineLemmas
