-- lemmas that the proofs of walks share
pub mod WalkLemmas
