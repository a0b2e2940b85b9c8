-- lemmas that the proofs of places share
pub mod PlaceLemmas
