-- lemmas that several proofs here share
pub mod ReadLemmas
pub mod StartLemmas
