-- lemmas that several proofs here share
pub mod SumLemmas
