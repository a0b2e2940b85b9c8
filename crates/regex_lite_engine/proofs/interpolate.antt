-- lemmas that several proofs here share
pub mod IndexLemmas
pub mod TextLemmas
