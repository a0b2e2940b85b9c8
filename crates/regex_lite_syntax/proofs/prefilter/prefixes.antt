-- lemmas that several proofs here share
pub mod HeadLemmas
pub mod UnionLemmas
