-- lemmas that several proofs here share
pub mod AtomCompletionLemmas
pub mod AtomTreeLemmas
pub mod LiteralLemmas
