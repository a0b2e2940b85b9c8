-- lemmas that several proofs here share
pub mod DigitLemmas
pub mod ReachLemmas
pub mod CompletedDigitLemmas
pub mod NameEndLemmas
pub mod BoundaryNameLemmas
