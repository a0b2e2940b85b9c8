-- lemmas that several proofs here share
pub mod CompletedFlagLemmas
pub mod FlagRunLemmas
pub mod SliceLemmas
pub mod WholeFlagLemmas
