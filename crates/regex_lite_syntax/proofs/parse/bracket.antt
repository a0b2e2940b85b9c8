-- lemmas that several proofs here share
pub mod ClassItemLemmas
pub mod ClassOpeningLemmas
pub mod ClassSetLemmas
pub mod CompletedClassLemmas
pub mod CompletedItemLemmas
pub mod CompletedNameLemmas
pub mod LongerItemLemmas
pub mod SetNameLemmas
