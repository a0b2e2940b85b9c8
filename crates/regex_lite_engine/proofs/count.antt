-- lemmas that several proofs here share
pub mod ArrowCountLemmas
pub mod StackBoundLemmas
pub mod MeasureLemmas
pub mod NameSizeLemmas
pub mod PlaceCountLemmas
pub mod ReadingCountLemmas
pub mod StaticGroupLemmas
pub mod TotalLemmas
