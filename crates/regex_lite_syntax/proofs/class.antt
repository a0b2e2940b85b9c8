-- lemmas that several proofs here share
pub mod AsciiMapLemmas
pub mod BetweenRangeLemmas
pub mod JoinedRangeLemmas
pub mod RangeSearchLemmas
