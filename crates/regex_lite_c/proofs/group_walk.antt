-- lemmas that the proofs of walks over groups share
pub mod GroupWalkLemmas
pub mod StageLemmas
