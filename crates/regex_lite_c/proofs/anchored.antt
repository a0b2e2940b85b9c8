-- lemmas that the proofs of anchored searches share
pub mod AnchoredLemmas
