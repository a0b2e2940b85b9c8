-- lemmas that the proofs of searchers with a text share
pub mod SearcherLemmas
