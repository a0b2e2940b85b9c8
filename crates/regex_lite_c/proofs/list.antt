-- lemmas that the proofs of lists share
pub mod ListBuildLemmas
pub mod ListSearchLemmas
pub mod ListedLemmas
