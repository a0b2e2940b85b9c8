-- lemmas that the proofs of pieces share
pub mod CutLemmas
