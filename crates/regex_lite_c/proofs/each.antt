-- lemmas that the proofs for many texts share
pub mod EachLemmas
