-- lemmas that the proofs of what is built share
pub mod RefusalLemmas
