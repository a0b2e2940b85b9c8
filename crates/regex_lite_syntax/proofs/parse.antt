-- lemmas that several proofs here share
pub mod CompletionLemmas
pub mod DenialLemmas
pub mod EndLemmas
pub mod IndexLemmas
