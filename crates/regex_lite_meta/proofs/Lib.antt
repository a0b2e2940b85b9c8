-- the definitions that most proofs cite
pub mod Common
-- lemmas that several folders share
pub mod EndLemmas
pub mod AnchoredSpanLemmas
pub mod AnyLemmas
pub mod OneLemmas
