-- the definitions that most proofs cite
pub mod Common
-- lemmas that several modules use
pub mod AnswerLemmas
