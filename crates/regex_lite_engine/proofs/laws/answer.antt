-- a search has one answer
pub mod AnswerAtLemmas
pub mod AnswerLemmas
pub mod BestWayLemmas
pub mod FreshLemmas
pub mod LeastLemmas
pub mod OrderLemmas
pub mod ReachLemmas
