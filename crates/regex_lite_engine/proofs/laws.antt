-- lemmas that several proofs here share
pub mod LeadsLemmas
pub mod LoopLemmas
pub mod MatchWalkLemmas
pub mod PassWalkLemmas
pub mod PatternTreeLemmas
pub mod PatternWayLemmas
pub mod IsHereLemmas
pub mod WalkLemmas
pub mod WrittenPartLemmas
pub mod WrittenRepetitionLemmas
pub mod WrittenTreeLemmas
-- lemmas on the preference list, on answers, on groups, on several patterns and on templates
pub mod answer
pub mod groups
pub mod list
pub mod search
pub mod several
pub mod templates
