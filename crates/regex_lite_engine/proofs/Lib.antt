-- the definitions that most proofs cite
pub mod Common
-- lemmas that several modules use
pub mod ArrowBoundLemmas
pub mod InLemmas
pub mod OffsetLemmas
pub mod PositionLemmas
-- lemmas about the written-out pattern of a tree
pub mod graph
-- lemmas that crates above use
pub use Rattle.regex_lite_engine.proofs.count.ReadingCountLemmas
