-- the definitions that most proofs cite
pub mod Common
-- lemmas that several modules use, and crates above
pub mod AgreementLemmas
pub mod AheadLemmas
pub mod AnsweredLemmas
pub mod ListBuildLemmas
pub mod OneTreeLemmas
pub mod PairedLemmas
pub mod PointerLemmas
pub mod ReplacementLemmas
pub mod StaticNumberLemmas
pub mod TextLemmas
pub mod UnboxedLemmas
-- lemmas of the engine on offsets and positions, for crates above
pub use Rattle.regex_lite_engine.proofs.OffsetLemmas
pub use Rattle.regex_lite_engine.proofs.PositionLemmas
