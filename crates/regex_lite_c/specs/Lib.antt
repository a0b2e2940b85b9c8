-- What a caller in C holds, the numbers and spans that it receives, and what is written to its
-- buffers.
pub mod Searchers
pub mod Handles
pub mod Options
pub mod Answers
pub mod AnswerTexts
pub mod Building
pub mod Faults
pub mod ListBuilding
pub mod Spans
pub mod Outlines
pub mod ListSpans
pub mod Kinds
pub mod Anchored
pub mod Whole
pub mod SearchKinds
pub mod Buffers
pub mod Costs
pub mod Names
pub mod Replacing
pub mod Walks
pub mod GroupAnswers
pub mod GroupWalks
pub mod Cuts
pub mod Each
pub mod SearcherAnswers
