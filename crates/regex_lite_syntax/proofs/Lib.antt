-- the definitions that most proofs cite
pub mod Common
-- lemmas that several modules use
pub mod CharacterLemmas
pub mod CharacterSetLemmas
pub mod ExitLemmas
pub mod ForwardLemmas
pub mod LeafLemmas
pub mod LetterCaseLemmas
pub mod ListLemmas
pub mod LookupLemmas
pub mod NameTableLemmas
pub mod OptionLemmas
pub mod RangeLemmas
pub mod SetRunsLemmas
pub mod TreeLemmas
pub mod WordBitLemmas
-- lemmas on what the grammar says, and on the parser as a machine
pub mod grammar
pub mod machine
