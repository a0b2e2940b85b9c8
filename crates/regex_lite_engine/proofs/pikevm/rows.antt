pub mod BlankLemmas
pub mod RowLemmas
