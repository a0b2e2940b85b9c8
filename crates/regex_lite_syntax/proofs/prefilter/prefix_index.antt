-- lemmas that several proofs here share
pub mod RowBitLemmas
pub mod ColumnLemmas
pub mod NumberLemmas
pub mod IndexLemmas
pub mod WalkLemmas
pub mod PairLemmas
pub mod TreeLemmas
pub mod ThirdLemmas
