-- lemmas that proofs of other modules need too
pub mod BoundaryLemmas
pub mod FirstWordLemmas
pub mod ListWordLemmas
pub mod OneWordLemmas
pub mod WayLemmas
pub mod WholeWordLemmas
