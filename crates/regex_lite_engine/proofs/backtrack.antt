-- lemmas that several proofs here share
pub mod BitLemmas
pub mod DepthFirstEnterLemmas
pub mod DepthFirstLemmas
pub mod EnterLemmas
pub mod ExploreLemmas
pub mod LeadsLemmas
pub mod LeftLemmas
pub mod NumberedLemmas
pub mod PairMapLemmas
pub mod PairLemmas
pub mod CapacityLemmas
pub mod RunLemmas
pub mod StackLemmas
pub mod RestoreLemmas
pub mod WalkLemmas
pub mod WentLemmas
