-- the law of all searches, and answers over numbered places
pub mod AlikeLemmas
pub mod CutLemmas
pub mod EachPlaceLemmas
pub mod Explored
pub mod NamedWayLemmas
pub mod NoLookLemmas
pub mod NumberedAnswerLemmas
pub mod NumberedWayLemmas
pub mod OneEndLemmas
pub mod OverLemmas
pub mod RecordedWayLemmas
pub mod SearchLawLemmas
pub mod ShorterHaystackLemmas
pub mod WayOrderLemmas
