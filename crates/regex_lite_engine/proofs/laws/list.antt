-- the preference list is that of all ways
pub mod EntryLemmas
pub mod HeadLemmas
pub mod ListedLemmas
pub mod ListedPassLemmas
pub mod ListedTreeLemmas
pub mod NoLoopLemmas
mod PreferenceRows
pub mod RankLemmas
pub mod RankedWalkLemmas
pub mod ReadingLemmas
pub mod WholeListLemmas
pub mod WordEntryLemmas
