-- lemmas that several modules use
pub mod OutputLemmas
pub mod ListLemmas
pub mod GroupLineLemmas
pub mod PieceLemmas
pub mod TemplateLemmas
pub mod ReplacedLemmas
