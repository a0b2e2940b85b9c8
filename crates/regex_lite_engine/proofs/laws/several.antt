-- searches for several patterns
pub mod ApartLemmas
pub mod ListAnswerLemmas
pub mod NumberedListLemmas
pub mod OverListLemmas
pub mod PartLemmas
