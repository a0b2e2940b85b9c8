pub mod KnownNameLemmas
