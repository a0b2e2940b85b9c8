-- lemmas on groups, on what comes next, on pieces, on replacements, on lists of patterns, on trees,
-- and on where patterns match
pub mod GroupLemmas
pub mod NextMatchLemmas
pub mod BetweenLemmas
pub mod ReplacedLemmas
pub mod RegexListLemmas
pub mod TreeLemmas
pub mod ResultLemmas
pub mod GroupFactLemmas
pub mod FirstMatchLemmas
pub mod FirstOfListLemmas
pub mod AnchoredLawLemmas
