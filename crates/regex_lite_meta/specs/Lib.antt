-- Where to begin: Searching says what a searcher is to its callers. The specifications of
-- regex_lite_engine say what a search of a graph returns: Graph, and the files in its folder
-- Search.
pub mod Searching
-- The memory of searchers. No public contract depends on it.
pub mod Memories
-- The internal contracts of searches for any match of a pattern. No public contract depends on
-- them.
pub mod AnyOfOne
-- The memory of searches for slots. No public contract depends on it.
pub mod Slots
-- The internal contracts of the lazy DFA. No public contract depends on them.
pub mod LazyDfa
-- The internal contracts of searches for single patterns of a list. No public contract depends on
-- them.
pub mod ListMatches
-- The internal contracts of a pass for all patterns of a list. No public contract depends on them.
pub mod ListPass
