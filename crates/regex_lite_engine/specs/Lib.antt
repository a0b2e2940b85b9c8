-- Where to begin: Graph.WrittenOut defines the written-out pattern of a tree, which is its NFA, and
-- a way through it, an accepting path. Graph.Size defines its size, and Search.Answer the answer of
-- a search. WayLaws and SearchLaws relate matches, ways, preference and answers. Interpolation
-- defines the expansion of a template, and TemplateLaws states that it is unique.
pub mod Graph
pub mod WayLaws
pub mod Search
pub mod SearchLaws
pub mod ListSearchLaws
pub mod Interpolation
pub mod TemplateLaws
-- The internal contracts of nfa and of the searches. No public contract depends on them.
pub mod Nfa
pub mod Pikevm
pub mod Backtrack
