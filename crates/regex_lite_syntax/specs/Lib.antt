-- Where to begin: Grammar says which tree a pattern has, Tree.Matches where a tree matches, and
-- Limits when a pattern is rejected. The modules that they use come before them.
pub mod Text
pub mod Characters
pub mod Sets
pub mod Ranges
pub mod AsciiMaps
pub mod NamedSets
pub mod Tree
pub mod Grammar
pub mod Escaped
pub mod FaultTexts
pub mod CutShort
pub mod Errors
pub mod Limits
pub mod FaultPlaces
pub mod Refusals
pub mod SyntaxLaws
-- Where matches of trees can begin. The searches of the crate above use it.
pub mod Prefilter
-- The internal contracts of the parser, and the representation of errors. No public contract
-- depends on them.
pub mod Parser
pub mod Faults
