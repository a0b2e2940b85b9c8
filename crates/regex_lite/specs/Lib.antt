-- Where to begin: Headline has the whole promise on one page. Expression says what is built, what
-- is rejected and what a regex returns, and Searches what its searches return. RegexList and
-- RegexListSearches are their counterparts for several patterns, ListedPattern for one pattern of a
-- list, and Anchored for anchored searches. Templates says how a template is expanded with the
-- groups of a match, and Escapes which pattern escaping makes of a text. MatchOffsets says where in
-- a haystack a pattern matches, independently of any search.
pub mod Headline
pub mod Settings
pub mod Expression
pub mod FaultOffsets
pub mod Outlines
pub mod Groups
pub mod MatchViews
pub mod Searches
pub mod RegexList
pub mod RegexListSearches
pub mod Anchored
pub mod ListedPattern
pub mod MatchList
pub mod Ahead
pub mod Items
pub mod ListAhead
pub mod Pieces
pub mod Replacing
pub mod Replacements
pub mod Templates
pub mod Escapes
pub mod Laws
pub mod PieceLaws
pub mod ListLaws
pub mod RegexListLaws
pub mod MatchOffsets
pub mod OffsetLaws
pub mod AnchoredLaws
pub mod WholeLaws
pub mod EmptyLaws
pub mod TreeLaws
pub mod ResultLaws
pub mod GroupLaws
pub mod TextLaws
pub mod CaptureNames
pub use Rattle.regex_lite_syntax.specs.Errors
pub use Rattle.regex_lite_syntax.specs.Text
pub use Rattle.regex_lite_syntax.specs.Grammar
pub use Rattle.regex_lite_syntax.specs.Escaped
pub use Rattle.regex_lite_syntax.specs.Limits
pub use Rattle.regex_lite_syntax.specs.FaultPlaces
pub use Rattle.regex_lite_syntax.specs.Tree
pub use Rattle.regex_lite_syntax.specs.Tree.Matches
pub use Rattle.regex_lite_syntax.specs.Tree.Outline
pub use Rattle.regex_lite_syntax.specs.Tree.Properties
pub use Rattle.regex_lite_engine.specs.Graph.PlaceCounts
pub use Rattle.regex_lite_engine.specs.Graph.Size
pub use Rattle.regex_lite_engine.specs.Search
-- What every regex keeps, and what searches return.
pub mod Compiled
pub mod CompiledList
pub mod Slots
pub mod Answers
pub mod Scanning
pub mod ReportedWays
pub mod PiecesLeft
pub mod Keeping
pub mod NextMatch
pub mod Rewriting
-- What the owners of a compiled pattern share. No public contract depends on it.
pub mod Owner
pub mod Holding
