-- The parts of the searchers that callers keep.
use Rattle.std.specs.Prelude.{◌≡◌, ◌*◌, List, Option, Some, None, length}
use Rattle.regex_lite_syntax.specs.Tree.Properties.{captures_len}
use Rattle.regex_lite_engine.specs.Graph.SideBySide.{AreRegularPatterns}
use Rattle.regex_lite_engine.specs.Graph.StoredList.{IsGraphOfList, StoredList}
use Rattle.regex_lite.specs.Expression.{Expression, OfTree}
use Rattle.regex_lite.specs.RegexList.{OfTrees}
use Rattle.regex_lite.specs.Scanning.{AreSlotsForAllGroups, ListSearching, RegexSearching}

-- a searcher for groups keeps two slots for each; there is none if the whole match is the only
-- group
abbrev pub SearchesForGroups : Expression → Option RegexSearching → Type 0
SearchesForGroups re None = OfTree re (λ tree. captures_len tree ≡ 1)
SearchesForGroups re (Some searcher) =
    (searcher.regex ≡ re) × OfTree re (λ tree. length searcher.slots ≡ 2 * captures_len tree)

-- If some pattern of a list has groups besides the whole match, the searcher for groups has slots
-- for all of them. Otherwise the searcher for matches suffices
abbrev pub FindsAllGroups : (matches : ListSearching) → (groups : Option ListSearching) → Type 0
FindsAllGroups matches None = AreSlotsForAllGroups matches.list (length matches.slots)
FindsAllGroups matches (Some groups) =
    (groups.list ≡ matches.list) × AreSlotsForAllGroups groups.list (length groups.slots)

-- the searcher for which patterns match searches the graph of the patterns' trees
abbrev pub SearchesForEach : List Expression → StoredList → Type 0
SearchesForEach list graph =
    OfTrees list (λ trees. AreRegularPatterns trees × IsGraphOfList trees graph)
