use Rattle.regex_lite_engine.proofs.Common.{◌≡◌, ℕ, ◌<◌, ◌≤◌, false, ◌↔◌, List, length, take}
use Rattle.regex_lite_engine.proofs.Common.{IsTrue, slice_index_or, chars, Tree, HasTree}
use Rattle.regex_lite_engine.proofs.Common.{places_of_all, tries_of_all}
use Rattle.regex_lite_engine.proofs.Common.{HasMatchFrom, IsBoundedBy, position_at}
use Rattle.regex_lite_engine.specs.Graph.StoredList.{IsGraphOfList}
use Rattle.regex_lite_meta.specs.ListMatches.{AreKeptFor, NeedsNoMemory}
use Rattle.regex_lite_engine.specs.Graph.SideBySide.{AreRegularPatterns}
use Rattle.regex_lite_meta.proofs.list_matches.search_all.Given as goal

abbrev pub invariant-loop-number : goal.invariant-loop-number
invariant-loop-number l = record {
  kept : AreKeptFor l.list l.kept;
  ready : NeedsNoMemory l.fn.kept → NeedsNoMemory l.kept;
  within : l.number ≤ length l.list.entries;
  all : length l.matched ≡ length l.fn.matched;
  found : (trees : List Tree) → AreRegularPatterns trees → IsGraphOfList trees l.list
      → (k : ℕ) (tree : Tree)
      → k < l.number → HasTree trees k tree → IsTrue (slice_index_or l.matched k false)
      ↔ HasMatchFrom tree (chars l.haystack) (position_at l.haystack l.start);
  entered : (k : ℕ) → k < l.number → IsTrue (slice_index_or l.matched k false)
      → 0 < l.steps.entered;
  cost : (trees : List Tree) → IsGraphOfList trees l.list
      → IsBoundedBy (places_of_all (take l.number trees)) (tries_of_all (take l.number trees))
      (chars l.haystack)
      (position_at l.haystack l.start) l.steps.tried l.steps.entered l.steps.looked;
}
