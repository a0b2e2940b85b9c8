use Rattle.regex_lite_meta.proofs.Common.{◌≡◌, ℕ, length, drop, map, chars, IsHere}
use Rattle.regex_lite_engine.specs.Search.Starts.{start_numbered}
use Rattle.regex_lite_meta.specs.ListMatches.{AreKeptFor, NeedsNoMemory}
use Rattle.regex_lite_meta.specs.ListPass.{PassKnowsAll}
use Rattle.regex_lite_meta.proofs.list_matches.TriedLemmas.{AreTried}
use Rattle.regex_lite_meta.proofs.list_matches.pass.ListPass.try_each.Given as goal

abbrev pub invariant-listed : goal.invariant-listed
invariant-listed l = record {
  tried : (s p : ℕ) → IsHere (chars l.haystack) p l.here
      → PassKnowsAll l.list l.haystack s p l.fn.self.statuses.items
      → AreTried l.list l.haystack s p
      (drop l.k (map (start_numbered l.list.entries) l.patterns.numbers.items))
      l.statuses.items;
  all : length l.statuses.items ≡ length l.list.entries;
  kept : AreKeptFor l.list l.kept;
  ready : NeedsNoMemory l.fn.kept → NeedsNoMemory l.kept;
}
