use Rattle.regex_lite_engine.proofs.Common.{◌-◌, ◌≤◌, length, chars, IsCharBoundary}
use Rattle.regex_lite_engine.proofs.search.SkipLemmas.{AllBetween}
use Rattle.regex_lite_engine.proofs.search.start_finder.first_by_needed.Given as goal

abbrev pub invariant-starts : goal.invariant-starts
invariant-starts g l = record {
  low : l.from ≤ l.at;
  high : l.at ≤ length l.haystack;
  boundary : IsCharBoundary l.haystack l.at;
  passed : AllBetween (g.F.StartFinder.never l.finder (chars l.haystack)) (chars l.haystack) l.from
      l.at;
}

abbrev pub decreases-starts : goal.decreases-starts
decreases-starts g l = length l.haystack - l.at
