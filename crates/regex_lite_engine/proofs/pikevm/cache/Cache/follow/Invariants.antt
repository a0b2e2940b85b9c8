use Rattle.regex_lite_engine.proofs.Common.{◌≡◌, false, [], best_of, no_start, StaysCounted}
use Rattle.std.specs.Prelude.{not, ◌==◌}
use Rattle.regex_lite_engine.specs.Pikevm.Capacity.{HasCapacity}
use Rattle.regex_lite_engine.specs.Pikevm.Searching.{ways_at}
use Rattle.regex_lite_engine.proofs.pikevm.StepLemmas.{HasFollowed}
use Rattle.regex_lite_engine.proofs.pikevm.cache.Cache.follow.Given as goal

abbrev pub invariant-ways : goal.invariant-ways
invariant-ways g l = record {
  room : HasCapacity (g.P.Patterns.table l.patterns) l.self.walk [];
  followed : HasFollowed (g.P.Patterns.table l.patterns) (not (g.row.WHOLE == 0)) l.here
      (ways_at (g.P.Patterns.starts l.patterns) (g.S.ThreadStart.reported_of l.here.at)
      l.initial.self) (best_of l.initial.self.best) l.initial.self.walk no_start l.self.walk l.k
      false;
  best : l.self.best ≡ l.initial.self.best;
  counts : StaysCounted l.initial.self.walk.steps l.self.walk.steps;
}
