use Rattle.regex_lite_engine.proofs.Common.{◌≡◌, ℕ, ◌+◌, ◌-◌, chars, refl, ◌∙◌, subst, length-map}
use Rattle.regex_lite_engine.proofs.Common.{searching, place_of, places_of, position_at}
use Rattle.regex_lite_engine.proofs.Common.{IsCharBoundary, List, IsUtf8, IsHere, Here, arith}
use Rattle.regex_lite_engine.proofs.Common.{IsDeadAt, PassesTo}
use Rattle.regex_lite_engine.proofs.OffsetLemmas.{boundary_at}
use Rattle.regex_lite_engine.proofs.backtrack.LeadsLemmas.{start_matches}
use Rattle.regex_lite_engine.proofs.backtrack.RunLemmas.{begun, start_fits, went_on}
use Rattle.regex_lite_engine.proofs.backtrack.WalkLemmas.{walk_over}
use Rattle.regex_lite_engine.proofs.search.CountLemmas.{counted_at_first, still_counted}
use Rattle.regex_lite_engine.proofs.search.here.HereLemmas.{less_left}
use Rattle.regex_lite_engine.proofs.backtrack.run.run.Given as given
use Rattle.regex_lite_engine.proofs.backtrack.run.run.Goals as goal

edge : (bytes : List ℕ) (here : Here) → IsUtf8 bytes
    → IsHere (chars bytes) (position_at bytes here.at) here → IsCharBoundary bytes here.at
edge bytes here utf8 is =
    boundary_at bytes (position_at bytes here.at) here.at utf8 (is.inside, is.bytes)

pub starts-init : goal.starts-init
starts-init g c =
    let a = c.args in
    record {
      p = position_at a.haystack.now a.first.at;
      passes = record {
        q = position_at a.haystack.now a.first.at;
        later = omega arith;
        is = c.requires.here;
        passed = λ i low high. absurd (omega (arith, low, high));
      };
      under_way = begun (places_of a.pattern.now.table.now) a.haystack.now c.utf8.haystack
          a.first.at
          (edge a.haystack.now a.first c.utf8.haystack c.requires.here) a.pattern.now.entry
          a.walk.now c.requires.counts c.requires.fresh;
      width = refl;
      room = refl;
      pairs = refl;
      counts = counted_at_first;
    }

pub explore-requires-clause-room : goal.explore-requires-clause-room
explore-requires-clause-room g c =
    let a = c.args in
    let v = c.starts.invariant in
    let w = v.passes in
    let size = length-map a.pattern.now.table.now.places place_of in
    start_fits (places_of a.pattern.now.table.now) a.haystack.now c.utf8.haystack a.first.at
    (edge a.haystack.now a.first c.utf8.haystack c.requires.here) a.pattern.now.entry v.p
    c.starts.walk v.under_way w.q c.starts.here.at w.later (w.is.inside, w.is.bytes)
    c.requires.counts (omega (arith, a.pattern.now.inside, size))

pub returns-in-Some-clause-found : goal.returns-in-Some-clause-found
returns-in-Some-clause-found g c =
    let a = c.args in
    let v = c.starts.invariant in
    let w = v.passes in
    let table = places_of a.pattern.now.table.now in
    let new = c.explore.new.self in
    let low = v.under_way.low in
    let explored = rw c.in-Some.is at c.explore.ensures.explored in
    start_matches a.haystack.now c.utf8.haystack table a.pattern.now.entry a.first.at v.p w.q
    c.starts.here.at c.starts.walk new v.under_way.first w.later (omega (arith, low, w.later))
    (w.is.inside, w.is.bytes) w.passed v.under_way.walking c.in-Some.end explored.on.walks

pub returns-in_default-start_after-clause-found : goal.returns-in_default-start_after-clause-found
returns-in_default-start_after-clause-found g c =
    let a = c.args in
    let v = c.starts.invariant in
    let w = v.passes in
    let table = places_of a.pattern.now.table.now in
    let new = c.explore.new.self in
    let explored = rw c.in_default.is at c.explore.ensures.explored in
    let on = went_on table a.haystack.now c.utf8.haystack a.first.at
    (edge a.haystack.now a.first c.utf8.haystack c.requires.here) a.pattern.now.entry v.p
    c.starts.walk v.under_way w.q c.starts.here.at w.later (w.is.inside, w.is.bytes) new w.passed
    explored in
    walk_over table
    (searching table a.haystack.now a.pattern.now.entry (position_at a.haystack.now a.first.at)
    (w.q + 1) 0) new.visited new.stack (c.start_after.ensures.none w.q w.is
    c.in_default-start_after.is) on.walking

next_passes : (g : given.Over) (c : goal.In-Some-start_after g) → PassesTo
    (IsDeadAt (places_of c.args.pattern.now.table.now) (chars c.args.haystack.now)
    c.args.pattern.now.entry)
    (chars c.args.haystack.now) (c.starts.invariant.passes.q + 1) c.in-Some-start_after.next
next_passes g c =
    let w = c.starts.invariant.passes in
    rw c.in-Some-start_after.is at (c.start_after.ensures.first w.q w.is)

pub starts-smaller : goal.starts-smaller
starts-smaller g c =
    let w = c.starts.invariant.passes in
    let on = next_passes g c in
    let one_on : on.q ≡ (on.q - 1) + 1 = omega (arith, on.later) in
    less_left c.args.haystack.now w.q (on.q - 1) c.starts.here c.in-Some-start_after.next
    c.utf8.haystack w.is
    (subst (λ z. IsHere (chars c.args.haystack.now) z c.in-Some-start_after.next) one_on on.is)
    (omega (arith, on.later))

pub starts-preserved : goal.starts-preserved
starts-preserved g c =
    let a = c.args in
    let v = c.starts.invariant in
    let w = v.passes in
    let table = places_of a.pattern.now.table.now in
    let explored = rw c.in_default.is at c.explore.ensures.explored in
    record {
      p = w.q + 1;
      passes = next_passes g c;
      under_way = went_on table a.haystack.now c.utf8.haystack a.first.at
          (edge a.haystack.now a.first c.utf8.haystack c.requires.here) a.pattern.now.entry v.p
          c.starts.walk v.under_way w.q c.starts.here.at w.later (w.is.inside, w.is.bytes)
          c.explore.new.self w.passed explored;
      width = explored.on.kept.row ∙ v.width;
      room = explored.on.kept.room ∙ v.room;
      pairs = explored.on.kept.pairs ∙ v.pairs;
      counts = still_counted v.counts c.explore.ensures.counts;
    }
