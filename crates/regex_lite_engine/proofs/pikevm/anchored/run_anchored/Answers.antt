use Rattle.regex_lite_engine.proofs.Common.{◌+◌, ◌<◌, ◌⊎◌, length, chars}
use Rattle.regex_lite_engine.proofs.Common.{sym, refl, ap, ◌∙◌, subst, inl, inr, arith, rules}
use Rattle.regex_lite_engine.proofs.Common.{position_at}
use Rattle.std.specs.List.{All}
use Rattle.std.specs.Prelude.{not, ◌==◌}
use Rattle.regex_lite_engine.specs.Pikevm.Passing.{IsUnderWayTo}
use Rattle.regex_lite_engine.proofs.search.here.HereLemmas.{less_left, over_at}
use Rattle.regex_lite_engine.proofs.search.CountLemmas.{counted_at_first, still_counted}
use Rattle.regex_lite_engine.proofs.pikevm.AnchoredLemmas.{anchored_found, none_starts, under_as}
use Rattle.regex_lite_engine.proofs.pikevm.EndLemmas.{some_after}
use Rattle.regex_lite_engine.proofs.pikevm.PassLemmas.{begun_to, bounded}
use Rattle.regex_lite_engine.proofs.pikevm.SteppingLemmas.{starts_up_to}
use Rattle.regex_lite_engine.proofs.pikevm.anchored.run_anchored.Given as given
use Rattle.regex_lite_engine.proofs.pikevm.anchored.run_anchored.Goals as goal
use Rattle.regex_lite_engine.proofs.pikevm.anchored.run_anchored.Goals.{
  After-go_over,
  then-threads-eq0-via-then-threads-eq0,
  then-threads-eq0-via-else-threads-eq0+then-is_done,
}

pub positions-init : goal.positions-init
positions-init g c =
    let a = c.args in
    let s = position_at a.haystack.now a.start in
    let come = c.come_to.ensures in
    record {
      p = s;
      is = c.at-here.ensures.here;
      starts =
          starts_up_to (omega arith)
          (rw (come.table, come.entries) at (come.starts s c.at-here.ensures.here));
      under_way = begun_to _ _ _ s (not (g.row.WHOLE == 0)) s a.cache.now c.requires.fresh;
      inside = rw come.table at come.inside;
      few = rw come.entries at come.few;
      countable = rw come.entries at come.countable;
      table = come.table;
      entries = come.entries;
      width = refl;
      counts = counted_at_first;
    }

pub go_over-requires-clause-on : goal.go_over-requires-clause-on
go_over-requires-clause-on g c =
    let a = c.args in
    let s = position_at a.haystack.now a.start in
    let v = c.positions.invariant in (
      chars a.haystack.now,
      s,
      s,
      v.p,
      v.is,
      rw (v.table, v.entries) c.requires.counts,
      rw (v.table, v.entries) v.under_way,
    )

pub go_over-requires-clause-inside : goal.go_over-requires-clause-inside
go_over-requires-clause-inside g c =
    let v = c.positions.invariant in rw v.table v.inside

pub go_over-requires-clause-few : goal.go_over-requires-clause-few
go_over-requires-clause-few g c =
    let v = c.positions.invariant in rw v.entries v.few

pub go_over-requires-clause-countable : goal.go_over-requires-clause-countable
go_over-requires-clause-countable g c =
    let v = c.positions.invariant in rw v.entries v.countable

-- where the search stands after the position
went : (g : given.Over) (c : After-go_over g) → IsUnderWayTo
    (g.P.Patterns.table c.args.patterns.now) (chars c.args.haystack.now)
    (g.P.Patterns.entries c.args.patterns.now) (position_at c.args.haystack.now c.args.start)
    (not (g.row.WHOLE == 0)) (position_at c.args.haystack.now c.args.start)
    (c.positions.invariant.p + 1) c.go_over.new.self
went g c =
    let a = c.args in
    let s = position_at a.haystack.now a.start in
    let v = c.positions.invariant in
    under_as v.table v.entries
    (c.go_over.ensures.on (chars a.haystack.now) s s v.p v.is (rw (v.table, v.entries) v.starts)
    (rw (v.table, v.entries) v.under_way))

-- at the haystack's end no thread is asked about
ended_or : {A B C : Type 0} → A ⊎ C → (A ⊎ B) ⊎ C
ended_or (inl a) = inl (inl a)
ended_or (inr c) = inr c

pub returns-then-threads-eq0-clause-found : goal.returns-then-threads-eq0-clause-found
returns-then-threads-eq0-clause-found g c =
    let v = c.positions.invariant in
    let low = v.under_way.low in
    anchored_found low v.is.inside
    (went g (goal.at.returns-then-threads-eq0-clause-found g c).After-go_over).coming
    (not (g.row.EARLIEST == 0)) (elim c.then-threads-eq0.branch [
      | then-threads-eq0-via-then-threads-eq0 w ↦
          inl (inr (sym c.threads.ensures.same ∙ w.if-threads-eq0.true))
      | then-threads-eq0-via-else-threads-eq0+then-is_done w ↦
          ended_or (over_at (chars c.args.haystack.now) v.p c.positions.here v.is
          (w.is_done.ensures.done (search rules)))
    ])

pub returns-then-threads-eq0-clause-bounded : goal.returns-then-threads-eq0-clause-bounded
returns-then-threads-eq0-clause-bounded g c =
    let v = c.positions.invariant in
    bounded v.under_way.low v.is.inside
    (went g (goal.at.returns-then-threads-eq0-clause-bounded g c).After-go_over)

pub returns-then-threads-eq0-clause-entry : goal.returns-then-threads-eq0-clause-entry
returns-then-threads-eq0-clause-entry g c =
    (went g (goal.at.returns-then-threads-eq0-clause-entry g c).After-go_over).ready.match_entered

pub returns-then-threads-eq0-clause-counts : goal.returns-then-threads-eq0-clause-counts
returns-then-threads-eq0-clause-counts g c =
    still_counted c.positions.invariant.counts c.go_over.ensures.counts

pub returns-then-threads-eq0-clause-width : goal.returns-then-threads-eq0-clause-width
returns-then-threads-eq0-clause-width g c = c.go_over.ensures.width ∙ c.positions.invariant.width

pub returns-then-threads-eq0-clause-between : goal.returns-then-threads-eq0-clause-between
returns-then-threads-eq0-clause-between g c =
    (went g (goal.at.returns-then-threads-eq0-clause-between g c).After-go_over).ready

pub returns-then-threads-eq0-clause-table : goal.returns-then-threads-eq0-clause-table
returns-then-threads-eq0-clause-table g c = c.positions.invariant.table

pub returns-then-threads-eq0-clause-entries : goal.returns-then-threads-eq0-clause-entries
returns-then-threads-eq0-clause-entries g c = c.positions.invariant.entries

pub next-here-requires : goal.next-here-requires
next-here-requires g c =
    let v = c.positions.invariant in (
      v.p,
      v.is,
      some_after c.positions.here.after c.is_done.result c.if-is_done.false
          c.is_done.ensures.at_end,
    )

pub positions-smaller : goal.positions-smaller
positions-smaller g c =
    let v = c.positions.invariant in
    less_left c.args.haystack.now v.p v.p c.positions.here c.next-here.result c.utf8.haystack v.is
    (c.next-here.ensures v.p v.is) (omega arith)

pub positions-preserved : goal.positions-preserved
positions-preserved g c =
    let v = c.positions.invariant in
    let low = v.under_way.low in
    let stop = c.start_no_more.ensures in
    record {
      p = v.p + 1;
      is = c.next-here.ensures v.p v.is;
      starts = none_starts (omega (arith, low)) stop.starts;
      under_way = went g (goal.at.positions-preserved g c).After-go_over;
      inside = subst (All (λ start. start.place
          < length (g.P.Patterns.table c.args.patterns.now))) (sym stop.starts)
          (λ k d lt. absurd (omega (arith, lt)));
      few = omega (arith, ap length stop.starts);
      countable = v.countable;
      table = stop.table ∙ v.table;
      entries = stop.entries ∙ v.entries;
      width = c.go_over.ensures.width ∙ v.width;
      counts = still_counted v.counts c.go_over.ensures.counts;
    }
