use Rattle.regex_lite_engine.proofs.Common.{◌+◌, refl, ◌∙◌, rules}
use Rattle.regex_lite_engine.proofs.search.here.HereLemmas.{less_left}
use Rattle.regex_lite_engine.proofs.search.CountLemmas.{counted_at_first, still_counted}
use Rattle.regex_lite_engine.proofs.pikevm.EndLemmas.{some_after}
use Rattle.regex_lite_engine.proofs.pikevm.PassLemmas.{passed_as}
use Rattle.regex_lite_engine.proofs.pikevm.ShortestLemmas.{not_true}
use Rattle.regex_lite_engine.proofs.pikevm.StopLemmas.{over_after}
use Rattle.regex_lite_engine.proofs.pikevm.run.advance.Goals as goal

pub positions-init : goal.positions-init
positions-init g c = record {
  under_way = λ s p is on. (p, is, on);
  none = c.requires.none;
  table = refl;
  entries = refl;
  all = λ none. none;
  width = refl;
  counts = counted_at_first;
}

pub pass-here-requires : goal.pass-here-requires
pass-here-requires g c =
    let v = c.positions.invariant in
    let from = c.requires.on in
    let at = v.under_way from.0 from.1 from.2 from.4 in (
      from.0,
      at.0,
      at.1,
      rw (v.table, v.entries) from.3,
      rw (v.table, v.entries) at.2,
    )

pub next-here-requires : goal.next-here-requires
next-here-requires g c =
    let v = c.positions.invariant in
    let from = c.requires.on in
    let at = v.under_way from.0 from.1 from.2 from.4 in
    let w = c.pass-here.ensures.passes from.0 at.0 at.1 (rw (v.table, v.entries) at.2) in (
      w.q,
      w.is,
      some_after c.pass-here.result.after c.is_done.result c.if-is_done.false
          c.is_done.ensures.at_end,
    )

pub positions-preserved : goal.positions-preserved
positions-preserved g c =
    let v = c.positions.invariant in
    record {
      under_way = λ s p is on.
          let at = v.under_way s p is on in
          let w = passed_as (c.pass-here.ensures.table ∙ v.table)
          (c.pass-here.ensures.entries ∙ v.entries)
          (c.pass-here.ensures.passes s at.0 at.1 (rw (v.table, v.entries) at.2)) in (
            w.q + 1,
            c.next-here.ensures w.q w.is,
            w.after,
          );
      none = λ earliest.
          c.is_done.ensures.none_yet earliest (not_true c.is_done.result c.if-is_done.false);
      table = c.pass-here.ensures.table ∙ v.table;
      entries = c.pass-here.ensures.entries ∙ v.entries;
      all = λ none. (c.is_spent.ensures.all (v.all none)).0;
      width = c.pass-here.ensures.width ∙ v.width;
      counts = still_counted v.counts c.pass-here.ensures.counts;
    }

pub positions-smaller : goal.positions-smaller
positions-smaller g c =
    let v = c.positions.invariant in
    let from = c.requires.on in
    let at = v.under_way from.0 from.1 from.2 from.4 in
    let w = c.pass-here.ensures.passes from.0 at.0 at.1 (rw (v.table, v.entries) at.2) in
    less_left c.args.haystack.now at.0 w.q c.positions.here c.next-here.result c.utf8.haystack at.1
    (c.next-here.ensures w.q w.is) w.later

pub returns-then-is_spent : goal.returns-then-is_spent
returns-then-is_spent g c =
    let v = c.positions.invariant in
    let from = c.requires.on in
    record {
      stops = λ s p is on.
          let at = v.under_way s p is on in
          record { q = at.0; on = at.2; why = (at.1, v.none) };
      all = λ none. absurd ((c.is_spent.ensures.all (v.all none)).1 (search rules));
      counts = v.counts;
      width = v.width;
      between = (v.under_way from.0 from.1 from.2 from.4).2.ready;
      table = v.table;
      entries = v.entries;
    }

pub returns-then-is_done : goal.returns-then-is_done
returns-then-is_done g c =
    let v = c.positions.invariant in
    let from = c.requires.on in
    let same_table = c.pass-here.ensures.table ∙ v.table in
    let same_entries = c.pass-here.ensures.entries ∙ v.entries in
    record {
      stops = λ s p is on.
          let at = v.under_way s p is on in
          let w = passed_as same_table same_entries
          (c.pass-here.ensures.passes s at.0 at.1 (rw (v.table, v.entries) at.2)) in
          record {
            q = w.q + 1;
            on = w.after;
            why = over_after at.2.low v.none (c.is_done.ensures.done (search rules)) w;
          };
      all = λ none. refl;
      counts = still_counted v.counts c.pass-here.ensures.counts;
      width = c.pass-here.ensures.width ∙ v.width;
      between =
          let at = v.under_way from.0 from.1 from.2 from.4 in
          (passed_as same_table same_entries
          (c.pass-here.ensures.passes from.0 at.0 at.1 (rw (v.table, v.entries) at.2))).after.ready;
      table = same_table;
      entries = same_entries;
    }
