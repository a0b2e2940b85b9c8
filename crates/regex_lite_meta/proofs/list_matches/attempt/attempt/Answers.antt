use Rattle.regex_lite_meta.proofs.Common.{◌+◌, ◌^◌, ◌<◌, length, true, chars, refl}
use Rattle.regex_lite_meta.proofs.Common.{◌∙◌, arith, rules, places_of, best_of}
use Rattle.regex_lite_meta.proofs.Common.{◌≡◌, ◌∷◌, [], sym, subst}
use Rattle.std.specs.Prelude.{◌↔◌, IsTrue, is_some}
use Rattle.regex_lite_meta.specs.AnyOfOne.{HasMatchOfAny}
use Rattle.regex_lite_meta.proofs.list_matches.ReportedLemmas.{by_least_end}
use Rattle.regex_lite_engine.proofs.search.OutcomeLemmas.{can_count}
use Rattle.regex_lite_engine.proofs.search.here.HereLemmas.{less_left}
use Rattle.regex_lite_engine.proofs.pikevm.PassLemmas.{begun, passed_as}
use Rattle.regex_lite_engine.proofs.pikevm.ShortestLemmas.{not_true}
use Rattle.regex_lite_engine.proofs.pikevm.StopLemmas.{over_after, over_found}
use Rattle.regex_lite_meta.proofs.list_matches.PassLemmas.{died, no_sooner, none_so_far}
use Rattle.regex_lite_meta.proofs.list_matches.attempt.attempt.Goals as goal

pub positions-init : goal.positions-init
positions-init c = record {
  under_way = λ p is. (p, is, begun _ _ _ p c.args.cache.now c.requires.fresh);
  none = c.requires.fresh.none;
  table = refl;
  entries = refl;
}

pub pass-here-requires : goal.pass-here-requires
pass-here-requires c =
    let haystack = c.args.haystack.now in
    let short : length haystack < 2 ^ 63 = search rules in
    let v = c.positions.invariant in
    let from = c.requires.here in
    let at = v.under_way from.0 from.1 in (
      from.0,
      at.0,
      at.1,
      rw v.table (can_count (places_of c.args.pattern.now.table.now) haystack from.0
          c.utf8.haystack short c.requires.countable 1 (omega arith)),
      rw (v.table, v.entries) at.2,
    )

pub positions-preserved : goal.positions-preserved
positions-preserved c =
    let v = c.positions.invariant in
    record {
      under_way = λ p is.
          let at = v.under_way p is in
          let w = passed_as (c.pass-here.ensures.table ∙ v.table)
          (c.pass-here.ensures.entries ∙ v.entries)
          (c.pass-here.ensures.passes p at.0 at.1 (rw (v.table, v.entries) at.2)) in (
            w.q + 1,
            c.next-here.ensures w.q w.is,
            w.after,
          );
      none = c.is_done.ensures.none_yet refl (not_true c.is_done.result c.if-is_done.false);
      table = c.pass-here.ensures.table ∙ v.table;
      entries = c.pass-here.ensures.entries ∙ v.entries;
    }

pub positions-smaller : goal.positions-smaller
positions-smaller c =
    let v = c.positions.invariant in
    let from = c.requires.here in
    let at = v.under_way from.0 from.1 in
    let w = c.pass-here.ensures.passes from.0 at.0 at.1 (rw (v.table, v.entries) at.2) in
    less_left c.args.haystack.now at.0 w.q c.positions.here c.next-here.result c.utf8.haystack at.1
    (c.next-here.ensures w.q w.is) w.later

pub returns-then-is_done-clause-reported : goal.returns-then-is_done-clause-reported
returns-then-is_done-clause-reported c = λ p is.
    let v = c.positions.invariant in
    let at = v.under_way p is in
    let w = passed_as (c.pass-here.ensures.table ∙ v.table)
    (c.pass-here.ensures.entries ∙ v.entries)
    (c.pass-here.ensures.passes p at.0 at.1 (rw (v.table, v.entries) at.2)) in
    let why = over_after {earliest = true} at.2.low (λ _. v.none)
    (c.is_done.ensures.done (search rules)) w in
    let best = best_of c.pass-here.new.self.best in
    let reported : c.is_some.result ≡ is_some best = search rules in
    subst (λ b. IsTrue b ↔ HasMatchOfAny (places_of c.args.pattern.now.table.now)
    (chars c.args.haystack.now) (c.args.pattern.now.entry ∷ []) p) (sym reported)
    (by_least_end (places_of c.args.pattern.now.table.now) (chars c.args.haystack.now)
    c.args.pattern.now.entry p best
    (over_found {p = at.0} {cache = c.positions.cache}
    (record { q = w.q + 1; on = w.after; why = why })))

pub returns-then-threads-eq0-clause-reported : goal.returns-then-threads-eq0-clause-reported
returns-then-threads-eq0-clause-reported c = λ p is.
    let v = c.positions.invariant in
    let haystack = c.args.haystack.now in
    let table = places_of c.args.pattern.now.table.now in
    let entry = c.args.pattern.now.entry in
    let at = v.under_way p is in
    let w = passed_as (c.pass-here.ensures.table ∙ v.table)
    (c.pass-here.ensures.entries ∙ v.entries)
    (c.pass-here.ensures.passes p at.0 at.1 (rw (v.table, v.entries) at.2)) in
    let next = c.next-here.ensures w.q w.is in
    let low = at.2.low in
    let later = w.later in
    let over = died table (chars haystack) entry p (w.q + 1)
    c.pass-here.new.self.walk.memory.threads
    (best_of c.pass-here.new.self.best) (omega (arith, low, later)) (search rules)
    (c.is_done.ensures.none_yet refl (not_true c.is_done.result c.if-is_done.false))
    w.after.coming in (
      no_sooner table haystack c.utf8.haystack entry p (w.q + 1) c.next-here.result next over,
      none_so_far table (chars haystack) entry p (p + 1) (w.q + 1) (omega arith)
          (omega (arith, low, later)) over,
    )
