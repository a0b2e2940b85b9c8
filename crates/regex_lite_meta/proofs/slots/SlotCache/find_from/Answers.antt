use Rattle.regex_lite_meta.proofs.Common.{◌^◌, ◌<◌, [], ◌∷◌, length, chars, arith, rules, places_of}
use Rattle.regex_lite_meta.proofs.Common.{best_at, with_start_kept, span_of, position_at, refl}
use Rattle.regex_lite_meta.proofs.lazy_dfa.OnceLemmas.{spanned}
use Rattle.regex_lite_engine.proofs.pikevm.EndLemmas.{one_best}
use Rattle.regex_lite_engine.proofs.pikevm.PassLemmas.{begun}
use Rattle.regex_lite_engine.proofs.pikevm.StopLemmas.{over_found}
use Rattle.regex_lite_engine.proofs.search.FirstStartLemmas.{answer_from, first_here}
use Rattle.regex_lite_engine.proofs.search.FirstStartLemmas.{none_before_first, none_from}
use Rattle.regex_lite_engine.proofs.search.OutcomeLemmas.{can_count}
use Rattle.regex_lite_meta.proofs.slots.SlotCache.find_from.Goals as goal

pub returns-in_err-first-clause-found : goal.returns-in_err-first-clause-found
returns-in_err-first-clause-found c =
    let one = c.args.pattern.now in
    rw c.from_residual.ensures
    (none_from (places_of one.table.now) (chars c.args.haystack.now) one.entry
    (position_at c.args.haystack.now c.args.start) (c.in_err-first.ensures.none refl))

pub advance-requires-clause-on : goal.advance-requires-clause-on
advance-requires-clause-on c =
    let one = c.args.pattern.now in
    let table = places_of one.table.now in
    let haystack = c.args.haystack.now in
    let m = position_at haystack c.in_ok-first.first.at in
    let short : length haystack < 2 ^ 63 = search rules in (
      m,
      m,
      first_here table haystack c.utf8.haystack one.entry (position_at haystack c.args.start)
          c.in_ok-first.first c.in_ok-first.ensures.first,
      can_count table haystack m c.utf8.haystack short c.requires.finds.countable 1 (omega arith),
      begun _ _ _ m c.restart.new.cache (c.restart.ensures.fresh table c.requires.finds.between),
    )

pub returns-clause-found : goal.returns-clause-found
returns-clause-found c =
    let one = c.args.pattern.now in
    let table = places_of one.table.now in
    let haystack = c.args.haystack.now in
    let text = chars haystack in
    let s = position_at haystack c.args.start in
    let m = position_at haystack c.in_ok-first.first.at in
    let passes = c.in_ok-first.ensures.first in
    let here = first_here table haystack c.utf8.haystack one.entry s c.in_ok-first.first passes in
    let fresh = c.restart.ensures.fresh table c.requires.finds.between in
    let over = over_found (rw (c.advance.ensures.all refl) at
    (c.advance.ensures.stops m m here (begun _ _ _ m c.restart.new.cache fresh))) in
    let row = c.advance.new.cache.best.row in
    let best = with_start_kept (best_at (span_of c.found.result) row) in
    rw c.span_of.ensures
    (answer_from table text one.entry s m
    (none_before_first table haystack c.utf8.haystack one.entry s c.in_ok-first.first passes) best
    (one_best table text one.entry m best
    (spanned table text (one.entry ∷ []) m c.found.result row (rw c.found.ensures at over))))
