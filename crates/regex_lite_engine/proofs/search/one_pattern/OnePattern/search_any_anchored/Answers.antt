use Rattle.regex_lite_engine.proofs.Common.{◌^◌, ◌<◌, length, chars, arith, rules, places_of}
use Rattle.regex_lite_engine.proofs.Common.{length-map, place_of, position_at, best_of, is_some}
use Rattle.regex_lite_engine.proofs.Common.{ap, ◌∙◌, IsTrue, subst}
use Rattle.regex_lite_engine.proofs.Common.{option_map, false, refl, None, arrows_of}
use Rattle.std.specs.Prelude.{not, ◌==◌}
use Rattle.regex_lite_engine.proofs.search.AnchoredOutcomeLemmas.{none_from_dead}
use Rattle.regex_lite_engine.proofs.search.FirstStartLemmas.{none_tried}
use Rattle.regex_lite_engine.proofs.pikevm.AnchoredLemmas.{some_end}
use Rattle.regex_lite_engine.proofs.search.OutcomeLemmas.{can_count}
use Rattle.regex_lite_engine.proofs.search.one_pattern.OnePattern.search_any_anchored.Goals as goal

pub cache_for-requires : goal.cache_for-requires
cache_for-requires g c =
    let one = c.args.self.now in
    omega (arith, one.inside, length-map one.table.now.places place_of)

pub run_anchored-requires-clause-counts : goal.run_anchored-requires-clause-counts
run_anchored-requires-clause-counts g c =
    let haystack = c.args.haystack.now in
    let short : length haystack < 2 ^ 63 = search rules in
    can_count (places_of c.args.self.now.table.now) haystack (position_at haystack c.args.start)
    c.utf8.haystack short c.in_ok-cache.ensures.countable 1 (omega arith)

pub returns : goal.returns
returns g c = record {
  best = best_of c.run_anchored.new.cache.best;
  found = c.run_anchored.ensures.found;
  is_some = c.is_some.ensures ∙ ap is_some c.end.ensures
      ∙ some_end (best_of c.run_anchored.new.cache.best);
  cost = c.run_anchored.ensures.bounded;
  entered = λ reported. c.run_anchored.ensures.entry (λ none. (
      let is : IsTrue false = subst IsTrue (c.is_some.ensures ∙ ap is_some c.end.ensures
      ∙ ap (λ best. is_some (option_map (λ z. z.1) best)) none) reported in
      cc));
}

pub returns-then-not-may_start_at : goal.returns-then-not-may_start_at
returns-then-not-may_start_at g c =
    let table = places_of c.args.self.now.table.now in
    let text = chars c.args.haystack.now in
    let s = position_at c.args.haystack.now c.args.start in
    let steps = c.no_steps.result in
    let none = c.no_steps.ensures in record {
      best = None;
      found = none_from_dead table text c.args.self.now.entry (not (g.row.WHOLE == 0)) s
          (c.may_start_at.ensures c.if-not-may_start_at.true);
      is_some = refl;
      cost = none_tried (length table) (arrows_of table) text s steps.tried steps.entered
          steps.looked none.tried none.entered none.looked;
      entered = λ reported. cc;
    }
