use Rattle.regex_lite_meta.proofs.Common.{[], ◌∷◌, chars, rules, places_of, span_of, position_at}
use Rattle.regex_lite_meta.proofs.Common.{span_reported}
use Rattle.regex_lite_meta.proofs.lazy_dfa.OnceLemmas.{spanned}
use Rattle.regex_lite_engine.proofs.pikevm.EndLemmas.{one_best}
use Rattle.regex_lite_meta.proofs.lazy_dfa.single.one.search_by_dfa.Goals as goal

pub returns : goal.returns
returns c =
    let one = c.args.pattern.now in
    let table = places_of one.table.now in
    let haystack = chars c.args.haystack.now in
    let s = position_at c.args.haystack.now c.args.start in record {
      found = rw c.without_slots.ensures.reported
          (one_best table haystack one.entry s (span_reported (span_of c.in_ok-found.found))
          (spanned table haystack (one.entry ∷ []) s c.in_ok-found.found []
          c.in_ok-found.ensures.found));
      slots = search rules;
      cost = c.in_ok-found.ensures.cost;
      entered = search rules;
    }
