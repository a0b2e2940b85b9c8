use Rattle.regex_lite_meta.proofs.Common.{[], ◌∷◌, chars, rules, places_of, position_at}
use Rattle.regex_lite_meta.proofs.Common.{best_reported}
use Rattle.regex_lite_meta.proofs.EndLemmas.{ends_there}
use Rattle.regex_lite_meta.proofs.lazy_dfa.single.one.search_shortest_by_dfa.Goals as goal

pub returns : goal.returns
returns c =
    let one = c.args.pattern.now in
    let haystack = c.args.haystack.now in record {
      found = rw c.end_of.ensures
          (ends_there (places_of one.table.now) (chars haystack) (one.entry ∷ [])
          (position_at haystack c.args.start) (best_reported c.in_ok-found.found)
          c.in_ok-found.ensures.found);
      cost = c.in_ok-found.ensures.cost;
      entered = search rules;
    }
