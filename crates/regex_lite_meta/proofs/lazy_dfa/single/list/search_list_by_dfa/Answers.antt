use Rattle.regex_lite_engine.proofs.search.ListOutcomeLemmas.{outcome_reported}
use Rattle.regex_lite_meta.proofs.lazy_dfa.single.list.search_list_by_dfa.Goals as goal

pub returns-clause-found : goal.returns-clause-found
returns-clause-found c = λ trees regular is.
    outcome_reported trees c.args.list.now is c.args.haystack.now c.args.start c.requires.boundary.0
    regular c.without_slots.result
    (rw c.without_slots.ensures.reported at c.in_ok-found.ensures.found)
