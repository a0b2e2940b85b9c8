use Rattle.regex_lite_meta.proofs.Common.{◌++◌, ap, ◌∙◌}
use Rattle.regex_lite_meta.proofs.once.search_list_uncounted.Goals as goal

pub returns-in_default-search-clause-found : goal.returns-in_default-search-clause-found
returns-in_default-search-clause-found c = λ trees regular is.
    c.in_default-search.ensures.found trees regular (rw c.in_ok-searcher.ensures.graph is)

pub returns-clause-found : goal.returns-clause-found
returns-clause-found c = λ trees regular is.
    rw
    (c.in_ok-extend_from_slice.ensures.items
    ∙ ap (λ z. z ++ c.slots.result.now) c.in_ok-row.ensures.items
    ∙ c.slots.ensures)
    (c.in-Some-search.ensures.found trees regular (rw c.in_ok-searcher.ensures.graph is))
