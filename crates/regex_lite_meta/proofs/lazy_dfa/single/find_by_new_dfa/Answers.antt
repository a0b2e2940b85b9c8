use Rattle.regex_lite_meta.proofs.lazy_dfa.OnceLemmas.{empty, known_stands, on_its_way}
use Rattle.regex_lite_meta.proofs.lazy_dfa.OnceLemmas.{stands_under_way}
use Rattle.regex_lite_meta.proofs.lazy_dfa.single.find_by_new_dfa.Goals as goal

pub state_at-state-requires-clause-is_dfa : goal.state_at-state-requires-clause-is_dfa
state_at-state-requires-clause-is_dfa g c =
    c.in-Some.ensures.is_dfa

pub state_at-state-requires-clause-none_pending : goal.state_at-state-requires-clause-none_pending
state_at-state-requires-clause-none_pending g c =
    c.in-Some.ensures.none_pending

pub state_at-state-requires-clause-between : goal.state_at-state-requires-clause-between
state_at-state-requires-clause-between g c = c.requires.on.4.ready

pub state_at-state-requires-clause-own : goal.state_at-state-requires-clause-own
state_at-state-requires-clause-own g c =
    let on = c.requires.on.4 in λ low len part. (on.own low len part).few

pub search_while_it_pays-requires-clause-stands : goal.search_while_it_pays-requires-clause-stands
search_while_it_pays-requires-clause-stands g c =
    let from = c.requires.on in
    let stands = c.in-Some-on_the_way.ensures _ _ _ from.0 from.1 empty from.2
    (on_its_way _ _ _ from.0 from.4 c.requires.width) in (
      from.0,
      from.3,
      known_stands _ _ _ _ _ _ _ _ _ _ stands c.with_state-at.ensures
          c.state_at-state.ensures.state,
    )

pub returns-in-Ok-clause-found : goal.returns-in-Ok-clause-found
returns-in-Ok-clause-found g c = λ s p is on.
    let stands = c.in-Some-on_the_way.ensures _ _ _ s p empty is
    (on_its_way _ _ _ s on c.requires.width) in
    c.in-Ok.ensures.found s
    (known_stands _ _ _ _ _ _ _ _ _ _ stands c.with_state-at.ensures c.state_at-state.ensures.state)

pub returns-in-Ok-clause-bounded : goal.returns-in-Ok-clause-bounded
returns-in-Ok-clause-bounded g c = λ s p is on.
    let stands = c.in-Some-on_the_way.ensures _ _ _ s p empty is
    (on_its_way _ _ _ s on c.requires.width) in
    c.in-Ok.ensures.bounded s
    (known_stands _ _ _ _ _ _ _ _ _ _ stands c.with_state-at.ensures c.state_at-state.ensures.state)

pub returns-in-Ok-clause-own : goal.returns-in-Ok-clause-own
returns-in-Ok-clause-own g c = λ s p is on.
    let stands = c.in-Some-on_the_way.ensures _ _ _ s p empty is
    (on_its_way _ _ _ s on c.requires.width) in
    c.in-Ok.ensures.own s
    (known_stands _ _ _ _ _ _ _ _ _ _ stands c.with_state-at.ensures c.state_at-state.ensures.state)

pub returns-clause-stands : goal.returns-clause-stands
returns-clause-stands g c = λ s p is on.
    let stands = c.in-Some-on_the_way.ensures _ _ _ s p empty is
    (on_its_way _ _ _ s on c.requires.width) in
    let there = c.in-Err.ensures.stands s
    (known_stands _ _ _ _ _ _ _ _ _ _ stands c.with_state-at.ensures c.state_at-state.ensures.state)
    in (there.p, there.is, stands_under_way there c.in-Err.ensures.not_anew)
