use Rattle.regex_lite_engine.proofs.pikevm.ShortestLemmas.{not_true}
use Rattle.regex_lite_meta.proofs.Common.{◌==◌, ◌∙◌, arith, inl, inr, rules, best_of, not}
use Rattle.regex_lite_meta.proofs.lazy_dfa.OnceLemmas.{found_kept}
use Rattle.regex_lite_meta.proofs.lazy_dfa.RunLemmas.{match_counted}
use Rattle.regex_lite_meta.proofs.lazy_dfa.StandsLemmas.{bounded_after, bounded_there, found_there}
use Rattle.regex_lite_meta.proofs.lazy_dfa.StandsLemmas.{stepped_there, within_after, within_there}
use Rattle.regex_lite_engine.proofs.search.here.HereLemmas.{at_most}
use Rattle.regex_lite_meta.proofs.lazy_dfa.automaton.LazyDfa.search_while_it_pays.Goals as goal

pub positions-init : goal.positions-init
positions-init g c = record {
  is_dfa = c.requires.is_dfa;
  none_pending = c.requires.none_pending;
  none = c.requires.none;
  stands = λ s begun. begun;
}

pub at_start_state-at-requires-clause-stands : goal.at_start_state-at-requires-clause-stands
at_start_state-at-requires-clause-stands g c =
    let from = c.requires.stands in (from.0, c.positions.invariant.stands _ from.2)

pub look_ahead-ahead-requires-clause-stands : goal.look_ahead-ahead-requires-clause-stands
look_ahead-ahead-requires-clause-stands g c =
    let from = c.requires.stands in
    (from.0, c.at_start_state-at.ensures.stands _ (c.positions.invariant.stands _ from.2))

pub go_over-match_flag-requires : goal.go_over-match_flag-requires
go_over-match_flag-requires g c =
    let from = c.requires.stands in
    let in_start = c.at_start_state-at.ensures.stands _ (c.positions.invariant.stands _ from.2) in
    let stands = c.in_default.ensures.stands _ in_start in
    record {
      all = c.requires.all;
      on = (
        from.0,
        stands.from,
        stands.p,
        stands.is,
        from.1,
        stands.on,
      );
    }

pub returns-in-Some-clause-found : goal.returns-in-Some-clause-found
returns-in-Some-clause-found g c = λ s begun.
    c.in-Some.ensures.stands s
    (c.at_start_state-at.ensures.stands s (c.positions.invariant.stands s begun))

pub returns-then-is_given_up-clause-stands : goal.returns-then-is_given_up-clause-stands
returns-then-is_given_up-clause-stands g c = λ s begun.
    c.in_default.ensures.stands s
    (c.at_start_state-at.ensures.stands s (c.positions.invariant.stands s begun))

pub returns-then-is_done-clause-found : goal.returns-then-is_done-clause-found
returns-then-is_done-clause-found g c = λ s begun.
    let in_start = c.at_start_state-at.ensures.stands s (c.positions.invariant.stands s begun) in
    let stands = c.in_default.ensures.stands s in_start in
    let on = c.go_over-match_flag.ensures.on _ _ _ stands.is stands.on in
    found_kept _ _ _ s (not (g.row.EARLIEST == 0)) c.go_over-match_flag.new.cache c.found.result
    (on.ready.best_width ∙ on.width) c.found.ensures
    (found_there stands on (not (g.row.EARLIEST == 0)) c.look_ahead-ahead.ensures.none
    c.go_over-match_flag.ensures.ends (c.is_done.ensures.done (search rules)))

pub returns-then-is_done-clause-between : goal.returns-then-is_done-clause-between
returns-then-is_done-clause-between g c =
    let at = c.positions.invariant.stands _ c.requires.stands.2 in
    let stands = c.in_default.ensures.stands _ (c.at_start_state-at.ensures.stands _ at) in
    (c.go_over-match_flag.ensures.on _ _ _ stands.is stands.on).ready

pub returns-then-is_done-clause-width : goal.returns-then-is_done-clause-width
returns-then-is_done-clause-width g c =
    let at = c.positions.invariant.stands _ c.requires.stands.2 in
    let stands = c.in_default.ensures.stands _ (c.at_start_state-at.ensures.stands _ at) in
    (c.go_over-match_flag.ensures.on _ _ _ stands.is stands.on).width

pub determinize-at-requires-clause-between : goal.determinize-at-requires-clause-between
determinize-at-requires-clause-between g c =
    let at = c.positions.invariant.stands _ c.requires.stands.2 in
    let stands = c.in_default.ensures.stands _ (c.at_start_state-at.ensures.stands _ at) in
    (c.go_over-match_flag.ensures.on _ _ _ stands.is stands.on).ready

pub determinize-at-requires-clause-stepped : goal.determinize-at-requires-clause-stepped
determinize-at-requires-clause-stepped g c =
    let at = c.positions.invariant.stands _ c.requires.stands.2 in
    let stands = c.in_default.ensures.stands _ (c.at_start_state-at.ensures.stands _ at) in
    stepped_there stands (c.go_over-match_flag.ensures.on _ _ _ stands.is stands.on)
    c.go_over-match_flag.result c.requires.all c.go_over-match_flag.ensures.again
    c.go_over-match_flag.ensures.match_flag

pub next_position-at-requires-clause-first : goal.next_position-at-requires-clause-first
next_position-at-requires-clause-first g c =
    let at = c.positions.invariant.stands _ c.requires.stands.2 in
    let first = (c.in_default.ensures.stands _ (c.at_start_state-at.ensures.stands _ at)).first in
    elim c.first_after-first.ensures [
      | inl same ↦ omega (arith, same, first)
      | inr own ↦ let same = own.0 in omega (arith, same)
    ]

pub next_position-at-requires-clause-here : goal.next_position-at-requires-clause-here
next_position-at-requires-clause-here g c =
    let at = c.positions.invariant.stands _ c.requires.stands.2 in
    let stands = c.in_default.ensures.stands _ (c.at_start_state-at.ensures.stands _ at) in
    (stands.p, stands.is)

pub positions-smaller : goal.positions-smaller
positions-smaller g c =
    let at = c.positions.invariant.stands _ c.requires.stands.2 in
    let stands = c.in_default.ensures.stands _ (c.at_start_state-at.ensures.stands _ at) in
    let on = c.go_over-match_flag.ensures.on _ _ _ stands.is stands.on in
    let next = c.next_position-at.ensures.stands _ _ _ _ _ _ stands.is stands.begun
    stands.own_from on c.determinize-at.ensures.state
    in
    let most = at_most c.args.haystack.now next.p c.next_position-at.result.here c.utf8.haystack
    next.is in
    let later = c.next_position-at.ensures.later in
    let ahead = c.look_ahead-ahead.ensures.later in
    let passed = c.at_start_state-at.ensures.later in
    omega (arith, most, later, ahead, passed)

pub positions-preserved : goal.positions-preserved
positions-preserved g c = record {
  is_dfa = c.determinize-at.ensures.is_dfa;
  none_pending = c.determinize-at.ensures.none_pending;
  none = λ earliest.
      c.is_done.ensures.none_yet earliest (not_true c.is_done.result c.if-is_done.false);
  stands = λ s begun.
      let in_start = c.at_start_state-at.ensures.stands s (c.positions.invariant.stands s begun) in
      let stands = c.in_default.ensures.stands s in_start in
      let on = c.go_over-match_flag.ensures.on _ _ _ stands.is stands.on in
      c.next_position-at.ensures.stands _ _ c.determinize-at.new.self _ _ _ stands.is stands.begun
      stands.own_from on
      c.determinize-at.ensures.state;
}

pub returns-in-Some-clause-bounded : goal.returns-in-Some-clause-bounded
returns-in-Some-clause-bounded g c = λ s begun.
    bounded_there (c.at_start_state-at.ensures.stands s (c.positions.invariant.stands s begun))
    c.look_ahead-ahead.new.cache c.in-Some.ensures.same

pub returns-in-Some-clause-own : goal.returns-in-Some-clause-own
returns-in-Some-clause-own g c = λ s begun.
    within_there (c.at_start_state-at.ensures.stands s (c.positions.invariant.stands s begun))
    c.look_ahead-ahead.new.cache c.in-Some.ensures.same

pub returns-then-is_done-clause-own : goal.returns-then-is_done-clause-own
returns-then-is_done-clause-own g c = λ s begun.
    let in_start = c.at_start_state-at.ensures.stands s (c.positions.invariant.stands s begun) in
    let stands = c.in_default.ensures.stands s in_start in
    within_after stands (c.go_over-match_flag.ensures.on _ _ _ stands.is stands.on)

pub determinize-at-requires-clause-own : goal.determinize-at-requires-clause-own
determinize-at-requires-clause-own g c =
    let at = c.positions.invariant.stands _ c.requires.stands.2 in
    let stands = c.in_default.ensures.stands _ (c.at_start_state-at.ensures.stands _ at) in
    let on = c.go_over-match_flag.ensures.on _ _ _ stands.is stands.on in
    λ low len part. (on.spent low len part).few

pub returns-then-is_done-clause-entered : goal.returns-then-is_done-clause-entered
returns-then-is_done-clause-entered g c =
    let at = c.positions.invariant.stands _ c.requires.stands.2 in
    let stands = c.in_default.ensures.stands _ (c.at_start_state-at.ensures.stands _ at) in
    let cache = c.go_over-match_flag.new.cache in
    match_counted (best_of cache.best) c.found.result cache.best.row cache.walk.steps.entered
    c.args.least c.found.ensures
    (c.go_over-match_flag.ensures.on _ _ _ stands.is stands.on).ready.match_entered c.requires.least

pub returns-then-is_done-clause-bounded : goal.returns-then-is_done-clause-bounded
returns-then-is_done-clause-bounded g c = λ s begun.
    let in_start = c.at_start_state-at.ensures.stands s (c.positions.invariant.stands s begun) in
    let stands = c.in_default.ensures.stands s in_start in
    bounded_after stands (c.go_over-match_flag.ensures.on _ _ _ stands.is stands.on)

pub look_ahead-ahead-requires-clause-none : goal.look_ahead-ahead-requires-clause-none
look_ahead-ahead-requires-clause-none g c = c.positions.invariant.none
