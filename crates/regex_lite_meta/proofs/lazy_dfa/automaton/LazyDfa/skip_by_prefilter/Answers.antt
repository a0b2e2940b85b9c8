use Rattle.regex_lite_meta.proofs.Common.{◌≡◌, true, chars, rules, slice_get_within}
use Rattle.regex_lite_meta.proofs.lazy_dfa.HereLemmas.{edge_there, is_there}
use Rattle.regex_lite_meta.proofs.lazy_dfa.PrefilterSkipLemmas.{prefilter_skipped}
use Rattle.regex_lite_meta.proofs.lazy_dfa.automaton.LazyDfa.skip_by_prefilter.Goals as goal

pub may_skip-requires : goal.may_skip-requires
may_skip-requires g c =
    let is = c.requires.scanning.2 in
    slice_get_within c.args.self.now.states c.args.at.now.state is.state is.is_state

pub at-requires : goal.at-requires
at-requires g c = edge_there c.args.haystack.now c.utf8.haystack c.requires.scanning.2

pub skip-requires : goal.skip-requires
skip-requires g c =
    let from = c.requires.scanning in (
      from.1,
      is_there c.args.haystack.now c.utf8.haystack from.2 c.at.result c.at.ensures.here,
    )

pub returns-clause-on : goal.returns-clause-on
returns-clause-on g c = λ _ low p is.
    let may : c.may_skip.result ≡ true = search rules in
    prefilter_skipped (g.P.Patterns.table c.args.patterns.now)
    (g.P.Patterns.entries c.args.patterns.now) (chars c.args.haystack.now) low p c.args.self.now
    c.args.at.now is c.in-Some.next
    (rw c.in-Some.is at c.skip.ensures p
    (is_there c.args.haystack.now c.utf8.haystack is c.at.result c.at.ensures.here))
    (c.may_skip.ensures.empty may) (c.may_skip.ensures.none may)
    (c.may_skip.ensures.looks may)
