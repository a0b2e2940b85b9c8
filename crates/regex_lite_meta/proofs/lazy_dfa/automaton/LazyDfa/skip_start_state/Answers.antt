use Rattle.regex_lite_meta.proofs.Common.{chars, inr, slice_get_within}
use Rattle.regex_lite_meta.proofs.lazy_dfa.HereLemmas.{edge_there, is_there}
use Rattle.regex_lite_meta.proofs.lazy_dfa.ScanLemmas.{is_start_state, skipped}
use Rattle.regex_lite_meta.proofs.lazy_dfa.automaton.LazyDfa.skip_start_state.Goals as goal

pub returns-clause-on : goal.returns-clause-on
returns-clause-on g c = λ low p scanning.
    let table = g.P.Patterns.table c.args.patterns.now in
    let entries = g.P.Patterns.entries c.args.patterns.now in
    let h = chars c.args.haystack.now in
    let at = c.args.at.now in
    let here = c.pass_over-here.result in
    let none = c.requires.none in
    let passes = c.pass_over-here.ensures p (is_there c.args.haystack.now c.utf8.haystack scanning
    c.at-from.result c.at-from.ensures.here) in
    let in_start = c.requires.empty scanning.state scanning.is_state in
    let found = c.in-Some.ensures in (
      passes.q,
      passes.later,
      skipped table entries h low p c.args.self.now at scanning here passes in_start none
          c.in-Some.state found.state found.is_state found.none found.searching found.sees,
      inr (is_start_state table entries h low p c.args.self.now at scanning here passes in_start
          none),
    )

pub at-from-requires : goal.at-from-requires
at-from-requires g c = edge_there c.args.haystack.now c.utf8.haystack c.requires.scanning.2

pub pass_over-here-requires : goal.pass_over-here-requires
pass_over-here-requires g c =
    let from = c.requires.scanning in (
      from.1,
      is_there c.args.haystack.now c.utf8.haystack from.2 c.at-from.result c.at-from.ensures.here,
    )

pub knows-requires : goal.knows-requires
knows-requires g c =
    let scanning = c.requires.scanning.2 in
    slice_get_within c.args.self.now.states c.args.at.now.state scanning.state scanning.is_state
