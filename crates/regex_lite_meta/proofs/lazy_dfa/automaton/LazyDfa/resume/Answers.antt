use Rattle.regex_lite_meta.proofs.Common.{chars, length, refl, ap, arith, length-map, way_in}
use Rattle.regex_lite_meta.proofs.Common.{◌≡◌, sym, ◌∙◌}
use Rattle.regex_lite_meta.proofs.lazy_dfa.HereLemmas.{edge_there, is_there}
use Rattle.regex_lite_meta.proofs.lazy_dfa.RunLemmas.{at_later, other_at}
use Rattle.regex_lite_meta.proofs.lazy_dfa.ResumeLemmas.{stands_gone, stands_stuck}
use Rattle.regex_lite_meta.proofs.lazy_dfa.ResumeLemmas.{start_state_edge, start_state_is}
use Rattle.regex_lite_meta.proofs.lazy_dfa.ResumeLemmas.{there_start_state}
use Rattle.regex_lite_meta.proofs.lazy_dfa.automaton.LazyDfa.resume.Goals as goal

pub load_ways-requires-clause-few : goal.load_ways-requires-clause-few
load_ways-requires-clause-few g c =
    let stands = c.requires.stands.1 in
    let scanning = c.requires.stands.2.2 in
    let fits = c.requires.is_dfa.fit c.args.stuck.state scanning.state scanning.is_state in
    let few = fits.few in
    let cap = stands.on.ready.cap in
    let same = ap length (c.ways-ways.ensures scanning.state scanning.is_state) in
    omega (arith, few, cap, same, length-map c.ways-ways.result.now way_in)

pub returns-then-may_have-clause-stands : goal.returns-then-may_have-clause-stands
returns-then-may_have-clause-stands g c = λ s stands comes.
    let haystack = chars c.args.haystack.now in
    let q = comes.0 in
    let scanning = comes.2 in
    let stuck = c.args.stuck in
    let there = scanning.there in
    let other = c.if-stuck-at.false in
    let later = other_at haystack stands.p q c.args.at.now.here scanning.here stands.is scanning.is
    comes.1 (λ e. other (sym there ∙ e)) in
    let ways = c.ways-ways.ensures scanning.state scanning.is_state in
    let fits = c.requires.is_dfa.fit stuck.state scanning.state scanning.is_state in
    stands_stuck (g.P.Patterns.table c.args.patterns.now) haystack
    (g.P.Patterns.entries c.args.patterns.now) s stands.from stands.p c.args.self.now
    c.args.cache.now c.load_ways.new.cache stands.on stands.begun c.args.at.now.anew
    stands.own_from c.load_ways.ensures.kept q stuck scanning later
    c.ways-ways.result.now ways (c.if-may_load.ensures.all refl) fits
    c.load_ways.ensures.best (c.if-may_have.ensures refl) c.load_ways.ensures.threads
    c.at-at.result (is_there c.args.haystack.now c.utf8.haystack scanning c.at-at.result
    c.at-at.ensures.here) c.at-at.ensures.at (c.if-may_load.ensures.before refl)
    c.args.at.now.until

pub returns-then-may_have-clause-later : goal.returns-then-may_have-clause-later
returns-then-may_have-clause-later g c =
    let stands = c.requires.stands.1 in
    let comes = c.requires.stands.2 in
    let there = comes.2.there in
    let at = c.at-at.ensures.at in
    let le = at_later (chars c.args.haystack.now) stands.p comes.0 c.args.at.now.here comes.2.here
    stands.is comes.2.is comes.1 in
    omega (arith, there, at, le)

pub at-at-requires : goal.at-at-requires
at-at-requires g c = edge_there c.args.haystack.now c.utf8.haystack c.requires.stands.2.2

pub at-here-requires : goal.at-here-requires
at-here-requires g c =
    let stands = c.requires.stands.1 in
    let first = stands.first in
    let more = c.if-stuck-at-2.true in
    start_state_edge c.args.haystack.now c.utf8.haystack c.requires.stands.2.3
    (λ e. omega (arith, e, first, more))

pub returns-then-stuck-at-2-clause-stands : goal.returns-then-stuck-at-2-clause-stands
returns-then-stuck-at-2-clause-stands g c = λ s stands comes.
    let haystack = chars c.args.haystack.now in
    let here = c.at-here.result in
    let first = stands.first in
    let more = c.if-stuck-at-2.true in
    let at = c.at-here.ensures.at in
    let other : c.args.stuck.start_state_at ≡ c.args.at.now.first → ⊥ = λ e.
    omega (arith, e, first, more) in
    let in_start = there_start_state c.args.haystack.now c.utf8.haystack comes.3 other in
    let is = start_state_is c.args.haystack.now c.utf8.haystack comes.3 other here
    c.at-here.ensures.here in
    let later =
    other_at haystack stands.p in_start.r c.args.at.now.here here stands.is is in_start.later
    (λ e. omega (arith, e, at, more)) in
    stands_gone (g.P.Patterns.table c.args.patterns.now) haystack
    (g.P.Patterns.entries c.args.patterns.now) s stands.from stands.p c.args.self.now
    c.args.cache.now c.reset.new.cache stands.on stands.begun c.args.at.now.anew
    stands.own_from c.reset.ensures.kept here in_start is later c.reset.ensures.none
    c.reset.ensures.threads c.empty_state-at.result c.empty_state-at.ensures _
