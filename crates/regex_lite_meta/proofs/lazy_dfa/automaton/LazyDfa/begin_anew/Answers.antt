use Rattle.regex_lite_meta.proofs.Common.{◌≡◌, None, IfSome, chars, length, sym, subst, arith}
use Rattle.regex_lite_meta.proofs.Common.{rules, best_reported, IsComing, threads_of}
use Rattle.regex_lite_meta.specs.LazyDfa.Automaton.{ReadsAtMost}
use Rattle.regex_lite_meta.proofs.lazy_dfa.AnewLemmas.{anew}
use Rattle.regex_lite_meta.proofs.lazy_dfa.HereLemmas.{edge_there, is_there}
use Rattle.regex_lite_meta.proofs.lazy_dfa.ResumeLemmas.{stands_anew}
use Rattle.regex_lite_meta.proofs.lazy_dfa.RunLemmas.{position_later}
use Rattle.regex_lite_meta.proofs.lazy_dfa.automaton.LazyDfa.begin_anew.Goals as goal

pub at-stuck_here-requires : goal.at-stuck_here-requires
at-stuck_here-requires g c =
    edge_there c.args.haystack.now c.utf8.haystack c.requires.stands.5

pub back-requires : goal.back-requires
back-requires g c =
    let from = c.requires.stands in (
      from.2,
      is_there c.args.haystack.now c.utf8.haystack from.5 c.at-stuck_here.result
          c.at-stuck_here.ensures.here,
    )

pub returns-clause-stands : goal.returns-clause-stands
returns-clause-stands g c = λ s low q stands before scanning.
    let table = g.P.Patterns.table c.args.patterns.now in
    let h = chars c.args.haystack.now in
    let entries = g.P.Patterns.entries c.args.patterns.now in
    let stuck = c.args.stuck in
    let none : stuck.best ≡ None = search rules in
    let reads = subst (λ o. IfSome o (ReadsAtMost table entries)) (sym c.in-Some.ensures)
    c.requires.is_dfa.reach in
    let coming = subst
    (λ best. IsComing table h entries low (length h) q
    (threads_of stuck.first scanning.state.ways) (best_reported best)) none scanning.coming in
    let is = is_there c.args.haystack.now c.utf8.haystack scanning c.at-stuck_here.result
    c.at-stuck_here.ensures.here in
    let there = c.in-Some-back.ensures.here q is in
    let all = there.2 in
    let later = position_later h stands.p there.0 c.args.at.now.here c.in-Some-back.here stands.is
    there.1 c.in-Some-back.ensures.later in
    let low_there = stands.on.low in
    stands_anew table h entries s stands.from stands.p c.args.self.now c.args.cache.now
    c.reset.new.cache stands.on stands.begun c.args.at.now.anew stands.own_from
    c.reset.ensures.kept there.0 c.in-Some-back.here there.1 later
    (anew table h entries s low before c.in-Some.reach q there.0
    (threads_of stuck.first scanning.state.ways) reads coming (omega (arith, all))
    (omega (arith, low_there, later)))
    c.reset.ensures.none c.reset.ensures.threads c.args.at.now.until

pub returns-clause-later : goal.returns-clause-later
returns-clause-later g c = let later = c.in-Some-back.ensures.later in omega (arith, later)
