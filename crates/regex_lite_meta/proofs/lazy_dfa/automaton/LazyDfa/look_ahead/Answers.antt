use Rattle.regex_lite_meta.proofs.Common.{◌==◌, slice_get_within, not}
use Rattle.regex_lite_meta.proofs.lazy_dfa.AnewLemmas.{found_from}
use Rattle.regex_lite_meta.proofs.lazy_dfa.ScanLemmas.{none_found}
use Rattle.regex_lite_meta.proofs.lazy_dfa.StandsLemmas.{scans_there}
use Rattle.regex_lite_meta.proofs.lazy_dfa.automaton.LazyDfa.look_ahead.Goals as goal

pub scan-requires-clause-scanning : goal.scan-requires-clause-scanning
scan-requires-clause-scanning g c =
    let stands = c.requires.stands.1 in
    (stands.from, stands.p, scans_there stands c.in-Some.is c.found.result c.found.ensures)

pub scan-requires-clause-none : goal.scan-requires-clause-none
scan-requires-clause-none g c = λ earliest.
    none_found c.found.result _ c.found.ensures (c.requires.none earliest)

pub returns-then-scan-clause-stands : goal.returns-then-scan-clause-stands
returns-then-scan-clause-stands g c = λ s stands.
    found_from _ _ _ s stands.from stands.begun (not (g.row.EARLIEST == 0)) _
    (c.scan.ensures.over c.if-scan.true stands.from stands.p
    (scans_there stands c.in-Some.is c.found.result c.found.ensures))

pub resume-requires-clause-state : goal.resume-requires-clause-state
resume-requires-clause-state g c =
    let stands = c.requires.stands.1 in
    let comes = c.scan.ensures.on c.if-scan.false stands.from stands.p
    (scans_there stands c.in-Some.is c.found.result c.found.ensures) in
    slice_get_within c.args.self.now.states c.scan.new.at.state comes.2.state comes.2.is_state

pub resume-requires-clause-stands : goal.resume-requires-clause-stands
resume-requires-clause-stands g c =
    let from = c.requires.stands in (
      from.0,
      from.1,
      c.scan.ensures.on c.if-scan.false from.1.from from.1.p
          (scans_there from.1 c.in-Some.is c.found.result c.found.ensures),
    )

pub begin_anew-requires-clause-stands : goal.begin_anew-requires-clause-stands
begin_anew-requires-clause-stands g c =
    let from = c.requires.stands in
    let comes = c.scan.ensures.on c.if-scan.false from.1.from from.1.p
    (scans_there from.1 c.in-Some.is c.found.result c.found.ensures) in (
      from.0,
      from.1.from,
      comes.0,
      c.resume.ensures.stands from.0 from.1 comes,
      from.1.begun,
      comes.2,
    )

pub returns-clause-stands : goal.returns-clause-stands
returns-clause-stands g c = λ s stands.
    let comes = c.scan.ensures.on c.if-scan.false stands.from stands.p
    (scans_there stands c.in-Some.is c.found.result c.found.ensures) in
    c.begin_anew.ensures.stands s stands.from comes.0 (c.resume.ensures.stands s stands comes)
    stands.begun comes.2

pub returns-clause-between : goal.returns-clause-between
returns-clause-between g c =
    let stands = c.requires.stands.1 in
    let comes = c.scan.ensures.on c.if-scan.false stands.from stands.p
    (scans_there stands c.in-Some.is c.found.result c.found.ensures) in
    (c.begin_anew.ensures.stands _ stands.from comes.0 (c.resume.ensures.stands _ stands comes)
    stands.begun comes.2).on.ready

pub returns-clause-width : goal.returns-clause-width
returns-clause-width g c =
    let stands = c.requires.stands.1 in
    let comes = c.scan.ensures.on c.if-scan.false stands.from stands.p
    (scans_there stands c.in-Some.is c.found.result c.found.ensures) in
    (c.begin_anew.ensures.stands _ stands.from comes.0 (c.resume.ensures.stands _ stands comes)
    stands.begun comes.2).on.width

pub returns-clause-none : goal.returns-clause-none
returns-clause-none g c = λ earliest.
    c.begin_anew.ensures.none
    (c.resume.ensures.none (c.scan.ensures.none earliest c.if-scan.false)
    (c.requires.none earliest))
