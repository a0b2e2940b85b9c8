use Rattle.regex_lite.proofs.Common.{◌<◌, ◌≤◌, ◌≢◌, length, Some, subst, rules, most_ahead}
use Rattle.regex_lite.proofs.Common.{span_of_match, Scanning}
use Rattle.regex_lite.proofs.AheadLemmas.{fewer_ahead}
use Rattle.regex_lite.proofs.string.iter.scan.Scan.next.Goals as goal

pub returns-in-Some-clause-fewer : goal.returns-in-Some-clause-fewer
returns-in-Some-clause-fewer g c =
    let cursor = c.self.inside.cursor in
    let pass = c.pass-self-inside.result in
    let found = c.in-Some.found in
    let reported = c.in-Some.ensures.next in
    let old : Scanning g.row.F.Denot = record {
      finder = c.self.inside.finder;
      haystack = cursor.haystack.now;
      limit = cursor.limit;
      ended = cursor.ended;
    } in
    let new : Scanning g.row.F.Denot = record {
      finder = c.next_match.new.finder;
      haystack = pass.haystack.now;
      limit = pass.limit;
      ended = pass.ended;
    } in
    let may : cursor.limit ≢ Some 0 = search rules in
    let inside : found.end ≤ length cursor.haystack.now =
    subst (λ bytes. found.end ≤ length bytes) reported.2.is_match.haystack found.lies_in.inside in
    subst (λ own. most_ahead new < most_ahead own) c.self.view_is
    (fewer_ahead old new (span_of_match found) may c.pass-self-inside.ensures.haystack
    c.pass-self-inside.ensures.ended reported.4 inside)
