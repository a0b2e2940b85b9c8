use Rattle.regex_lite.proofs.Common.{◌≡◌, length, Some, sym, subst, chars, Expression, TellsMatch}
use Rattle.regex_lite.proofs.Common.{TellsLocations, IsMatchOf, spans_from}
use Rattle.regex_lite.proofs.string.AnchoredLemmas.{reported_from, reported_there}
use Rattle.regex_lite.proofs.string.regex_searcher.RegexSearcher.captures_read_anchored_at.Goals as goal

pub read-requires-clause-found : goal.read-requires-clause-found
read-requires-clause-found c =
    let a = c.args in
    let found = c.in_ok-found.found in (
      a.start,
      subst (λ (re : Expression). TellsMatch re a.haystack.now a.start (Some found))
          (sym c.find_anchored_at.ensures.same)
          (reported_from (λ tree. IsMatchOf a.haystack.now) a.self.now a.haystack.now a.start found
          c.in_ok-found.ensures.found),
    )

pub returns-clause-found : goal.returns-clause-found
returns-clause-found c =
    let a = c.args in
    let found = c.in_ok-found.found in
    let at = c.in_ok-found.ensures.found in
    let spans = c.read.new.locs in
    let from = reported_from (λ tree. IsMatchOf a.haystack.now) a.self.now a.haystack.now a.start
    found at in
    let same = c.find_anchored_at.ensures.same in
    reported_there (λ tree found m. IsMatchOf a.haystack.now found m
    × (spans ≡ spans_from (chars a.haystack.now) found.marks 0 (length spans))) a.self.now
    a.haystack.now a.start found (at.0, at.1, (at.2.0, at.2.1))
    (subst (λ (re : Expression). TellsLocations re a.haystack.now a.start spans (Some found)) same
    (c.read.ensures.locations a.start
    (subst (λ (re : Expression). TellsMatch re a.haystack.now a.start (Some found)) (sym same)
    from)))
