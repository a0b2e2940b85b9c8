use Rattle.regex_lite_engine.proofs.Common.{length, chars, places_of}
use Rattle.regex_lite_engine.proofs.search.OneStartLemmas.{one_inside, one_at_most, one_starts}
use Rattle.regex_lite_engine.proofs.search.one_pattern.OnePatternPatterns.come_to.Goals as goal

pub returns-clause-inside : goal.returns-clause-inside
returns-clause-inside c =
    let one = c.args.self.now in
    one_inside (length (places_of one.table.now)) (record { number = 0; place = one.entry })
    c.may_start-self.result one.inside

pub returns-clause-starts : goal.returns-clause-starts
returns-clause-starts c = λ p is.
    let one = c.args.self.now in
    let haystack = chars c.args.haystack.now in
    one_starts (places_of one.table.now) haystack one.entry p c.may_start-self.result
    (λ off. one.facts haystack p (c.may_start-self.ensures off p is))

pub returns-clause-few : goal.returns-clause-few
returns-clause-few c =
    one_at_most (record { number = 0; place = c.args.self.now.entry }) c.may_start-self.result
