use Rattle.regex_lite_engine.proofs.Common.{chars}
use Rattle.regex_lite_engine.proofs.search.list_patterns.ListStartLemmas.{all_of_entries, starts_at}
use Rattle.regex_lite_engine.proofs.search.all_of_list.AllOfListPatterns.come_to.Goals as goal

pub returns-clause-starts : goal.returns-clause-starts
returns-clause-starts c p is =
    let reported = c.entries-entries.ensures in
    starts_at
    (all_of_entries c.args.self.now.list.now c.entries-entries.result.now reported.same
    reported.inside reported.few) (chars c.args.arg2.now) p

pub returns-clause-inside : goal.returns-clause-inside
returns-clause-inside c =
    let reported = c.entries-entries.ensures in
    (all_of_entries c.args.self.now.list.now c.entries-entries.result.now reported.same
    reported.inside reported.few).inside

pub returns-clause-few : goal.returns-clause-few
returns-clause-few c =
    let reported = c.entries-entries.ensures in
    (all_of_entries c.args.self.now.list.now c.entries-entries.result.now reported.same
    reported.inside reported.few).few
