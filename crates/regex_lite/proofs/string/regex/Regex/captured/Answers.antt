use Rattle.regex_lite.proofs.Common.{◌≡◌, chars, ap, ◌∙◌, IsTree, Tree, Found, captures_len}
use Rattle.regex_lite.proofs.Common.{stored_groups, groups_of, Groups, AreGroups, AreGroupsOf}
use Rattle.regex_lite.proofs.Common.{kept_slots}
use Rattle.regex_lite.specs.ReportedWays.{IsReportedOfWay}
use Rattle.regex_lite.proofs.OneTreeLemmas.{one_tree}
use Rattle.regex_lite.proofs.string.ReportedLemmas.{groups_reported}
use Rattle.regex_lite.proofs.string.regex.Regex.captured.Goals as goal
use Rattle.regex_lite.proofs.string.regex.Regex.captured.Goals.{After-of_regex-source}

-- the slots hold the groups of the way that the search reported
reported : (c : After-of_regex-source) (tree : Tree) (found : Found)
    → IsTree c.args.self.now.flags (chars c.args.self.now.pattern) tree
    → IsReportedOfWay tree c.args.haystack.now (c.args.outcome.start, c.args.outcome.end)
    c.args.outcome.slots.items found
    → AreGroups
    (groups_of c.args.haystack.now c.slots_with-slots.result.items c.of_regex-source.result)
    × ((groups : Groups)
    → groups
    ≡ groups_of c.args.haystack.now c.slots_with-slots.result.items c.of_regex-source.result
    → AreGroupsOf tree c.args.haystack.now found groups)
reported c tree found own is =
    let re = c.args.self.now in
    let built = c.self.invariant in
    let outcome = c.args.outcome in
    let given : IsTree re.flags (chars re.pattern) built.tree = rw (← c.self.view_is) built.given in
    let kept = c.requires.slots in
    let enough = kept.2 ∙ ap (λ (tree : Tree). kept_slots (captures_len tree))
    (one_tree re.flags (chars re.pattern) kept.0 built.tree kept.1 given) in
    groups_reported c.args.haystack.now c.utf8.haystack re (outcome.start, outcome.end)
    outcome.slots.items tree found own is c.self.inside.compiled built given enough
    c.slots_with-slots.result.items c.slots_with-slots.ensures c.of_regex-source.result
    (c.of_regex-source.ensures ∙ ap stored_groups c.in_ok-clone.ensures.cases)

pub new-requires : goal.new-requires
new-requires c =
    let own = c.requires.outcome in
    (reported (goal.at.new-requires c).After-of_regex-source own.tree own.found own.given
    own.reported).0

pub returns-clause-found : goal.returns-clause-found
returns-clause-found c = λ tree found own is.
    (reported (goal.at.returns-clause-found c).After-of_regex-source tree found own is).1
    c.new.result c.new.ensures
