use Rattle.regex_lite.proofs.Common.{◌≡◌, ◌*◌, List, length, take, ap, refl, ◌∙◌, Tree}
use Rattle.regex_lite.proofs.Common.{Found}
use Rattle.regex_lite.proofs.Common.{HasTree, groups_of, groups_at, Groups, AreGroups, AreGroupsOf}
use Rattle.regex_lite.proofs.Common.{AreTrees, CompiledList}
use Rattle.regex_lite.specs.ReportedWays.{IsReportedOfWay}
use Rattle.regex_lite.proofs.string.ListGroupLemmas.{listed_groups, listed_there}
use Rattle.regex_lite.proofs.string.ListSlotLemmas.{width_kept}
use Rattle.regex_lite.proofs.string.list.RegexList.captured.Goals as goal
use Rattle.regex_lite.proofs.string.list.RegexList.captured.Goals.{After-truncate}

-- the slots hold the groups of the way that the search reported
listed : (c : After-truncate) (trees : List Tree) (tree : Tree) (own : Found)
    → AreTrees c.args.self.now trees → HasTree trees c.args.found.0 tree
    → IsReportedOfWay tree c.args.haystack.now (c.args.found.1.start, c.args.found.1.end)
    c.args.found.1.slots.items own
    → AreGroups (groups_of c.args.haystack.now c.truncate.new.self.items c.of_listed-source.result)
    × ((groups : Groups)
    → groups ≡ groups_of c.args.haystack.now c.truncate.new.self.items c.of_listed-source.result
    → AreGroupsOf tree c.args.haystack.now own groups)
listed c trees tree own trees_given numbered reported =
    let a = c.args in
    let compiled = c.self.inside.compiled in
    let built = c.self.invariant in
    let given : AreTrees a.self.now built.trees = rw (← c.self.view_is) built.given in
    let number = a.found.0 in
    let outcome = a.found.1 in
    let width = width_kept a.self.now compiled built given (length outcome.slots.items)
    c.requires.slots in
    let shared = c.of_listed-source.result in
    let stored = c.of_listed-source.ensures
    ∙ ap (λ (compiled : CompiledList). groups_at compiled.graph.groups number)
    c.in_ok-clone.ensures.cases in
    let filled = c.truncate.ensures.items
    ∙ ap (λ n. take n c.slots_with-slots.result.items) c.slots.ensures
    ∙ ap (take (2 * length shared.capture_names)) c.slots_with-slots.ensures in
    listed_groups a.haystack.now c.utf8.haystack a.self.now compiled built given number trees
    trees_given tree numbered own outcome.slots.items (outcome.start, outcome.end) reported width
    c.truncate.new.self.items shared stored filled

pub of_listed-source-requires : goal.of_listed-source-requires
of_listed-source-requires c =
    let a = c.args in
    let built = c.self.invariant in
    let reported = c.requires.found in
    rw c.in_ok-clone.ensures.cases
    (listed_there a.haystack.now c.utf8.haystack a.self.now c.self.inside.compiled built
    (rw (← c.self.view_is) built.given)
    a.found.0 reported.trees reported.given reported.tree reported.numbered)

pub new-caps-requires : goal.new-caps-requires
new-caps-requires c =
    let reported = c.requires.found in
    (listed (goal.at.new-caps-requires c).After-truncate reported.trees reported.tree reported.found
    reported.given reported.numbered reported.reported).0

pub returns-clause-found : goal.returns-clause-found
returns-clause-found c = λ trees tree own given numbered reported. (
  refl,
  (listed (goal.at.returns-clause-found c).After-truncate trees tree own given numbered reported).1
      c.new-caps.result c.new-caps.ensures,
)
