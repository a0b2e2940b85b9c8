use Rattle.regex_lite.proofs.Common.{◌≡◌, Some, None, ap, ◌∙◌, groups_at, groups_of, Groups}
use Rattle.regex_lite.proofs.Common.{AreGroups, AreTrees, AreGroupsOf, TellsGroups, CompiledList}
use Rattle.regex_lite.specs.ListedPattern.{OfPattern}
use Rattle.regex_lite.proofs.string.ListGroupLemmas.{stored_at}
use Rattle.regex_lite.proofs.string.ListedLemmas.{has_entry, listed_groups, listed_none}
use Rattle.regex_lite.proofs.string.ListedLemmas.{listed_of_match, listed_outcome, listed_slots}
use Rattle.regex_lite.proofs.string.ListedLemmas.{there, tree_at}
use Rattle.regex_lite.proofs.string.list.RegexList.captures_of_at.Goals as goal
use Rattle.regex_lite.proofs.string.list.RegexList.captures_of_at.Goals.{After-of_listed-source}

-- the slots hold the groups that the search reported
reported : (c : After-of_listed-source)
    → AreGroups
    (groups_of c.args.haystack.now c.slots_with-slots.result.items c.of_listed-source.result)
    × ((groups : Groups)
    → groups
    ≡ groups_of c.args.haystack.now c.slots_with-slots.result.items c.of_listed-source.result
    → OfPattern c.args.self.now c.args.number
    (λ re. TellsGroups re c.args.haystack.now c.args.start (Some groups)))
reported c =
    let list = c.args.self.now in
    let own = c.self.inside.compiled in
    let built = c.self.invariant in
    let given : AreTrees list built.trees = rw (← c.self.view_is) built.given in
    let number = c.args.number in
    let within = c.requires.number in
    let outcome = c.in-Some.field-0 in
    listed_groups list own built given number within c.args.haystack.now c.utf8.haystack
    c.args.start outcome
    (listed_outcome list own built given number within c.deref.result.now.graph c.args.haystack.now
    c.args.start c.in_ok-reported.reported (Some outcome)
    (ap (λ (compiled : CompiledList). compiled.graph) c.deref.ensures)
    c.in_ok-reported.ensures.found c.in-Some.is)
    (listed_slots list own built given number within c.slots_of.result c.kept_of-count.result
    c.in_ok-reported.reported outcome c.slots_of.ensures c.kept_of-count.ensures
    c.in_ok-reported.ensures.slots c.in-Some.is)
    c.slots_with-slots.result.items c.slots_with-slots.ensures c.of_listed-source.result
    (c.of_listed-source.ensures
    ∙ ap (λ (compiled : CompiledList). groups_at compiled.graph.groups number)
    c.in_ok-clone.ensures.cases)

pub search_listed-requires-clause-number : goal.search_listed-requires-clause-number
search_listed-requires-clause-number c =
    let built = c.self.invariant in
    let given : AreTrees c.args.self.now built.trees = rw (← c.self.view_is) built.given in
    rw c.deref.ensures
    (has_entry c.args.self.now c.self.inside.compiled built given c.args.number c.requires.number)

pub of_listed-source-requires : goal.of_listed-source-requires
of_listed-source-requires c =
    let list = c.args.self.now in
    let own = c.self.inside.compiled in
    let built = c.self.invariant in
    let given : AreTrees list built.trees = rw (← c.self.view_is) built.given in
    let number = c.args.number in
    let within = c.requires.number in
    rw c.in_ok-clone.ensures.cases
    (stored_at built.trees own.graph number (tree_at list own built given number within)
    built.groups (there list own built given number within)).0

pub new-caps-requires : goal.new-caps-requires
new-caps-requires c = (reported (goal.at.new-caps-requires c).After-of_listed-source).0

pub returns-clause-found : goal.returns-clause-found
returns-clause-found c =
    (reported (goal.at.returns-clause-found c).After-of_listed-source).1 c.new-caps.result
    c.new-caps.ensures

pub returns-clause-of_match : goal.returns-clause-of_match
returns-clause-of_match c =
    listed_of_match c.args.self.now c.args.number c.args.haystack.now c.args.start
    c.new-caps.result (returns-clause-found c)

pub returns-in_default-clause-found : goal.returns-in_default-clause-found
returns-in_default-clause-found c =
    let list = c.args.self.now in
    let own = c.self.inside.compiled in
    let built = c.self.invariant in
    let given : AreTrees list built.trees = rw (← c.self.view_is) built.given in
    listed_none list own built given c.args.number c.requires.number
    (λ tree. AreGroupsOf tree c.args.haystack.now) c.args.haystack.now c.args.start
    (listed_outcome list own built given c.args.number c.requires.number c.deref.result.now.graph
    c.args.haystack.now c.args.start c.in_ok-reported.reported None
    (ap (λ (compiled : CompiledList). compiled.graph) c.deref.ensures)
    c.in_ok-reported.ensures.found c.in_default.is)
