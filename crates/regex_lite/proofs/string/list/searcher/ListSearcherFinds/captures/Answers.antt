use Rattle.regex_lite.proofs.Common.{◌≡◌, ℕ, ◌*◌, ◌<◌, length, take, sym, ap, ◌∙◌, subst, rules}
use Rattle.regex_lite.proofs.Common.{Found, groups_of, groups_at, Groups, AreGroups}
use Rattle.regex_lite.proofs.Common.{AreGroupsFoundInList, span_of_match, AreTrees, all_slots}
use Rattle.regex_lite.proofs.Common.{CompiledList}
use Rattle.regex_lite.specs.Scanning.{ListSearching}
use Rattle.regex_lite.proofs.string.ListScanLemmas.{IsMatchOfPatterns, last_groups, last_there}
use Rattle.regex_lite.proofs.string.ListScanLemmas.{span_of_last_in_list}
use Rattle.regex_lite.proofs.string.list.searcher.ListSearcherFinds.captures.Goals as goal
use Rattle.regex_lite.proofs.string.list.searcher.ListSearcherFinds.captures.Goals.{After-truncate}

pub of_listed-source-requires : goal.of_listed-source-requires
of_listed-source-requires c =
    let a = c.args in
    let own = c.list.inside.compiled in
    let built = c.list.invariant in
    let inner : AreTrees c.self.inside.list.now built.trees = rw (← c.list.view_is) built.given in
    let given = subst (λ (z : ListSearching). AreTrees z.list built.trees) c.self.view_is inner in
    subst (λ (compiled : CompiledList). a.last.now.0 < length compiled.graph.groups)
    (sym c.in_ok-clone.ensures.cases)
    (last_there a.haystack.now c.utf8.haystack a.self.now.list own built given a.self.now.slots
    c.in_ok-slots-2.slots.items c.requires.room c.requires.last.0 a.last.now c.requires.last.1)

-- the slots hold the groups of the last match
held : (c : After-truncate)
    → AreGroups (groups_of c.args.haystack.now c.truncate.new.self.items c.of_listed-source.result)
    × ((groups : Groups)
    → groups ≡ groups_of c.args.haystack.now c.truncate.new.self.items c.of_listed-source.result
    → (answer : ℕ × Found)
    → IsMatchOfPatterns c.args.self.now.list c.args.haystack.now c.args.self.now.slots answer
    c.args.last.now
    → AreGroupsFoundInList c.args.self.now.list c.args.haystack.now answer.0 answer.1 groups)
held c =
    let a = c.args in
    let span = span_of_match a.last.now.1 in
    let own = c.list.inside.compiled in
    let built = c.list.invariant in
    let inner : AreTrees c.self.inside.list.now built.trees = rw (← c.list.view_is) built.given in
    let given = subst (λ (z : ListSearching). AreTrees z.list built.trees) c.self.view_is inner in
    let shared = c.of_listed-source.result in
    let stored = c.of_listed-source.ensures
    ∙ ap (λ (compiled : CompiledList). groups_at compiled.graph.groups a.last.now.0)
    c.in_ok-clone.ensures.cases in
    let all = c.in_ok-slots-2.slots.items in
    let filled_all : all ≡ all_slots c.self.inside.inner.slots span = search rules in
    let filled = c.truncate.ensures.items ∙ ap (λ n. take n all) c.slots.ensures
    ∙ ap (take (2 * length shared.capture_names))
    (filled_all ∙ ap (λ (z : ListSearching). all_slots z.slots span) c.self.view_is) in
    let groups_of_last = λ (answer : ℕ × Found)
    (last : IsMatchOfPatterns a.self.now.list a.haystack.now a.self.now.slots answer a.last.now).
    last_groups a.haystack.now c.utf8.haystack a.self.now.list own built given a.self.now.slots
    c.truncate.new.self.items c.requires.room answer a.last.now last shared stored filled in (
      (groups_of_last c.requires.last.0 c.requires.last.1).0,
      λ groups are answer last. (groups_of_last answer last).1 groups are,
    )

pub new-requires : goal.new-requires
new-requires c = (held (goal.at.new-requires c).After-truncate).0

pub returns-clause-groups : goal.returns-clause-groups
returns-clause-groups c =
    (held (goal.at.returns-clause-groups c).After-truncate).1 c.new.result c.new.ensures

pub returns-clause-span : goal.returns-clause-span
returns-clause-span c =
    let a = c.args in
    let last = c.requires.last in
    span_of_last_in_list a.self.now.list a.haystack.now a.self.now.slots last.0 a.last.now
    c.new.result last.1 (returns-clause-groups c last.0 last.1)
