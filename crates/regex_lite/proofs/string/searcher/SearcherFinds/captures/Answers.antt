use Rattle.regex_lite.proofs.Common.{◌≡◌, sym, ap, ◌∙◌, subst, rules, AreGroupsFound, span_of_match}
use Rattle.regex_lite.proofs.Common.{RegexSearching, all_slots}
use Rattle.regex_lite_meta.specs.Searching.{row_of_graph}
use Rattle.regex_lite.proofs.string.ScanLemmas.{groups_kept, span_of_last}
use Rattle.regex_lite.proofs.string.searcher.SearcherFinds.captures.Goals as goal

pub new-requires : goal.new-requires
new-requires c =
    let a = c.args in
    let span = span_of_match a.last.now.1 in
    let slots = c.in_ok-slots-2.slots.items in
    let held : slots ≡ all_slots (row_of_graph c.self.inside.inner) span = search rules in
    let filled = held ∙ ap (λ (own : RegexSearching). all_slots own.slots span) c.self.view_is in
    (groups_kept a.haystack.now c.utf8.haystack a.self.now.regex a.self.now.slots slots
    c.requires.room c.in_ok-slots.source c.in_ok-slots.ensures.ok c.requires.last.0 a.last.now
    filled c.requires.last.1).0

pub returns-clause-groups : goal.returns-clause-groups
returns-clause-groups c = λ found last.
    let a = c.args in
    let span = span_of_match a.last.now.1 in
    let slots = c.in_ok-slots-2.slots.items in
    let held : slots ≡ all_slots (row_of_graph c.self.inside.inner) span = search rules in
    let filled = held ∙ ap (λ (own : RegexSearching). all_slots own.slots span) c.self.view_is in
    subst (AreGroupsFound a.self.now.regex a.haystack.now found) (sym c.new.ensures)
    (groups_kept a.haystack.now c.utf8.haystack a.self.now.regex a.self.now.slots slots
    c.requires.room c.in_ok-slots.source c.in_ok-slots.ensures.ok found a.last.now filled last).1

pub returns-clause-span : goal.returns-clause-span
returns-clause-span c =
    let a = c.args in
    let last = c.requires.last in
    span_of_last a.self.now.regex a.haystack.now a.self.now.slots last.0 a.last.now c.new.result
    last.1 (returns-clause-groups c last.0 last.1)
