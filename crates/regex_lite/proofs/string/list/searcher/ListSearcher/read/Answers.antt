use Rattle.regex_lite.proofs.Common.{◌≡◌, length, take, sym, refl, ap, ◌∙◌, subst, arith}
use Rattle.regex_lite.proofs.Common.{length-take-le, spans_of, resized, span_of_match, AreTrees}
use Rattle.regex_lite.proofs.Common.{all_slots}
use Rattle.regex_lite.specs.Scanning.{ListSearching}
use Rattle.regex_lite.proofs.string.ListKeptLemmas.{list_locations, number_within, own_within}
use Rattle.regex_lite.proofs.string.list.searcher.ListSearcher.read.Goals as goal
use Rattle.regex_lite.proofs.string.list.searcher.ListSearcher.read.Goals.{After-or_whole-slots}

-- the patterns are those of the searcher, and the slots are those of the match
searched : (c : After-or_whole-slots) → (c.self.inside.list.now ≡ c.args.self.now.list)
    × (c.or_whole-slots.result.now
    ≡ all_slots c.args.self.now.slots (span_of_match c.args.last.now.1))
searched c =
    let span = span_of_match c.args.last.now.1 in (
      ap (λ (own : ListSearching). own.list) c.self.view_is,
      c.or_whole-slots.ensures span (rw (c.start.ensures, c.end.ensures) refl)
          ∙ ap (λ slots. all_slots slots span)
          (c.slots.ensures ∙ ap (λ (own : ListSearching). own.slots) c.self.view_is),
    )

pub slots_of-own-requires : goal.slots_of-own-requires
slots_of-own-requires c =
    let a = c.args in
    let last = c.requires.last in
    let all = searched (goal.at.slots_of-own-requires c).After-or_whole-slots in
    let less = number_within a.self.now.list last.0 last.1.0 a.self.now.slots c.requires.room
    a.last.now.0 a.last.now.1 last.1.1 in
    omega (arith, less, ap (λ own. length own) all.0)

pub slice_bounds-write-end : goal.slice_bounds-write-end
slice_bounds-write-end c =
    let a = c.args in
    let last = c.requires.last in
    let own = c.slots_of-own.ensures in
    let all = searched (goal.at.slice_bounds-write-end c).After-or_whole-slots in
    let within = own_within a.self.now.list last.0 last.1.0 a.self.now.slots c.requires.room
    a.last.now.0 a.last.now.1 last.1.1 c.slots_of-own.result
    (own.0, subst (λ list. AreTrees list own.0) all.0 own.1, own.2) in
    sym (length-take-le c.slots_of-own.result c.or_whole-slots.result.now
    (omega (arith, within, ap (λ slots. length slots) all.1)))

pub returns-clause-found : goal.returns-clause-found
returns-clause-found c = λ haystack start last.
    let a = c.args in
    let own = c.slots_of-own.ensures in
    let all = searched (goal.at.returns-clause-found c).After-or_whole-slots in
    let n = length a.locs.now in
    let two = c.slots_of-own.result in
    list_locations a.self.now.list haystack start a.self.now.slots c.requires.room a.last.now.0
    a.last.now.1 last two
    (own.0, subst (λ list. AreTrees list own.0) all.0 own.1, own.2) c.write.new.self n
    c.write.ensures.len
    (c.write.ensures.spans ∙ ap (λ slots. resized n (spans_of (take two slots))) all.1)
