use Rattle.regex_lite.proofs.Common.{ℕ, chars, length, take, Some, sym, ap, ◌∙◌, subst, arith}
use Rattle.regex_lite.proofs.Common.{IsGraphOf, IsSpanOutcome, OfTree, spans_of, Tree}
use Rattle.regex_lite.proofs.Common.{RegexSearching}
use Rattle.regex_lite_engine.specs.Graph.Stored.{StoredGraph}
use Rattle.regex_lite_meta.specs.Searching.{FindsSpan}
use Rattle.regex_lite_meta.specs.Searching.{FindsSlotsOf, found_slots}
use Rattle.regex_lite.proofs.OneTreeLemmas.{one_tree}
use Rattle.regex_lite.proofs.string.SlotLemmas.{half, resized_few}
use Rattle.regex_lite.proofs.string.group_searcher.GroupSearcher.read.Goals as goal

pub find-requires-clause-finds : goal.find-requires-clause-finds
find-requires-clause-finds c =
    subst (λ (graph : StoredGraph). FindsSlotsOf graph c.self.inside.inner)
    (sym c.graph.ensures.same) c.self.invariant

pub find-requires-clause-known : goal.find-requires-clause-known
find-requires-clause-known c =
    let a = c.args in
    let own = c.graph.ensures in
    let held = c.self.inside.regex in
    let known = subst (λ (z : RegexSearching). OfTree z.regex
    (λ tree. (start : ℕ) × FindsSpan tree a.haystack.now start a.span)) (sym c.self.view_is)
    c.requires.known in
    let re = held.pattern in (
      own.built.tree,
      own.built.regular,
      subst (IsGraphOf own.built.tree) (sym own.same) own.built.graph,
      subst (λ (t : Tree). (start : ℕ) × FindsSpan t a.haystack.now start a.span)
          (one_tree re.flags (chars re.pattern) known.0 own.built.tree known.1 own.built.given)
          known.2,
    )

pub returns-clause-found : goal.returns-clause-found
returns-clause-found c = λ start known.
    let a = c.args in
    let own = c.graph.ensures in
    let held = c.self.inside.regex in
    let re = held.pattern in
    let slots = found_slots c.find.new.self in
    let of_regex = subst (λ (z : RegexSearching). OfTree z.regex
    (λ tree. FindsSpan tree a.haystack.now start a.span)) (sym c.self.view_is) known in
    subst (λ (z : RegexSearching). OfTree z.regex
    (λ tree. IsSpanOutcome tree a.haystack.now start slots (Some a.span))) c.self.view_is (
      own.built.tree,
      own.built.given,
      c.find.ensures.found own.built.tree own.built.regular
          (subst (IsGraphOf own.built.tree) (sym own.same) own.built.graph) start
          (subst (λ (t : Tree). FindsSpan t a.haystack.now start a.span)
          (one_tree re.flags (chars re.pattern) of_regex.0 own.built.tree of_regex.1
          own.built.given) of_regex.2),
    )

pub returns-clause-spans : goal.returns-clause-spans
returns-clause-spans c =
    let room = c.requires.room in
    let view = ap (λ (z : RegexSearching). length z.slots) c.self.view_is in
    let kept = c.find.ensures.slots in
    let same = ap (λ slots. length slots) c.slots.ensures in
    let count = half c.slots.result.now in
    let n = length c.args.locs.now in
    c.write.ensures.spans
    ∙ resized_few n (spans_of c.slots.result.now) (omega (arith, room, view, kept, same, count))
    ∙ ap (λ slots. take n (spans_of slots)) c.slots.ensures

pub invariant_of-self : goal.invariant_of-self
invariant_of-self c =
    subst (λ (graph : StoredGraph). FindsSlotsOf graph c.find.new.self) c.graph.ensures.same
    c.find.ensures.finds
