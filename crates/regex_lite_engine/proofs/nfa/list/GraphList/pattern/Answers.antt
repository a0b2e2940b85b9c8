use Rattle.regex_lite_engine.proofs.Common.{◌≡◌, ◌<◌, length, ap, sym, subst, arith, Some, ◌∙◌}
use Rattle.regex_lite_engine.proofs.Common.{length-map, slice_get, slice_get-get_or, StoredList}
use Rattle.regex_lite_engine.proofs.Common.{place_of, places_of}
use Rattle.regex_lite_engine.specs.Search.Filters.{own_facts_of}
use Rattle.regex_lite_engine.specs.Search.Starts.{AreFactsOf, DoWordsAnswer}
use Rattle.regex_lite_syntax.proofs.LookupLemmas.{mapped_there}
use Rattle.regex_lite_engine.proofs.nfa.list.GraphList.pattern.Goals as goal

pub invariant_of-result : goal.invariant_of-result
invariant_of-result c =
    let list = c.self.inside in
    let holds = c.self.invariant in
    let number = c.args.number in
    let entry = c.index.result.now in
    let filters = list.filters.items in
    let reads = list.reads.items in
    let size = length-map list.table.places place_of in
    let known : number < length list.entries.items =
    omega (arith, c.requires, ap (λ (l : StoredList). length l.entries) c.self.view_is) in
    let own : slice_get list.entries.items number ≡ Some entry =
    slice_get-get_or list.entries.items number entry known ∙ ap Some (sym c.index.ensures) in
    let less : entry < length list.table.places =
    subst (λ n. n < length list.table.places) (sym c.index.ensures) (holds.0 number entry known) in
    record {
      inside = omega (arith, less, size);
      facts = subst (AreFactsOf (places_of list.table) entry) (sym c.view.ensures)
          (holds.3.each number entry (own_facts_of c.index-2.result.now) own
          (mapped_there own_facts_of filters number c.index-2.result.now
          (omega (arith, known, holds.3.all, length-map filters own_facts_of)) c.index-2.ensures));
      ends = λ yes. holds.4.each number entry own
          (slice_get-get_or reads number c.index-3.result.now (omega (arith, known, holds.4.all))
          ∙ ap Some (sym c.index-3.ensures ∙ yes));
    }

pub returns-clause-answers : goal.returns-clause-answers
returns-clause-answers c =
    let list = c.self.inside in
    let holds = c.self.invariant in
    let number = c.args.number in
    let entry = c.index.result.now in
    let filters = list.filters.items in
    let known : number < length list.entries.items =
    omega (arith, c.requires, ap (λ (l : StoredList). length l.entries) c.self.view_is) in
    let own : slice_get list.entries.items number ≡ Some entry =
    slice_get-get_or list.entries.items number entry known ∙ ap Some (sym c.index.ensures) in
    subst (DoWordsAnswer (places_of list.table) entry) (sym c.view.ensures)
    (holds.3.answers number entry (own_facts_of c.index-2.result.now) own
    (mapped_there own_facts_of filters number c.index-2.result.now
    (omega (arith, known, holds.3.all, length-map filters own_facts_of)) c.index-2.ensures))
