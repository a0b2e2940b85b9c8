use Rattle.regex_lite_engine.proofs.Common.{◌≡◌, ℕ, List, length, sym, ap, ◌∙◌, subst, arith}
use Rattle.regex_lite_engine.proofs.Common.{tree_of, Address, arrows_of, IsRenumbered, IsNumberOf}
use Rattle.regex_lite_engine.proofs.Common.{places_of, start_address, written_out, pattern_table}
use Rattle.regex_lite_engine.proofs.Common.{pattern_layout}
use Rattle.regex_lite_engine.specs.Graph.Stored.{StoredTable}
use Rattle.std.proofs.lemmas.Bool.{not-true}
use Rattle.regex_lite_engine.specs.Graph.Places.{Place}
use Rattle.regex_lite_engine.proofs.nfa.write.RenumberingLemmas.{whole_names, renumbered, starts}
use Rattle.regex_lite_engine.proofs.nfa.write.RenumberingLemmas.{closed, start_inside}
use Rattle.regex_lite_engine.proofs.count.ArrowCountLemmas.{arrows_pattern}
use Rattle.regex_lite_engine.proofs.count.ReadingCountLemmas.{reading_few, reading_pattern}
use Rattle.regex_lite_engine.proofs.count.StackBoundLemmas.{stack_bound_pattern}
use Rattle.regex_lite_engine.proofs.nfa.WayLemmas.{none_at_end, written_answers}
use Rattle.regex_lite_engine.proofs.nfa.WayLemmas.{written_facts}
use Rattle.regex_lite_engine.proofs.ArrowBoundLemmas.{arrows_few}
use Rattle.regex_lite_engine.proofs.nfa.Graph.new.Goals as goal

pub returns-clause-ok : goal.returns-clause-ok
returns-clause-ok c =
    let tree = tree_of c.args.hir.now in
    let table : List (Place ℕ) = places_of c.new-table.result in
    let name : ℕ → Address = whole_names tree c.requires in
    let start_is : c.in_ok-places.start ≡ (pattern_layout tree 0).1 =
    c.in_ok-places.ensures.written.0 in
    let table_is : table ≡ pattern_table tree 0
    = ap places_of c.new-table.ensures ∙ c.in_ok-places.ensures.written.1 in
    let fits = (c.in_ok-count.ensures.ok tree c.of-counts.ensures).1 in
    record {
      name = name;
      written = subst (λ t. IsRenumbered (written_out tree) name t) (sym table_is)
          (renumbered tree c.requires);
      start = subst (λ s. IsNumberOf name table start_address s) (sym start_is)
          (subst (λ t. IsNumberOf name t start_address (pattern_layout tree 0).1) (sym table_is)
          (starts tree c.requires));
      places = ap (λ (t : StoredTable). length t.places) c.new-table.ensures
          ∙ c.in_ok-places.ensures.length;
      arrows = ap (λ (t : StoredTable). t.arrows) c.new-table.ensures
          ∙ c.arrows.ensures tree c.of-counts.ensures c.requires fits.places_fit;
      each_arrow = ap arrows_of table_is ∙ arrows_pattern tree 0;
    }

pub new-table-requires-clause-closed : goal.new-table-requires-clause-closed
new-table-requires-clause-closed c =
    let tree = tree_of c.args.hir.now in
    let fits = (c.in_ok-count.ensures.ok tree c.of-counts.ensures).1 in
    let counted = c.arrows.ensures tree c.of-counts.ensures c.requires fits.places_fit in
    let reads = c.reading.ensures tree c.of-counts.ensures fits.places_fit in
    let places = c.in_ok-places.ensures in
    closed tree c.requires c.in_ok-places.places.items places.written.1 c.arrows.result
    c.reading.result (omega (arith, places.length, fits.places_fit))
    (omega (arith, counted, arrows_few tree c.requires, fits.places_fit))
    (omega (arith, reads, reading_few tree, places.length))
    (reading_pattern tree 0 ∙ sym reads)
    (omega (arith, stack_bound_pattern tree c.requires 0, places.length))

pub new-table-requires-clause-each_arrow : goal.new-table-requires-clause-each_arrow
new-table-requires-clause-each_arrow c =
    let tree = tree_of c.args.hir.now in
    let fits = (c.in_ok-count.ensures.ok tree c.of-counts.ensures).1 in
    let counted = c.arrows.ensures tree c.of-counts.ensures c.requires fits.places_fit in
    ap arrows_of c.in_ok-places.ensures.written.1 ∙ arrows_pattern tree 0 ∙ sym counted

pub invariant_of-result : goal.invariant_of-result
invariant_of-result c =
    let tree = tree_of c.args.hir.now in
    let written = c.in_ok-places.ensures.written in
    let table_is : places_of c.new-table.result ≡ pattern_table tree 0
    = ap places_of c.new-table.ensures ∙ written.1 in (
      start_inside tree c.requires c.new-table.result.places table_is c.in_ok-places.start
          written.0,
      written_facts tree c.requires (places_of c.new-table.result) c.in_ok-places.start table_is
          written.0 c.of-filter.result c.of-filter.ensures,
      λ reads. none_at_end tree c.requires (places_of c.new-table.result) c.in_ok-places.start
          table_is written.0
          (sym c.of-counts.ensures.properties.nullable ∙ not-true _ reads),
      written_answers tree c.requires (places_of c.new-table.result) c.in_ok-places.start table_is
          written.0 c.of-filter.result c.of-filter.ensures,
    )
