use Rattle.regex_lite_engine.proofs.Common.{◌≡◌, ◌^◌, ◌<◌, map, length, sym, ap, ◌∙◌, arith}
use Rattle.regex_lite_engine.proofs.Common.{tree_of, arrows_of, places_of_all, places_of}
use Rattle.regex_lite_engine.proofs.Common.{patterns_table, length-map, range_with_len}
use Rattle.std.specs.List.{filter}
use Rattle.std.proofs.lemmas.Option.{IfSome_then}
use Rattle.regex_lite_engine.specs.Search.Starts.{may_be_empty}
use Rattle.regex_lite_engine.specs.Graph.Stored.{StoredTable}
use Rattle.regex_lite_engine.specs.Search.Filters.{own_facts_of}
use Rattle.regex_lite_engine.proofs.nfa.list.TableLemmas.{closed, name, written, entered}
use Rattle.regex_lite_engine.proofs.nfa.list.TableLemmas.{entries_inside, parted, entry_for_each}
use Rattle.regex_lite_engine.proofs.nfa.list.TableLemmas.{few_entries}
use Rattle.regex_lite_engine.proofs.nfa.ListWordLemmas.{reported_of_words}
use Rattle.regex_lite_engine.proofs.nfa.WayLemmas.{listed_ends, listed_filters, listed_needed}
use Rattle.regex_lite_engine.proofs.nfa.WayLemmas.{listed_prefixes, listed_reads}
use Rattle.regex_lite_engine.proofs.nfa.write.SeveralRowLemmas.{arrows_add_up}
use Rattle.regex_lite_engine.proofs.nfa.list.GraphList.new.Goals as goal

pub groups_of-requires : goal.groups_of-requires
groups_of-requires c = λ k d less. (c.requires.fit k d less).1.places_fit

pub write_all-requires-clause-slots : goal.write_all-requires-clause-slots
write_all-requires-clause-slots c = λ k d less. (c.requires.fit k d less).1.slots_fit

pub new-table-requires-clause-closed : goal.new-table-requires-clause-closed
new-table-requires-clause-closed c =
    let trees = map tree_of c.args.hirs.now in
    let totals = c.in_ok-totals.ensures.ok in
    let few : places_of_all trees < 2 ^ 32 = omega (arith, totals.places) in
    closed trees c.requires.regular c.in_ok-places.places.items c.in_ok-places.ensures.written
    c.in_ok-totals.totals.arrows c.in_ok-totals.totals.reading few totals.arrows totals.reading

pub new-table-requires-clause-each_arrow : goal.new-table-requires-clause-each_arrow
new-table-requires-clause-each_arrow c =
    ap arrows_of c.in_ok-places.ensures.written
    ∙ arrows_add_up (map tree_of c.args.hirs.now) 0 ∙ sym c.in_ok-totals.ensures.ok.arrows

pub that_may_be_empty-requires : goal.that_may_be_empty-requires
that_may_be_empty-requires c =
    let trees = map tree_of c.args.hirs.now in
    let regular = c.requires.regular in
    let places = c.new-table.result.places in
    let entries = c.in_ok-places.entries.items in
    let entries_are = c.in_ok-places.ensures.entries in
    let table_is : places_of c.new-table.result ≡ patterns_table trees 0
    = ap places_of c.new-table.ensures ∙ c.in_ok-places.ensures.written in
    omega (
      arith,
      few_entries trees regular places table_is entries entries_are,
      c.in_ok-totals.ensures.ok.places,
      ap length entries_are ∙ entry_for_each trees 0,
      length-map c.args.hirs.now tree_of,
    )

pub invariant_of-result : goal.invariant_of-result
invariant_of-result c =
    let trees = map tree_of c.args.hirs.now in
    let regular = c.requires.regular in
    let places = c.new-table.result.places in
    let entries = c.in_ok-places.entries.items in
    let entries_are = c.in_ok-places.ensures.entries in
    let table_is : places_of c.new-table.result ≡ patterns_table trees 0
    = ap places_of c.new-table.ensures ∙ c.in_ok-places.ensures.written in (
      entries_inside trees regular places table_is entries entries_are,
      omega (
        arith,
        few_entries trees regular places table_is entries entries_are,
        c.in_ok-totals.ensures.ok.places,
      ),
      listed_prefixes trees regular (name trees regular places table_is)
          (places_of c.new-table.result) entries (written trees regular places table_is)
          (entered trees regular places table_is entries entries_are)
          (ap length entries_are ∙ entry_for_each trees 0) c.in_ok-prefixes.prefixes
          c.in_ok-prefixes.ensures.ok,
      listed_filters trees regular (name trees regular places table_is)
          (places_of c.new-table.result) entries (written trees regular places table_is)
          (entered trees regular places table_is entries entries_are)
          (ap length entries_are ∙ entry_for_each trees 0)
          (map own_facts_of c.in_ok-filters.filters.items) c.in_ok-filters.ensures,
      listed_reads trees regular (name trees regular places table_is)
          (places_of c.new-table.result) entries (written trees regular places table_is)
          (entered trees regular places table_is entries entries_are)
          (ap length entries_are ∙ entry_for_each trees 0) c.in_ok-reads.reads.items
          c.in_ok-reads.ensures,
      listed_ends trees regular (name trees regular places table_is)
          (places_of c.new-table.result) entries (written trees regular places table_is)
          (entered trees regular places table_is entries entries_are)
          (ap length entries_are ∙ entry_for_each trees 0) c.in_ok-at_end.at_end.items
          (c.in_ok-at_end.ensures
          ∙ ap (λ n. filter (may_be_empty trees) (range_with_len 0 n))
          (sym (length-map c.args.hirs.now tree_of))),
      reported_of_words trees regular (name trees regular places table_is)
          (places_of c.new-table.result) entries (written trees regular places table_is)
          (entered trees regular places table_is entries entries_are)
          (ap length entries_are ∙ entry_for_each trees 0) (λ words. words.value)
          c.words_of-words.result c.words_of-words.ensures,
      IfSome_then c.needed_of-needed.result c.needed_of-needed.ensures
          (λ needed is. listed_needed trees regular (name trees regular places table_is)
          (places_of c.new-table.result) entries (written trees regular places table_is)
          (entered trees regular places table_is entries entries_are) needed.value is),
    )

pub returns-clause-ok : goal.returns-clause-ok
returns-clause-ok c =
    let trees = map tree_of c.args.hirs.now in
    let regular = c.requires.regular in
    let places = c.new-table.result.places in
    let entries = c.in_ok-places.entries.items in
    let entries_are = c.in_ok-places.ensures.entries in
    let table_is : places_of c.new-table.result ≡ patterns_table trees 0
    = ap places_of c.new-table.ensures ∙ c.in_ok-places.ensures.written in
    record {
      name = name trees regular places table_is;
      written = written trees regular places table_is;
      entries = entered trees regular places table_is entries entries_are;
      each_entry = ap length entries_are ∙ entry_for_each trees 0;
      parts = parted trees regular places table_is entries entries_are;
      places = ap (λ (t : StoredTable). length t.places) c.new-table.ensures
          ∙ c.in_ok-places.ensures.length;
      arrows = ap (λ (t : StoredTable). t.arrows) c.new-table.ensures
          ∙ c.in_ok-totals.ensures.ok.arrows;
      each_arrow = ap arrows_of table_is ∙ arrows_add_up trees 0;
    }

pub returns-clause-groups : goal.returns-clause-groups
returns-clause-groups c = record {
  all = c.in_ok-groups.ensures.all ∙ sym (length-map c.args.hirs.now tree_of);
  each = c.in_ok-groups.ensures.each;
}
