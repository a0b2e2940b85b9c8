-- The table of several patterns: its arrows lead to its own places, and each pattern is entered at
-- one of them.
use Rattle.regex_lite_engine.proofs.Common.{◌≡◌, ℕ, suc, ◌+◌, ◌^◌, ◌<◌, ◌≤◌, List, [], ◌∷◌, map}
use Rattle.regex_lite_engine.proofs.Common.{length, get_or, option_map, sym, refl, ap, ◌∙◌, subst}
use Rattle.regex_lite_engine.proofs.Common.{arith, length-map, sum_by-cons, slice_get-get_or}
use Rattle.regex_lite_engine.proofs.Common.{slice_get-map, Tree, Address, reading_places}
use Rattle.regex_lite_engine.proofs.Common.{whole_places, reading_count, reading_of, stack_bound}
use Rattle.regex_lite_engine.proofs.Common.{stack_bound_of, IsRenumbered, side_by_side}
use Rattle.regex_lite_engine.proofs.Common.{places_of_all, arrows_of_all, AreEntries, place_of}
use Rattle.regex_lite_engine.proofs.Common.{LeadsBelow, pattern_table, patterns_table}
use Rattle.regex_lite_engine.proofs.Common.{patterns_entries, reading_of_all}
use Rattle.std.proofs.Common.{All}
use Rattle.std.proofs.lemmas.List.Sums.{sum_by-append}
use Rattle.regex_lite_engine.specs.Graph.Parts.{HaveOwnParts}
use Rattle.regex_lite_engine.specs.Graph.SideBySide.{AreRegularPatterns}
use Rattle.regex_lite_engine.specs.Graph.Stored.{IsClosed}
use Rattle.regex_lite_engine.specs.declared.nfa.place.Place as code
use Rattle.regex_lite_engine.proofs.count.StackBoundLemmas.{stack_bound_pattern}
use Rattle.regex_lite_engine.proofs.count.ReadingCountLemmas.{reading_pattern}
use Rattle.regex_lite_engine.proofs.ArrowBoundLemmas.{arrows_all_few}
use Rattle.regex_lite_engine.proofs.count.TotalLemmas.{reading_all_few}
use Rattle.regex_lite_engine.proofs.nfa.write.SeveralLemmas.{side_by_side_renumbered, are_entries}
use Rattle.regex_lite_engine.proofs.nfa.write.SeveralLemmas.{own_parts}
use Rattle.regex_lite_engine.proofs.nfa.write.SeveralNameLemmas.{name_of_patterns}
use Rattle.regex_lite_engine.proofs.nfa.write.SeveralRowLemmas.{places_add_up}

-- as many places read a character as in all patterns
reading_adds_up : (trees : List Tree) (base : ℕ)
    → reading_of (patterns_table trees base) ≡ reading_of_all trees
reading_adds_up [] base = refl
reading_adds_up (tree ∷ trees) base =
    let later = base + whole_places tree in
    let both = sum_by-append reading_count (pattern_table tree base) (patterns_table trees later) in
    let sum = sum_by-cons reading_places tree trees in
    omega (arith, both, sum, reading_pattern tree base, reading_adds_up trees later)

-- the stack bound of each pattern is below the number of its places
stack_bound_few : (trees : List Tree) → AreRegularPatterns trees → (base : ℕ)
    → stack_bound_of (patterns_table trees base) + length trees ≤ places_of_all trees
stack_bound_few [] regular base = omega arith
stack_bound_few (tree ∷ trees) regular base =
    let later = base + whole_places tree in
    let both = sum_by-append stack_bound (pattern_table tree base) (patterns_table trees later) in
    let sum = sum_by-cons whole_places tree trees in
    let here = stack_bound_pattern tree (regular 0 tree refl) base in
    omega (arith, both, sum, here, stack_bound_few trees (λ k. regular (suc k)) later)

-- no pattern, no place
some_tree : (trees : List Tree) → 0 < places_of_all trees → 0 < length trees
some_tree [] some = some
some_tree (tree ∷ trees) some = omega arith

-- there is an entry for each pattern
pub entry_for_each : (trees : List Tree) (base : ℕ)
    → length (patterns_entries trees base) ≡ length trees
entry_for_each [] base = refl
entry_for_each (tree ∷ trees) base =
    omega (arith, entry_for_each trees (base + whole_places tree))

module _ (trees : List Tree) (regular : AreRegularPatterns trees) (places : List code.Place)
    (table_is : map place_of places ≡ patterns_table trees 0) where
  as_many : length (map place_of places) ≡ length places
  as_many = length-map places place_of

  all : length places ≡ places_of_all trees
  all = sym as_many ∙ ap length table_is ∙ places_add_up trees 0

  abbrev pub name : ℕ → Address
  name = name_of_patterns trees regular

  -- it has the places of the patterns side by side
  pub written : IsRenumbered (side_by_side trees) name (map place_of places)
  written =
      subst (λ table. IsRenumbered (side_by_side trees) name table) (sym table_is)
      (side_by_side_renumbered trees regular)

  -- a table with these places leads to its own places
  pub closed : (arrows reading : ℕ) → places_of_all trees < 2 ^ 32 → arrows ≡ arrows_of_all trees
      → reading ≡ reading_of_all trees → IsClosed places arrows reading
  closed arrows reading few arrows_are reading_are = record {
    each_inside = λ q place e. (
        let stored = slice_get-map place_of places q ∙ ap (option_map place_of) e in
        subst (λ n. LeadsBelow n (place_of place)) as_many
        (written.inside q (place_of place) stored)
        );
    few_places = omega (arith, all, few);
    few_arrows = omega (arith, arrows_are, arrows_all_few trees regular, few);
    few_reading = λ some.
        omega (arith, all, reading_are, reading_all_few trees, trees_there some);
    each_reading = ap reading_of table_is ∙ reading_adds_up trees 0 ∙ sym reading_are;
    few_stack_bound = λ some.
        let few = stack_bound_few trees regular 0 in
        omega (arith, all, few, ap stack_bound_of table_is, trees_there some);
  }
    where
      trees_there : 0 < length places → 0 < length trees
      trees_there some = some_tree trees (omega (arith, all, some))

  module _ (entries : List ℕ) (entries_are : entries ≡ patterns_entries trees 0) where
    -- the patterns are entered at these numbers, and each of them is that of a place
    pub entered : AreEntries trees name (map place_of places) entries
    entered =
        subst (λ list. AreEntries trees name (map place_of places) list) (sym entries_are)
        (subst (λ table. AreEntries trees name table (patterns_entries trees 0)) (sym table_is)
        (are_entries trees regular))

    -- each in a part of its own
    pub parted : HaveOwnParts trees (map place_of places) entries
    parted =
        subst (λ list. HaveOwnParts trees (map place_of places) list) (sym entries_are)
        (subst (λ table. HaveOwnParts trees table (patterns_entries trees 0)) (sym table_is)
        (own_parts trees regular))

    pub entries_inside : All (λ entry. entry < length places) entries
    entries_inside k d less =
        let at = slice_get-get_or entries k d less in
        let entry = entered.of_pattern k (get_or entries k d) at in
        omega (arith, as_many, entry.2.inside)

    -- there are no more of them than places
    pub few_entries : length entries ≤ places_of_all trees
    few_entries =
        omega (arith, ap length entries_are, entry_for_each trees 0, reading_all_few trees)
