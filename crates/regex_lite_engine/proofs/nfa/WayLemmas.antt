-- Where the tree of a graph does not match, no arrows of the graph lead to a complete match.
use Rattle.regex_lite_engine.proofs.Common.{◌≡◌, ℕ, suc, ◌<◌, List, length, IfSome, slice_get, Some}
use Rattle.regex_lite_engine.proofs.Common.{Bool, true, false, nullable, None, Option, sym, ◌∙◌}
use Rattle.regex_lite_engine.proofs.Common.{inl, inr, arith, cases_eq, slice_get_within, Text, Tree}
use Rattle.regex_lite_engine.proofs.Common.{Matches, IsRegular, Address, IsRenumbered, side_by_side}
use Rattle.regex_lite_engine.proofs.Common.{AreEntries, start_address, written_out, NeverBegins}
use Rattle.regex_lite_engine.proofs.Common.{MayBegin, numbered_step, IsEntry, IsDeadAt}
use Rattle.regex_lite_engine.proofs.Common.{IsPrefixIndexOf, PrefixSets, PrefixIndex, FirstSet}
use Rattle.regex_lite_engine.proofs.Common.{pattern_table, pattern_layout, map, subst, ap}
use Rattle.regex_lite_engine.proofs.Common.{range_with_len, slice_get-map}
use Rattle.std.specs.List.{All, filter}
use Rattle.std.specs.Prelude.{option_map}
use Rattle.std.proofs.lemmas.Bool.{not-true}
use Rattle.std.proofs.lemmas.Option.{get_or_from_slice_get}
use Rattle.std.proofs.Common.{MatchOption}
use Rattle.regex_lite_engine.specs.Graph.Places.{Place}
use Rattle.regex_lite_engine.specs.Graph.SideBySide.{AreRegularPatterns}
use Rattle.regex_lite_engine.specs.Search.NeededWords.{IsNeededByAny}
use Rattle.regex_lite_engine.specs.Search.Starts.{AreFiltersOf, AreFactsOf, NoneBeginsAtEnd}
use Rattle.regex_lite_engine.specs.Search.Starts.{DoWordsAnswer}
use Rattle.regex_lite_engine.specs.Search.Starts.{AreAllAtEnd, AreReading, TellReading}
use Rattle.regex_lite_engine.specs.Search.Starts.{may_be_empty}
use Rattle.regex_lite_syntax.specs.Prefilter.PrefixSets.{AreSecondOfTree, ArePrefixSetsOfTree}
use Rattle.regex_lite_syntax.specs.Prefilter.PrefixIndex.{IsPrefixIndexOfTrees}
use Rattle.regex_lite_syntax.specs.Prefilter.Needed.{AreNeededByEach, IsNeededBy, IsOutOfReach}
use Rattle.regex_lite_syntax.specs.Prefilter.Needed.{NeededWords}
use Rattle.regex_lite_syntax.specs.Prefilter.StartFacts.{AreEachFactsOf, AreFactsOfTree}
use Rattle.regex_lite_syntax.specs.Prefilter.StartFacts.{NeverStarts, NoneStandsIn, StartFacts}
use Rattle.regex_lite_syntax.specs.Prefilter.Words.{AreWordsOfTree}
use Rattle.regex_lite_syntax.specs.declared.prefilter.words.letter.Letter.{Letter}
use Rattle.regex_lite_syntax.proofs.prefilter.prefix_index.IndexLemmas.{walkable}
use Rattle.regex_lite_syntax.proofs.prefilter.prefix_index.ThirdLemmas.{stuck_matches}
use Rattle.regex_lite_syntax.proofs.prefilter.prefix_index.TreeLemmas.{left_out_matches}
use Rattle.regex_lite_syntax.proofs.prefilter.prefix_index.TreeLemmas.{none_matches}
use Rattle.regex_lite_engine.proofs.laws.several.PartLemmas.{name_in_pattern, InPattern}
use Rattle.regex_lite_engine.proofs.laws.several.PartLemmas.{part_of_list, entry_of_part}
use Rattle.regex_lite_engine.proofs.nfa.write.RenumberingLemmas.{whole_names, renumbered}
use Rattle.regex_lite_engine.proofs.nfa.write.RenumberingLemmas.{starts as starts_there}
use Rattle.regex_lite_engine.proofs.laws.LoopLemmas.{without_loops}
use Rattle.regex_lite_engine.proofs.laws.list.ReadingLemmas.{reads}
use Rattle.regex_lite_engine.proofs.laws.PatternWayLemmas.{walk_match, one_or_two_pairs}
use Rattle.regex_lite_engine.proofs.laws.search.NumberedWayLemmas.{IsPart, IsPartNumber, whole_part}
use Rattle.regex_lite_engine.proofs.laws.search.NumberedWayLemmas.{whole_number, in_addresses}
use Rattle.regex_lite_engine.proofs.nfa.OneWordLemmas.{words_answer_searches}
use Rattle.regex_lite_syntax.proofs.LookupLemmas.{there_is}
use Rattle.regex_lite_syntax.proofs.prefilter.prefix_index.WalkLemmas.{filter_at_most}
use Rattle.regex_lite_engine.proofs.search.list_patterns.ListStartLemmas.{all_below, tested_start}

pub dead_without_match : (tree : Tree) (haystack : Text) (table : List (Place ℕ)) (start : ℕ)
    (name : ℕ → Address) (Part : ℕ → Type 0) → IsPart (written_out tree) name table Part
    → IsPartNumber name Part start_address start → IsRegular tree → (i : ℕ)
    → ((j : ℕ) → Matches haystack tree i j → ⊥) → IsDeadAt table haystack start i
dead_without_match tree haystack table start name Part r first regular i none arrows end
    ends leads =
    let shorten = without_loops (numbered_step table haystack) (one_or_two_pairs cases_eq) in
    let way = shorten arrows (start, i) end leads in
    let through = in_addresses tree haystack table start name Part r first i end.0 end.1 way.0
    (record { is_way = way.1; ends = ends }) in
    none end.1 (walk_match tree haystack i end.1 way.0 regular through.0)

dead_in_pattern : (tree : Tree) → IsRegular tree → (haystack : Text) (i : ℕ)
    → ((j : ℕ) → Matches haystack tree i j → ⊥)
    → IsDeadAt (pattern_table tree 0) haystack (pattern_layout tree 0).1 i
dead_in_pattern tree regular haystack i =
    let name = whole_names tree regular in
    let table = pattern_table tree 0 in
    let start = (pattern_layout tree 0).1 in
    dead_without_match tree haystack table start name (λ q. q < length table)
    (whole_part (written_out tree) name table (renumbered tree regular))
    (whole_number name table start_address start (starts_there tree regular)) regular i

-- none matches where the prefix sets rule it out
never_matches : (tree : Tree) (prefixes : PrefixSets) → ArePrefixSetsOfTree tree prefixes
    → (haystack : Text) (i : ℕ) → NeverBegins prefixes haystack i → (j : ℕ) → Matches haystack tree
    i j → ⊥
never_matches tree prefixes of_tree haystack i (inl off) j m = off (of_tree.first haystack i j m)
never_matches tree prefixes of_tree haystack i (inr off) j m =
    by_second prefixes.second of_tree.second off
  where
    by_second : (o : Option FirstSet) → IfSome o (AreSecondOfTree tree)
        → MatchOption o ⊥ (λ second. ¬ (MayBegin second haystack (suc i))) → ⊥
    by_second None reported off = off
    by_second (Some second) reported off = off (reported haystack i j m)

-- none matches where what is known of the tree rules it out
never_starts : (tree : Tree) (facts : StartFacts) → AreFactsOfTree tree facts → (haystack : Text)
    (i : ℕ) → NeverStarts facts haystack i → (j : ℕ) → Matches haystack tree i j → ⊥
never_starts tree facts of_tree haystack i (inl never) j m =
    never_matches tree facts.prefixes of_tree.prefixes haystack i never j m
never_starts tree facts of_tree haystack i (inr (inr out)) j m =
    by_needed facts.needed of_tree.needed out
  where
    by_needed : (o : Option NeededWords) → IfSome o (IsNeededBy tree)
        → MatchOption o ⊥ (λ needed. IsOutOfReach needed haystack i) → ⊥
    by_needed None reported out = out
    by_needed (Some needed) reported out = out (reported haystack i j m)
never_starts tree facts of_tree haystack i (inr (inl none)) j m =
    by_words facts.words of_tree.words none
  where
    by_words : (o : Option (List (List Letter))) → IfSome o (AreWordsOfTree tree)
        → MatchOption o ⊥ (λ words. NoneStandsIn words haystack i) → ⊥
    by_words None reported none = none
    by_words (Some words) reported none = none (reported haystack i j m)

-- what is known of a tree is so of its written-out places
pub written_facts : (tree : Tree) → IsRegular tree → (table : List (Place ℕ)) (start : ℕ)
    → table ≡ pattern_table tree 0 → start ≡ (pattern_layout tree 0).1 → (facts : StartFacts)
    → AreFactsOfTree tree facts → AreFactsOf table start facts
written_facts tree regular table start table_is start_is facts of_tree haystack i never =
    rw (table_is, start_is) (dead_in_pattern tree regular haystack i
    (never_starts tree facts of_tree haystack i never))

-- and if the tree is nothing but its words, so are its places
pub written_answers : (tree : Tree) → IsRegular tree → (table : List (Place ℕ)) (start : ℕ)
    → table ≡ pattern_table tree 0 → start ≡ (pattern_layout tree 0).1 → (facts : StartFacts)
    → AreFactsOfTree tree facts → DoWordsAnswer table start facts
written_answers tree regular table start table_is start_is facts of_tree all =
    let name = whole_names tree regular in
    let places = pattern_table tree 0 in
    let first = (pattern_layout tree 0).1 in
    rw (table_is, start_is) (words_answer_searches tree regular places first name
    (λ q. q < length places) (whole_part (written_out tree) name places (renumbered tree regular))
    (whole_number name places start_address first (starts_there tree regular)) facts.words
    of_tree.words (of_tree.all all))

-- where each match reads a character, none begins at the end
pub none_at_end : (tree : Tree) → IsRegular tree → (table : List (Place ℕ)) (start : ℕ)
    → table ≡ pattern_table tree 0 → start ≡ (pattern_layout tree 0).1 → nullable tree ≡ false
    → NoneBeginsAtEnd table start
none_at_end tree regular table start table_is start_is reading haystack =
    rw (table_is, start_is) (dead_in_pattern tree regular haystack (length haystack)
    (λ j m. let read = reads haystack tree (length haystack) j reading m in
    absurd (omega (arith, read.0, read.1))))

-- whether a pattern of several may be empty
pub empty_at : (trees : List Tree) (number : ℕ) (tree : Tree) → slice_get trees number ≡ Some tree
    → may_be_empty trees number ≡ nullable tree
empty_at trees number tree there =
    get_or_from_slice_get (map nullable trees) number (nullable tree) false
    (slice_get-map nullable trees number ∙ ap (option_map nullable) there)

-- the places of several patterns in a table, each of which is entered at a place of its own
module _ (trees : List Tree) (regular : AreRegularPatterns trees) (name : ℕ → Address)
    (table : List (Place ℕ)) (entries : List ℕ)
    (written : IsRenumbered (side_by_side trees) name table)
    (are : AreEntries trees name table entries) where
  dead : (number entry : ℕ) (is : IsEntry entries number entry) (haystack : Text) (i : ℕ)
      → ((j : ℕ) → Matches haystack (are.of_pattern number entry is).0 i j → ⊥)
      → IsDeadAt table haystack entry i
  dead number entry is haystack i none =
      let own = are.of_pattern number entry is in
      dead_without_match own.0 haystack table entry
      (name_in_pattern trees number own.0 own.1 name table written)
      (InPattern trees number own.0 own.1 name table written)
      (part_of_list trees number own.0 own.1 name table written)
      (entry_of_part trees number own.0 own.1 name table written entry own.2)
      (regular number own.0 own.1) i none

  -- what is known of the trees is so of the places where the patterns are entered
  pub listed_filters : length entries ≡ length trees → (filters : List StartFacts)
      → AreEachFactsOf trees filters → AreFiltersOf table entries filters
  listed_filters all filters w = record {
    all = w.all ∙ sym all;
    each = λ number entry filter is there haystack i never. (
        let own = are.of_pattern number entry is in
        dead number entry is haystack i
        (never_starts own.0 filter (w.each number own.0 filter own.1 there) haystack i never));
    answers = λ number entry filter is there whole. (
        let own = are.of_pattern number entry is in
        let reported = w.each number own.0 filter own.1 there in
        words_answer_searches own.0 (regular number own.0 own.1) table entry
        (name_in_pattern trees number own.0 own.1 name table written)
        (InPattern trees number own.0 own.1 name table written)
        (part_of_list trees number own.0 own.1 name table written)
        (entry_of_part trees number own.0 own.1 name table written entry own.2)
        filter.words reported.words (reported.all whole));
  }

  -- words that each tree needs
  pub listed_needed : (needed : NeededWords) → AreNeededByEach trees needed
      → IsNeededByAny table entries needed
  listed_needed needed each haystack i out number entry is =
      let own = are.of_pattern number entry is in
      let there = get_or_from_slice_get trees number own.0 own.0 own.1 in
      let needs : IsNeededBy own.0 needed = subst (λ tree. IsNeededBy tree needed) there
      (each number own.0 (slice_get_within trees number own.0 own.1)) in
      dead number entry is haystack i (λ j m. out (needs haystack i j m))

  -- those of which each match reads a character
  pub listed_reads : length entries ≡ length trees → (reported : List Bool) → TellReading trees
      reported → AreReading table entries reported
  listed_reads all reported w = record {
    all = w.all ∙ sym all;
    each = λ number entry is yes haystack. (
        let own = are.of_pattern number entry is in
        let reading = not-true (nullable own.0) (sym (w.each number own.0 true own.1 yes)) in
        dead number entry is haystack (length haystack)
        (λ j m. let read = reads haystack own.0 (length haystack) j reading m in
        absurd (omega (arith, read.0, read.1))));
  }

  -- of those alone that may be empty a match begins at the end
  pub listed_ends : length entries ≡ length trees → (numbers : List ℕ)
      → numbers ≡ filter (may_be_empty trees) (range_with_len 0 (length trees))
      → AreAllAtEnd table entries numbers
  listed_ends all numbers reported =
      let test = may_be_empty trees in
      let n = length entries in
      let listed : numbers ≡ filter test (range_with_len 0 n) =
      reported ∙ ap (λ k. filter test (range_with_len 0 k)) (sym all) in
      let size = ap length listed in
      let most = filter_at_most test 0 n in
      record {
        starts = λ haystack.
            tested_start table haystack entries (length haystack) test
            (λ number entry is off. (
            let own = are.of_pattern number entry is in
            let reading = sym (empty_at trees number own.0 own.1) ∙ off in
            dead number entry is haystack (length haystack)
            (λ j m. let read = reads haystack own.0 (length haystack) j reading m in
            absurd (omega (arith, read.0, read.1))))) numbers listed;
        inside = subst (All (λ number. number < n)) (sym listed)
            (all_below test 0 n n (omega arith));
        few = omega (arith, size, most);
      }

  -- what the index of several trees says holds for these places
  pub listed_prefixes : length entries ≡ length trees → (prefixes : PrefixIndex)
      → IsPrefixIndexOfTrees trees prefixes → IsPrefixIndexOf table entries prefixes
  listed_prefixes all prefixes w = record {
    count = w.count ∙ sym all;
    walkable = walkable w.parts prefixes w.index (w.of_trees.all ∙ sym w.count);
    any = λ haystack p never number entry is. (
        let own = are.of_pattern number entry is in
        let part = own_part number own.0 own.1 in
        dead number entry is haystack p
        (none_matches w.parts prefixes.any part.0 number w.index.any part.1 own.0
        (w.of_trees.each number own.0 part.0 own.1 part.1) haystack p never));
    each = λ haystack p number entry is off. (
        let own = are.of_pattern number entry is in
        let part = own_part number own.0 own.1 in
        dead number entry is haystack p
        (left_out_matches w.parts prefixes w.index part.0 number part.1
        (omega (arith, slice_get_within trees number own.0 own.1, w.count)) own.0
        (w.of_trees.each number own.0 part.0 own.1 part.1) haystack p off));
    third = λ haystack p number entry is off. (
        let own = are.of_pattern number entry is in
        dead number entry is haystack p
        (stuck_matches prefixes.third_masks number own.0
        (λ mask at. w.third_masks number own.0 mask own.1 at) haystack p off));
  }
    where
      own_part : (number : ℕ) (tree : Tree) → slice_get trees number ≡ Some tree
          → (part : PrefixSets) × (slice_get w.parts number ≡ Some part)
      own_part number tree there =
          there_is w.parts number
          (omega (arith, slice_get_within trees number tree there, w.of_trees.all))
