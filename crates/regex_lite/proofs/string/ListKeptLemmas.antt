-- What a searcher for several patterns that callers keep returns of a match, and of its groups.
use Rattle.regex_lite.proofs.Common.{◌≡◌, ℕ, zero, suc, ◌*◌, ◌<◌, ◌≤◌, List, [], ◌∷◌, length, take}
use Rattle.regex_lite.proofs.Common.{Some, None, Option, option_map, chars, sym, refl, ap, ◌∙◌}
use Rattle.regex_lite.proofs.Common.{subst, arith, length-take-le, IsTree, Tree, captures_len}
use Rattle.regex_lite.proofs.Common.{HasTree, Found, IsFoundInList, offset, search_start, HasSlots}
use Rattle.regex_lite.proofs.Common.{Expression, spans_of, resized}
use Rattle.regex_lite.proofs.Common.{span_of_match, AreTrees, TellsMatchOfList, most_captures}
use Rattle.regex_lite.proofs.Common.{AreSlotsForAllGroups, spans_from, kept_slots, all_slots, Match}
use Rattle.std.proofs.lemmas.Option.{slice_get_within}
use Rattle.regex_lite_syntax.proofs.OptionLemmas.{same_some}
use Rattle.regex_lite.specs.RegexList.{OfTrees}
use Rattle.regex_lite.specs.RegexListSearches.{TellsLocationsOfList}
use Rattle.regex_lite.specs.Scanning.{TellsListMatch}
use Rattle.regex_lite.proofs.string.CapturedLemmas.{held_all}
use Rattle.regex_lite.proofs.string.FoundLemmas.{slots_reported}
use Rattle.regex_lite.proofs.ListBuildLemmas.{one_list, pattern_tree}
use Rattle.regex_lite.proofs.string.ListSlotLemmas.{enough_kept, in_whole}
use Rattle.regex_lite.proofs.PairedLemmas.{paired_length}
use Rattle.regex_lite_engine.proofs.laws.answer.AnswerAtLemmas.{way_of_found}

-- what is returned of the answer of a search for several patterns, with these slots, is the match
-- that the search returns
pub list_match : (list : List Expression) (bytes : List ℕ) (start : ℕ) (slots : List (Option ℕ))
    (reported : Option (ℕ × Match)) → TellsListMatch list bytes start slots reported
    → TellsMatchOfList list bytes start reported
list_match list bytes start slots None own = own
list_match list bytes start slots (Some (number, m)) (answer, (trees, given, is), with_slots) = (
  trees,
  given,
  (
    answer.1,
    subst (λ n. IsFoundInList trees (chars bytes) (search_start bytes start) n answer.1)
        (sym with_slots.number) is,
    with_slots.is_match,
  ),
)

-- no pattern has more groups than the one with the most
most_in : (trees : List Tree) (number : ℕ) (tree : Tree) → HasTree trees number tree
    → captures_len tree ≤ most_captures trees
most_in [] number tree there = absurd cc
most_in (own ∷ trees) zero tree there =
    omega (arith, ap captures_len (same_some there))
most_in (own ∷ trees) (suc number) tree there =
    omega (arith, most_in trees number tree there)

-- the slots of a match, as many as its groups have, hold their spans
module _ (list : List Expression) (bytes : List ℕ) (start : ℕ) (kept : List (Option ℕ))
    (room : AreSlotsForAllGroups list (length kept)) (number : ℕ) (m : Match)
    (own : TellsListMatch list bytes start kept (Some (number, m))) where
  abbrev trees : List Tree
  trees = own.1.0

  given : AreTrees list trees
  given = own.1.1

  abbrev found : Found
  found = own.0.1

  answer : IsFoundInList trees (chars bytes) (search_start bytes start) number found
  answer = subst (λ n. IsFoundInList trees (chars bytes) (search_start bytes start) n found)
      (sym own.2.number) own.1.2

  abbrev tree : Tree
  tree = answer.tree

  abbrev all : List (Option ℕ)
  all = all_slots kept (span_of_match m)

  held : HasSlots (chars bytes) all found.marks
  held = held_all (chars bytes) tree found
      (pattern_tree list trees given number tree answer.numbered)
      (way_of_found tree (chars bytes) found.start found answer.answer) kept
      (span_of_match m) own.2.has_slots own.2.is_match.span

  enough : 2 * captures_len tree ≤ length all
  enough = enough_kept kept (span_of_match m) (most_captures trees) (captures_len tree)
      (room.2 ∙ ap (λ (own : List Tree). kept_slots (most_captures own))
      (one_list list room.0 trees room.1 given)) (most_in trees number tree answer.numbered)

  -- the pattern is there
  pub number_within : number < length list
  number_within =
      let less = slice_get_within trees number tree answer.numbered in
      let each = paired_length (λ re tree. IsTree re.flags (chars re.pattern) tree) list trees given
      in
      omega (arith, less, each)

  module _ (two : ℕ)
      (own_two : OfTrees list (λ trees. (tree : Tree) → HasTree trees number tree
      → two ≡ 2 * captures_len tree)) where
    two_is : two ≡ 2 * captures_len tree
    two_is = own_two.2 tree (subst (λ own. HasTree own number tree)
        (one_list list trees own_two.0 given own_two.1) answer.numbered)

    -- they are there
    pub own_within : two ≤ length all
    own_within = let le = enough in let is = two_is in omega (arith, le, is)

    spans_are : spans_of (take two all) ≡ spans_from (chars bytes) found.marks 0 (captures_len tree)
    spans_are = slots_reported (chars bytes) found.marks (take two all) 0 (captures_len tree) 0 refl
        (length-take-le two all own_within ∙ two_is)
        (λ k slot at. held k slot (in_whole all two k slot at)
        ∙ ap (λ n. option_map (offset (chars bytes)) (found.marks n)) (omega arith))

    -- they are what is returned
    pub list_locations : (read : List (Option (ℕ × ℕ))) (n : ℕ) → length read ≡ n
        → read ≡ resized n (spans_of (take two all))
        → TellsLocationsOfList list bytes start read (Some (number, m))
    list_locations read n len is = (
      trees,
      given,
      (
        found,
        answer,
        (
          own.2.is_match,
          is ∙ ap (resized n) spans_are
              ∙ ap (λ k. resized k (spans_from (chars bytes) found.marks 0 (captures_len tree)))
              (sym len),
        ),
      ),
    )
