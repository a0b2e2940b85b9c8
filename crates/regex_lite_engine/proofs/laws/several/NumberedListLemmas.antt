-- The answer over a table of numbered places is that of the patterns which the table stands for.
use Rattle.regex_lite_engine.proofs.Common.{◌≡◌, ℕ, ◌<◌, ◌≤◌, ◌⊎◌, List, Some, None, Option, inl}
use Rattle.regex_lite_engine.proofs.Common.{inr, arith, Text, Tree, Matches, Address, IsRenumbered}
use Rattle.regex_lite_engine.proofs.Common.{IsNumberOf, side_by_side, HasTree, start_of, AreEntries}
use Rattle.regex_lite_engine.proofs.Common.{IsMatchFrom, Found, IsAnswerOfList, IsMatchOfAny}
use Rattle.regex_lite_engine.proofs.Common.{IsNumberedAnswerOf, ◌≡◌, Bool}
use Rattle.regex_lite_engine.specs.Graph.Places.{Place}
use Rattle.regex_lite_engine.specs.Graph.SideBySide.{AreRegularPatterns}
use Rattle.regex_lite_engine.specs.Search.AnswerAt.{AnyMatchesAt, HasMatchAt, IsFoundAtInList}
use Rattle.regex_lite_engine.specs.Search.NumberedList.{IsWantedFoundOf, IsWantedOfAny}
use Rattle.regex_lite_engine.proofs.laws.search.NumberedAnswerLemmas.{numbered_match}
use Rattle.regex_lite_engine.proofs.laws.search.NumberedAnswerLemmas.{match_of_numbers}
use Rattle.regex_lite_engine.proofs.laws.search.NumberedAnswerLemmas.{answer_of_part}
use Rattle.regex_lite_engine.proofs.laws.search.NumberedAnswerLemmas.{found_at_of_part}
use Rattle.regex_lite_engine.proofs.laws.search.NumberedAnswerLemmas.{match_of_wanted, wanted_match}
use Rattle.regex_lite_engine.proofs.laws.several.ListAnswerLemmas.{from_its_start}
use Rattle.regex_lite_engine.proofs.laws.several.PartLemmas.{InPattern, name_in_pattern}
use Rattle.regex_lite_engine.proofs.laws.several.PartLemmas.{part_of_list, entry_of_part}

module _ (trees : List Tree) (haystack : Text) (table : List (Place ℕ)) (entries : List ℕ)
    (name : ℕ → Address) (r : IsRenumbered (side_by_side trees) name table)
    (starts : AreEntries trees name table entries) (regular : AreRegularPatterns trees)
    (s : ℕ) where
  -- a match of one of the patterns, over numbers
  pub any_numbered : (k i j : ℕ) (tree : Tree) → HasTree trees k tree
      → IsMatchFrom tree haystack s i j
      → (q : ℕ) × (way : List ℕ) × IsMatchOfAny table haystack entries s i k way q j
  any_numbered k i j tree there m =
      let (entry, is_entry) = starts.each k tree there in
      let first = entry_of_part trees k tree there name table r entry
      (starts.of_pattern k entry is_entry).2 in
      let (q, way, numbered) = numbered_match tree haystack table entry
      (name_in_pattern trees k tree there name table r)
      (InPattern trees k tree there name table r)
      (part_of_list trees k tree there name table r) first (regular k tree there) s i j m in
      (q, way, record { entry = entry; is_entry = is_entry; is_match = numbered })

  -- and the other way round
  pub any_of_numbers : (i k : ℕ) (way : List ℕ) (q j : ℕ)
      → IsMatchOfAny table haystack entries s i k way q j
      → (tree : Tree) × HasTree trees k tree × IsMatchFrom tree haystack s i j
  any_of_numbers i k way q j m =
      let (tree, there, is) = starts.of_pattern k m.entry m.is_entry in (
        tree,
        there,
        match_of_numbers tree haystack table m.entry
            (name_in_pattern trees k tree there name table r)
            (InPattern trees k tree there name table r)
            (part_of_list trees k tree there name table r)
            (entry_of_part trees k tree there name table r m.entry is) (regular k tree there) s i q
            j way m.is_match,
      )

  -- the same of matches that start at position s, and may end where they do
  pub any_at_numbered : (whole : Bool) (k : ℕ) (tree : Tree) → HasTree trees k tree
      → HasMatchAt whole tree haystack s
      → (way : List ℕ) × (q : ℕ) × (j : ℕ)
      × IsWantedOfAny table haystack entries whole s s k way q j
  any_at_numbered whole k tree there has =
      let (entry, is_entry) = starts.each k tree there in
      let first = entry_of_part trees k tree there name table r entry
      (starts.of_pattern k entry is_entry).2 in
      let (j, q, way, numbered) = wanted_match tree haystack table entry
      (name_in_pattern trees k tree there name table r)
      (InPattern trees k tree there name table r)
      (part_of_list trees k tree there name table r) first (regular k tree there) whole s has in
      (way, q, j, record { entry = entry; is_entry = is_entry; is_match = numbered })

  pub any_at_of_numbers : (whole : Bool) (i k : ℕ) (way : List ℕ) (q j : ℕ) → i ≤ s
      → IsWantedOfAny table haystack entries whole s i k way q j
      → AnyMatchesAt whole trees haystack s
  any_at_of_numbers whole i k way q j up_to m =
      let (tree, there, is) = starts.of_pattern k m.entry m.is_entry in (
        k,
        tree,
        there,
        match_of_wanted tree haystack table m.entry
            (name_in_pattern trees k tree there name table r)
            (InPattern trees k tree there name table r)
            (part_of_list trees k tree there name table r)
            (entry_of_part trees k tree there name table r m.entry is) (regular k tree there) whole
            s i q j way up_to m.is_match,
      )

  not_earlier : (start i number k : ℕ) → (start < i) ⊎ ((start ≡ i) × (number ≤ k)) → start ≤ i
  not_earlier start i number k (inl less) = omega (arith, less)
  not_earlier start i number k (inr (e, le)) = omega (arith, e)

  not_lower : (start number k : ℕ) → (start < start) ⊎ ((start ≡ start) × (number ≤ k))
      → number ≤ k
  not_lower start number k (inl less) = absurd (omega (arith, less))
  not_lower start number k (inr (e, le)) = le

  -- what is found at position s
  pub found_at_of_numbers : (whole : Bool) (number : ℕ) (found : Found) → found.start ≤ s
      → IsWantedFoundOf table haystack entries whole s number found
      → IsFoundAtInList whole trees haystack s number found
  found_at_of_numbers whole number found up_to is =
      let from = is.answer.from in
      let same : found.start ≡ s = omega (arith, from, up_to) in
      let (tree, there, at) = starts.of_pattern number is.entry is.is_entry in
      record {
        tree = tree;
        numbered = there;
        answer =
            found_at_of_part tree haystack table is.entry
            (name_in_pattern trees number tree there name table r)
            (InPattern trees number tree there name table r)
            (part_of_list trees number tree there name table r)
            (entry_of_part trees number tree there name table r is.entry at)
            (regular number tree there) whole s found up_to is.answer;
        lowest = λ k other th has. (
            let (way, q, j, numbered) = any_at_numbered whole k other th has in
            not_lower_at found.start k same (is.first s k way q j numbered));
      }
    where
      not_lower_at : (start k : ℕ) → start ≡ s → (start < s) ⊎ ((start ≡ s) × (number ≤ k))
          → number ≤ k
      not_lower_at start k same (inl less) = absurd (omega (arith, less, same))
      not_lower_at start k same (inr (e, le)) = le

  pub list_answer_of_numbers : (answer : Option (ℕ × Found))
      → IsNumberedAnswerOf table haystack entries s answer → IsAnswerOfList trees haystack s answer
  list_answer_of_numbers None none = λ (k, tree, there, (i, j, m)). (
      let (q, way, numbered) = any_numbered k i j tree there m in none i k way q j numbered)
  list_answer_of_numbers (Some (number, found)) is =
      by_pattern (starts.of_pattern number is.entry is.is_entry)
    where
      by_pattern : (tree : Tree) × HasTree trees number tree
          × IsNumberOf name table (start_of number) is.entry
          → IsAnswerOfList trees haystack s (Some (number, found))
      by_pattern (tree, there, at) = record {
        tree = tree;
        numbered = there;
        from = is.answer.from;
        least = λ k i j other th m. (
            let (q, way, numbered) = any_numbered k i j other th m in
            not_earlier found.start i number k (is.first i k way q j numbered));
        lowest = λ k j other th m. lower k j other th m;
        answer = from_its_start tree haystack s found
            (answer_of_part tree haystack table is.entry
            (name_in_pattern trees number tree there name table r)
            (InPattern trees number tree there name table r)
            (part_of_list trees number tree there name table r)
            (entry_of_part trees number tree there name table r is.entry at)
            (regular number tree there) s (Some found) is.answer);
      }
        where
          lower : (k j : ℕ) (other : Tree) → HasTree trees k other
              → Matches haystack other found.start j → number ≤ k
          lower k j other th m =
              let match : IsMatchFrom other haystack s found.start j = record {
                from = is.answer.from;
                inside = is.answer.inside;
                matches = m;
              } in
              let (q, way, numbered) = any_numbered k found.start j other th match in
              not_lower found.start number k (is.first found.start k way q j numbered)
