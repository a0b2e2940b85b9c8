-- What a search for the least end finds of a pattern that is one word: the end of the next one.
use Rattle.regex_lite_engine.proofs.Common.{◌≡◌, ℕ, ◌+◌, ◌≤◌, List, [], ◌∷◌, length, Some}
use Rattle.regex_lite_engine.proofs.Common.{None, Option, IsUtf8, IsCharBoundary, chars, sym, ap}
use Rattle.regex_lite_engine.proofs.Common.{refl, subst, arith, Text, Tree, Matches, drop}
use Rattle.regex_lite_engine.proofs.Common.{IsRegular, Address, start_address, written_out}
use Rattle.regex_lite_engine.proofs.Common.{IfSome, offset, position_at, length-drop, option_map}
use Rattle.regex_lite_engine.proofs.Common.{IsNumberedMatch, IsNumberedOutcome}
use lib.Utf8.{encodes}
use Rattle.regex_lite_engine.specs.Graph.Places.{Place}
use Rattle.regex_lite_engine.specs.Search.NumberedAnswer.{place_with}
use Rattle.regex_lite_engine.specs.Search.NumberedList.{IsMatchOfAny}
use Rattle.regex_lite_engine.specs.Search.NumberedOutcomes.{IsNumberedEndOf, best_at}
use Rattle.regex_lite_engine.specs.Search.OutcomeOfOne.{ending_at}
use Rattle.regex_lite_engine.specs.Search.Starts.{AnswerSearches}
use Rattle.regex_lite_engine.proofs.OffsetLemmas.{offset_grows, offset_most, positions_order}
use Rattle.regex_lite_engine.proofs.OffsetLemmas.{rest_at}
use Rattle.regex_lite_engine.proofs.laws.answer.ReachLemmas.{walk_inside}
use Rattle.regex_lite_engine.proofs.laws.search.NumberedAnswerLemmas.{match_of_numbers}
use Rattle.regex_lite_engine.proofs.laws.search.NumberedWayLemmas.{IsPart, IsPartNumber}
use Rattle.regex_lite_engine.proofs.nfa.WholeWordLemmas.{words_answer}
use Rattle.regex_lite_engine.proofs.search.OneStartLemmas.{only_entry}
use Rattle.regex_lite_syntax.specs.Prefilter.WholeWords.{IsItsWords}
use Rattle.regex_lite_syntax.specs.Prefilter.Words.{AreWordsOfTree, word_at}
use Rattle.regex_lite_syntax.proofs.prefilter.words.RowLemmas.{reads_one}
use Rattle.regex_lite_syntax.proofs.prefilter.words.StandLemmas.{start_length}
use Rattle.regex_lite_syntax.specs.declared.prefilter.words.letter.Letter.{Letter}

-- each match is as long as the word
long_as_word : (tree : Tree) (words : List (List Letter)) → IsItsWords tree words
    → length words ≡ 1 → (h : Text) (i j : ℕ) → Matches h tree i j
    → offset h j ≡ offset h i + length (word_at words 0)
long_as_word tree words are one h i j m =
    let word = word_at words 0 in
    let read = reads_one tree words are one h i j m in
    omega (
      arith,
      start_length word (encodes (drop i h)) read.stands,
      ap length read.all,
      length-drop (length word) (encodes (drop i h)),
      ap length (rest_at h i),
      ap length (rest_at h j),
      length-drop (offset h i) (encodes h),
      length-drop (offset h j) (encodes h),
      offset_most h i,
      offset_most h j,
    )

module _ (tree : Tree) (regular : IsRegular tree) (words : List (List Letter))
    (begin : AreWordsOfTree tree words) (are : IsItsWords tree words)
    (table : List (Place ℕ)) (start : ℕ) (name : ℕ → Address) (Part : ℕ → Type 0)
    (r : IsPart (written_out tree) name table Part)
    (entry : IsPartNumber name Part start_address start) (one : length words ≡ 1)
    (bytes : List ℕ) (from : ℕ) (utf8 : IsUtf8 bytes) (edge : IsCharBoundary bytes from) where
  abbrev h : Text
  h = chars bytes

  abbrev s : ℕ
  s = position_at bytes from

  -- a match of the only pattern
  own_match : (i k : ℕ) (way : List ℕ) (q j : ℕ)
      → IsMatchOfAny table h (start ∷ []) s i k way q j
      → IsNumberedMatch table h start s i way q j
  own_match i k way q j m =
      subst (λ z. IsNumberedMatch table h z s i way q j)
      (sym (only_entry start k m.entry m.is_entry).1) m.is_match

  own_length : (i q j : ℕ) (way : List ℕ) → IsNumberedMatch table h start s i way q j
      → offset h j ≡ offset h i + length (word_at words 0)
  own_length i q j way m =
      long_as_word tree words are one h i j
      (match_of_numbers tree h table start name Part r entry regular s i q j way m).matches

  by_outcome : (span : Option (ℕ × ℕ)) → IsNumberedOutcome table h start s (best_at span [])
      → IsNumberedEndOf table h (start ∷ []) s (ending_at (option_map (λ span. span.1) span))
  by_outcome None none = λ i k way q j m. none i q j way (own_match i k way q j m)
  by_outcome (Some span) (found, is, at, to, held) =
      let first : IsNumberedMatch table h start s found.start is.way is.last found.end =
      record { from = is.from; inside = is.inside; leads = is.is_way } in
      let inside : found.end ≤ length h =
      walk_inside h (place_with table) is.way (start, found.start) (is.last, found.end)
      is.is_way.is_way.0 is.inside in
      let long = own_length found.start is.last found.end is.way first in (
        found.end,
        record {
          start = found.start;
          number = 0;
          way = is.way;
          last = is.last;
          is_match = record { entry = start; is_entry = refl; is_match = first };
          least = λ i k way q j m. (
              let own = own_match i k way q j m in
              let later = offset_grows h found.start i (is.least i q j way own) in
              positions_order h found.end j inside
              (omega (arith, long, later, own_length i q j way own)));
        },
        to,
      )

-- what is so of a tree that is its words holds where they are known of it
pub words_answer_searches : (tree : Tree) → IsRegular tree → (table : List (Place ℕ)) (start : ℕ)
    (name : ℕ → Address) (Part : ℕ → Type 0) → IsPart (written_out tree) name table Part
    → IsPartNumber name Part start_address start → (reported : Option (List (List Letter)))
    → IfSome reported (AreWordsOfTree tree) → IfSome reported (IsItsWords tree)
    → IfSome reported (AnswerSearches table start)
words_answer_searches tree regular table start name Part r entry None begin are = tt
words_answer_searches tree regular table start name Part r entry (Some words) begin are =
    let answer = words_answer tree regular table start name Part r entry (Some words) begin are in
    record {
      found = answer;
      ends = λ one bytes from span utf8 edge next.
          by_outcome tree regular words begin are table start name Part r entry one bytes from utf8
          edge span (answer bytes from span utf8 edge next);
    }
