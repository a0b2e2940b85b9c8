-- What anchored searches find, with what is kept of it.
use Rattle.regex_lite_meta.proofs.Common.{◌≡◌, ◌<◌, ◌≤◌, ◌⊎◌, ℕ, List, [], Some, None, Option, inl}
use Rattle.regex_lite_meta.proofs.Common.{inr, refl, sym, subst, ◌∙◌, arith, Text, Row, MatchStart}
use Rattle.regex_lite_meta.proofs.Common.{IsBestOutcomeOf, best_at, best_kept, span_of}
use Rattle.regex_lite_meta.proofs.Common.{with_start_kept, chars, position_at, ap, table_of_list}
use Rattle.regex_lite_meta.proofs.Common.{length, Bool, false}
use Rattle.regex_lite_engine.specs.Search.Offsets.{offset, search_start}
use Rattle.regex_lite_engine.proofs.search.ListAnchoredLemmas.{list_any_at_reported}
use Rattle.std.specs.Prelude.{◌↔◌, IsTrue, IsUtf8, IsCharBoundary, is_some}
use Rattle.regex_lite_syntax.specs.Tree.{Tree}
use Rattle.regex_lite_engine.specs.Graph.SideBySide.{AreRegularPatterns}
use Rattle.regex_lite_engine.specs.Graph.StoredList.{IsGraphOfList, StoredList}
use Rattle.regex_lite_engine.specs.Search.AnswerAt.{AnyMatchesAt}
use Rattle.regex_lite_engine.specs.Graph.Places.{Place}
use Rattle.regex_lite_engine.specs.Search.Answer.{Found}
use Rattle.regex_lite_engine.specs.Search.NumberedList.{IsNumberedAnswerTo, IsNumberedFoundOf}
use Rattle.regex_lite_engine.specs.Search.NumberedList.{IsMatchOfAny}
use Rattle.regex_lite_engine.specs.Search.NumberedWords.{IsEachAnsweredBy}
use Rattle.regex_lite_syntax.specs.Prefilter.NumberedWords.{NumberedWords}
use Rattle.regex_lite_syntax.specs.Prefilter.Words.{AnyStandsAt}
use Rattle.regex_lite_engine.specs.Search.NumberedOutcomes.{Best, IsAnyTo, IsBestOutcomeTo}
use Rattle.regex_lite_engine.specs.Search.NumberedOutcomes.{IsWantedOutcomeTo, numbered_at}
use Rattle.regex_lite_engine.specs.Search.NumberedOutcomes.{with_match_start_kept}
use Rattle.regex_lite_engine.proofs.PositionLemmas.{position_is, same_position}

module _ (table : List (Place ℕ)) (h : Text) (entries : List ℕ) (whole : Bool) (s last : ℕ) where
  -- where the match starts and ends, without the number of its pattern
  pub spanned_to : (found : Option (MatchStart × ℕ)) (row : Row)
      → IsWantedOutcomeTo table h entries whole s last (best_kept found row)
      → IsWantedOutcomeTo table h entries whole s last
      (with_start_kept (best_at (span_of found) row))
  spanned_to None row outcome = outcome
  spanned_to (Some known) row (number, found, answer, reported, ends, held) = (
    number,
    found,
    answer,
    record { start_reported = reported.start_reported; number_reported = tt },
    ends,
    held,
  )

module _ (table : List (Place ℕ)) (h : Text) (entries : List ℕ) (s last : ℕ) where
  -- two answers from one position start together
  no_later : (number other : ℕ) (found more : Found)
      → IsNumberedFoundOf table h entries s number found
      → IsNumberedFoundOf table h entries s other more → more.start ≤ found.start
  no_later number other found more is its =
      by_order (its.first found.start number is.answer.way is.answer.last found.end (record {
        entry = is.entry;
        is_entry = is.is_entry;
        is_match = record {
          from = is.answer.from;
          inside = is.answer.inside;
          leads = is.answer.is_way;
        };
      }))
    where
      by_order : (more.start < found.start) ⊎ ((more.start ≡ found.start) × (other ≤ number))
          → more.start ≤ found.start
      by_order (inl less) = omega (arith, less)
      by_order (inr (same, le)) = omega (arith, same)

  -- what a search finds anywhere starts no later, if one does that starts no later than `last`
  pub still_to : (found best : Best) → (found ≡ None → ⊥)
      → IsBestOutcomeTo table h entries s last found → IsBestOutcomeOf table h entries s best
      → IsBestOutcomeTo table h entries s last best
  still_to found None some known none = λ i k way q j up_to m. none i k way q j m
  still_to None (Some best) some known is = absurd (some refl)
  still_to (Some found) (Some best) some (n, f, (up_to, answer), rest, ended, kept)
      (number, more, is, reported, ends, held) =
      let low = no_later n number f more answer is in
      (number, more, (omega (arith, low, up_to), is), reported, ends, held)

  -- what starts no later than `last` is the answer of a search for any match
  pub from_to : (best : Option (MatchStart × ℕ)) (row : Row) → (best ≡ None → ⊥)
      → IsBestOutcomeTo table h entries s last (best_kept best row)
      → IsBestOutcomeOf table h entries s (best_kept best row)
  from_to None row some none = absurd (some refl)
  from_to (Some best) row some (number, found, (up_to, is), reported, ends, held) =
      (number, found, is, reported, ends, held)

-- a match is known where what is kept of it is
pub some_kept : (found : Option (MatchStart × ℕ)) (row : Row)
    → is_some found ≡ is_some (best_kept found row)
some_kept None row = refl
some_kept (Some found) row = refl

-- a match is one whatever is kept of it
pub any_kept : (table : List (Place ℕ)) (h : Text) (entries : List ℕ) (s last : ℕ)
    (found : Option (MatchStart × ℕ)) (row other : Row)
    → IsAnyTo table h entries false s last (best_kept found row)
    → IsAnyTo table h entries false s last (best_kept found other)
any_kept table h entries s last None row other none = none
any_kept table h entries s last (Some found) row other is = is

-- where none starts further on either, none starts here
pub none_to : (table : List (Place ℕ)) (bytes entries : List ℕ) (start : ℕ)
    → IsBestOutcomeOf table (chars bytes) entries (position_at bytes start) None
    → IsNumberedAnswerTo table (chars bytes) entries (position_at bytes start)
    (position_at bytes start) None
none_to table bytes entries start none = λ i k way q j up_to m. none i k way q j m

-- The next match of several patterns is that of an anchored search if it starts there
module _ (table : List (Place ℕ)) (bytes : List ℕ) (utf8 : IsUtf8 bytes) (entries : List ℕ)
    (start : ℕ) (edge : IsCharBoundary bytes start) where
  abbrev s : ℕ
  s = position_at bytes start

  -- no match starts where no word stands
  pub none_stand : (words : NumberedWords) → IsEachAnsweredBy table entries words
      → ¬ (AnyStandsAt words.words bytes start)
      → IsNumberedAnswerTo table (chars bytes) entries s s None
  none_stand words each none = λ i k way q j up_to m. (
      let from = m.is_match.from in
      let same : i ≡ s = omega (arith, from, up_to) in
      none (each.stands bytes start k way q j utf8 edge
      (subst (λ z. IsMatchOfAny table (chars bytes) entries s z k way q j) same m)))

  pub word_starts : (number : ℕ) (span : ℕ × ℕ) → span.0 ≡ start
      → IsBestOutcomeOf table (chars bytes) entries s
      (with_match_start_kept (numbered_at (Some (number, span)) []))
      → IsBestOutcomeTo table (chars bytes) entries s s
      (with_match_start_kept (numbered_at (Some (number, span)) []))
  word_starts number span here (n, found, is, reported, ends, held) =
      let at = position_is bytes start utf8 edge in
      let same = same_position (chars bytes) found.start s is.answer.inside at.0
      (sym reported.start_reported ∙ here ∙ at.1) in
      (n, found, (omega (arith, same), is), reported, ends, held)

  pub word_later : (number : ℕ) (span : ℕ × ℕ) → (span.0 ≡ start → ⊥)
      → IsBestOutcomeOf table (chars bytes) entries s
      (with_match_start_kept (numbered_at (Some (number, span)) []))
      → IsNumberedAnswerTo table (chars bytes) entries s s None
  word_later number span away (n, found, is, reported, ends, held) = λ i k way q j up_to m. (
      let from = m.is_match.from in
      by_order i k up_to from (is.first i k way q j m))
    where
      starts_here : found.start ≡ s → ⊥
      starts_here same =
          let at = position_is bytes start utf8 edge in
          away (reported.start_reported ∙ ap (offset (chars bytes)) same ∙ sym at.1)

      by_order : (i k : ℕ) → i ≤ s → s ≤ i
          → (found.start < i) ⊎ ((found.start ≡ i) × (n ≤ k)) → ⊥
      by_order i k up_to from (inl less) =
          let low = is.answer.from in omega (arith, less, up_to, low)
      by_order i k up_to from (inr (same, le)) =
          starts_here (omega (arith, same, up_to, from))

-- where a word stands a pattern matches, and where none does none matches
module _ (trees : List Tree) (list : StoredList) (is : IsGraphOfList trees list)
    (haystack : List ℕ) (start : ℕ) (inside : start ≤ length haystack)
    (regular : AreRegularPatterns trees) where
  pub any_of_word : (reported : Option (ℕ × (ℕ × ℕ)))
      → IsBestOutcomeTo (table_of_list list) (chars haystack) list.entries
      (position_at haystack start) (position_at haystack start)
      (with_match_start_kept (numbered_at reported []))
      → IsTrue (is_some reported)
      ↔ AnyMatchesAt false trees (chars haystack) (search_start haystack start)
  any_of_word None none =
      list_any_at_reported false trees list is haystack start inside regular None none
  any_of_word (Some reported) (number, found, (up_to, answer), tells, ends, held) =
      list_any_at_reported false trees list is haystack start inside regular
      (with_match_start_kept (numbered_at (Some reported) [])) (
        found.start,
        number,
        answer.answer.way,
        answer.answer.last,
        found.end,
        up_to,
        record {
          entry = answer.entry;
          is_entry = answer.is_entry;
          is_match = record {
            from = answer.answer.from;
            inside = answer.answer.inside;
            leads = answer.answer.is_way;
          };
        },
      )
