-- What a searcher that callers keep returns of a match, and of its groups.
use Rattle.regex_lite.proofs.Common.{◌≡◌, ℕ, ◌*◌, ◌≤◌, List, [], length, take, Some, None, IsUtf8}
use Rattle.regex_lite.proofs.Common.{Option, option_map, chars, sym, refl, ap, ◌∙◌, subst, arith}
use Rattle.regex_lite.proofs.Common.{Tree, captures_len, Found, offset}
use Rattle.regex_lite.proofs.Common.{search_start, HasSlots, IsSpanOutcome, Expression}
use Rattle.regex_lite.proofs.Common.{OfTree, spans_of, IsAnswerOf, span_of_match, spans_from}
use Rattle.regex_lite.proofs.Common.{IsMatchOf, TellsMatch, TellsLocations, all_slots, Match}
use Rattle.std.proofs.Common.{◌/◌}
use Rattle.regex_lite_meta.specs.Searching.{FindsSpan}
use Rattle.regex_lite_syntax.proofs.OptionLemmas.{same_some}
use Rattle.regex_lite.specs.Answers.{TellsOfAnswer}
use Rattle.regex_lite.specs.Keeping.{SearchesForGroups}
use Rattle.regex_lite.specs.Scanning.{IsMatchWithSlots, RegexSearching}
use Rattle.regex_lite.specs.Searches.{CanRead}
use Rattle.regex_lite.proofs.string.CapturedLemmas.{held_all}
use Rattle.regex_lite.proofs.string.FoundLemmas.{first_reported, length_spans, slots_reported}
use Rattle.regex_lite.proofs.string.LawfulLemmas.{regex_lawful}
use Rattle.regex_lite.proofs.OneTreeLemmas.{one_tree}
use Rattle.regex_lite_engine.proofs.laws.answer.AnswerAtLemmas.{way_of_found}

-- what is returned of the answer of a search is the match that the search returns
pub match_answered : (re : Expression) (bytes : List ℕ) (start : ℕ) (slots : List (Option ℕ))
    (reported : Option (Unit {0} × Match))
    → TellsOfAnswer (IsAnswerOf re (chars bytes))
    (IsMatchWithSlots (λ own. own) (λ own. tt {0}) bytes slots) (search_start bytes start) reported
    → TellsMatch re bytes start (option_map (λ reported. reported.1) reported)
match_answered re bytes start slots None own = own
match_answered re bytes start slots (Some reported) (found, (tree, given, is), with_slots) =
    (tree, given, (found, is, with_slots.is_match))

-- after a search a searcher still finds groups
pub still_searches : (re : Expression) (old new : RegexSearching) → SearchesForGroups re (Some old)
    → new.regex ≡ old.regex → length new.slots ≡ length old.slots
    → SearchesForGroups re (Some new)
still_searches re old new (of_regex, (tree, given, two)) regex slots =
    (regex ∙ of_regex, (tree, given, slots ∙ two))

-- one that finds groups has room for the locations
pub room_for : (re : Expression) (searcher : RegexSearching) → SearchesForGroups re (Some searcher)
    → (locations : List (Option (ℕ × ℕ))) → CanRead re locations
    → length locations ≤ length searcher.slots / 2
room_for re searcher (_, (own, given, two)) locations (other, given_too, few) =
    let same = ap captures_len (one_tree re.flags (chars re.pattern) other own given_too given) in
    omega (arith, few, same, two)

module _ (re : Expression) (bytes : List ℕ) (utf8 : IsUtf8 bytes) (start : ℕ) (m : Match)
    (own : TellsMatch re bytes start (Some m)) where
  abbrev tree : Tree
  tree = own.0

  abbrev found : Found
  found = own.2.0

  is_match : IsMatchOf bytes found m
  is_match = own.2.2

  is_answer : IsAnswerOf re (chars bytes) (search_start bytes start) (Some found)
  is_answer = (tree, own.1, own.2.1)

  -- the slots that a search finds from there are those of the match
  pub slots_found : (slots : List (Option ℕ)) (span : ℕ × ℕ)
      → OfTree re (λ tree. IsSpanOutcome tree bytes start slots (Some span))
      → HasSlots (chars bytes) slots found.marks
  slots_found slots span (other, given, (second, is, tells)) =
      let same = same_some ((regex_lawful re (chars bytes)).one (search_start bytes start)
      (Some second) (Some found) (other, given, is) is_answer) in
      subst (λ (f : Found). HasSlots (chars bytes) slots f.marks) same tells.slots

  -- its span is the slots of the whole match
  pub slots_of_whole : HasSlots (chars bytes) (all_slots [] (span_of_match m)) found.marks
  slots_of_whole =
      held_all (chars bytes) tree found (re.flags, _, own.1)
      (way_of_found tree (chars bytes) (search_start bytes start) found own.2.1) []
      (span_of_match m) (λ k slot at. absurd cc) is_match.span

  -- a search from there finds it
  pub finds_span : OfTree re (λ tree. FindsSpan tree bytes start (span_of_match m))
  finds_span = (
    tree,
    own.1,
    (
      all_slots [] (span_of_match m),
      (
        found,
        own.2.1,
        record {
          start = ap (λ (span : ℕ × ℕ). span.0) is_match.span;
          end = ap (λ (span : ℕ × ℕ). span.1) is_match.span;
          slots = slots_of_whole;
        },
      ),
    ),
  )

  -- these slots hold its groups, two for each
  module _ (slots : List (Option ℕ)) (held : HasSlots (chars bytes) slots found.marks)
      (enough : OfTree re (λ tree. length slots ≡ 2 * captures_len tree)) where
    spans_are : spans_of slots ≡ spans_from (chars bytes) found.marks 0 (captures_len tree)
    spans_are = slots_reported (chars bytes) found.marks slots 0 (captures_len tree) 0 refl
        (enough.2 ∙ ap (λ tree. 2 * captures_len tree)
        (one_tree re.flags (chars re.pattern) enough.0 tree enough.1 own.1))
        (λ k slot at. held k slot at
        ∙ ap (λ n. option_map (offset (chars bytes)) (found.marks n)) (omega arith))

    -- they suffice for the locations
    pub room_read : (locations : List (Option (ℕ × ℕ))) → CanRead re locations
        → length locations ≤ length (spans_of slots)
    room_read locations (other, given, few) =
        let count = ap captures_len (one_tree re.flags (chars re.pattern) other tree given own.1) in
        let all = ap length spans_are
        ∙ length_spans (chars bytes) found.marks 0 (captures_len tree) in
        omega (arith, few, count, all)

    -- the first of them are what is returned
    pub locations_read : (n : ℕ) (read : List (Option (ℕ × ℕ))) → read ≡ take n (spans_of slots)
        → TellsLocations re bytes start read (Some m)
    locations_read n read is =
        let whole = is ∙ ap (take n) spans_are in (
          tree,
          own.1,
          (
            found,
            own.2.1,
            (
              is_match,
              whole ∙ first_reported (chars bytes) found.marks n 0 (captures_len tree)
                  ∙ ap (λ s. spans_from (chars bytes) found.marks 0 (length s)) (sym whole),
            ),
          ),
        )
