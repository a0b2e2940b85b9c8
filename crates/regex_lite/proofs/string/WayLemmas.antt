-- What an anchored search returns is that of a way of the pattern.
use Rattle.regex_lite.proofs.Common.{◌≡◌, ℕ, Bool, List, Some, IsUtf8, Option, chars, sym, refl}
use Rattle.regex_lite.proofs.Common.{◌∙◌}
use Rattle.regex_lite.proofs.Common.{subst, Found, search_start, Expression, OfTree, LiesIn}
use Rattle.regex_lite.proofs.Common.{haystack_of_match, span_of_match, AreTrees, offsets, IsMatchOf}
use Rattle.regex_lite.proofs.Common.{Match, Tree}
use Rattle.regex_lite_engine.specs.Search.AnswerAt.{IsFoundAtInList}
use Rattle.regex_lite_engine.specs.Search.Outcomes.{IsSpanOutcomeAt, IsSpanOutcomeAtOfList}
use Rattle.regex_lite.specs.Anchored.{TellsAnswerAt, TellsAnswerAtOfList}
use Rattle.regex_lite.specs.ReportedWays.{TellsOfListedWay, TellsOfWay}
use Rattle.regex_lite.proofs.ListBuildLemmas.{pattern_tree}
use Rattle.regex_lite.proofs.string.FoundLemmas.{found_lies}
use Rattle.regex_lite.proofs.string.ReportedLemmas.{same_pair}

module _ (whole : Bool) (bytes : List ℕ) (utf8 : IsUtf8 bytes) (start : ℕ) (re : Expression)
    (span : ℕ × ℕ) (slots : List (Option ℕ))
    (own : OfTree re (λ tree. IsSpanOutcomeAt whole tree bytes start slots (Some span))) where
  abbrev found : Found
  found = own.2.0

  span_is : offsets (chars bytes) (found.start, found.end) ≡ span
  span_is = same_pair (sym own.2.2.start) (sym own.2.2.end)

  -- the match lies in the haystack
  pub span_at_lies : LiesIn bytes span
  span_at_lies = subst (LiesIn bytes) span_is
      (found_lies bytes utf8 own.0 (re.flags, _, own.1) found own.2.1.of_way)

  -- it is what is returned
  pub match_at_reported : (m : Match) → haystack_of_match m ≡ bytes → span_of_match m ≡ span
      → TellsAnswerAt whole (λ tree. IsMatchOf bytes) re bytes start (Some m)
  match_at_reported m haystack is = (
    own.0,
    own.1,
    (found, own.2.1, record { haystack = haystack; span = is ∙ sym span_is }),
  )

  -- a way is reported
  pub way_at_reported : TellsOfWay re bytes span slots
  way_at_reported = record {
    tree = own.0;
    given = own.1;
    found = found;
    reported = record { of_way = own.2.1.of_way; tells = own.2.2 };
  }

-- the same of several patterns
module _ (whole : Bool) (bytes : List ℕ) (utf8 : IsUtf8 bytes) (start : ℕ)
    (list : List Expression) (trees : List Tree) (given : AreTrees list trees) (number : ℕ)
    (span : ℕ × ℕ) (slots : List (Option ℕ))
    (own : IsSpanOutcomeAtOfList whole trees bytes start slots (Some (number, span))) where
  abbrev found_of : Found
  found_of = own.0

  abbrev answer : IsFoundAtInList whole trees (chars bytes) (search_start bytes start) number
      found_of
  answer = own.1

  list_span_is : offsets (chars bytes) (found_of.start, found_of.end) ≡ span
  list_span_is = same_pair (sym own.2.start) (sym own.2.end)

  pub list_span_at_lies : LiesIn bytes span
  list_span_at_lies = subst (LiesIn bytes) list_span_is
      (found_lies bytes utf8 answer.tree
      (pattern_tree list trees given number answer.tree answer.numbered) found_of
      answer.answer.of_way)

  pub list_match_at_reported : (m : Match) → haystack_of_match m ≡ bytes → span_of_match m ≡ span
      → TellsAnswerAtOfList whole (λ tree. IsMatchOf bytes) list bytes start (Some (number, m))
  list_match_at_reported m haystack is = (
    trees,
    given,
    (
      (number, found_of),
      answer,
      record {
        number = refl;
        tree = answer.tree;
        numbered = answer.numbered;
        value = record { haystack = haystack; span = is ∙ sym list_span_is };
      },
    ),
  )

  pub listed_way_at_reported : TellsOfListedWay list bytes number span slots
  listed_way_at_reported = record {
    trees = trees;
    given = given;
    tree = answer.tree;
    numbered = answer.numbered;
    found = found_of;
    reported = record { of_way = answer.answer.of_way; tells = own.2 };
  }
