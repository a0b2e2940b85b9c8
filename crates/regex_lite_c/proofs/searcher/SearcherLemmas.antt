-- What a searcher with a text returns of its text.
use Rattle.regex_lite_c.proofs.Common.{◌≡◌, ℕ, ◌≤◌, List, IsUtf8, IsCharBoundary, length, chars}
use Rattle.regex_lite_c.proofs.Common.{Option, Some, sym, refl, ap, ◌∙◌, inl, arith, subst, Expression}
use Rattle.regex_lite_c.proofs.Common.{NO, YES}
use Rattle.regex_lite_c.proofs.Common.{None, span_of, Span, true, false}
use Rattle.std.proofs.Common.{◌≢◌, ◌↔◌, Bool, IsTrue, MatchOption, cond}
use Rattle.std.proofs.lemmas.Bool.{false≢true}
use Rattle.regex_lite.specs.MatchViews.{span_of_match}
use Rattle.regex_lite_syntax.specs.Tree.{Tree}
use Rattle.regex_lite_syntax.specs.Tree.Properties.{captures_len}
use Rattle.regex_lite_engine.specs.Search.Answer.{Found, IsAnswer}
use Rattle.regex_lite_engine.specs.Search.AnswerAt.{IsAnswerAt}
use Rattle.regex_lite_engine.specs.Search.Offsets.{search_start}
use Rattle.regex_lite.specs.Anchored.{TellsLocationsAt}
use Rattle.regex_lite.specs.declared.string.matches.Match.{Match}
use Rattle.regex_lite.specs.Expression.{OfTree}
use Rattle.regex_lite.specs.Searches.{CanRead, IsMatchOf, TellsLocations, spans_from}
use Rattle.regex_lite.proofs.OneTreeLemmas.{of_both}
use Rattle.regex_lite_c.specs.Answers.{IsSearchAnswer}
use Rattle.regex_lite_c.specs.SearcherAnswers.{TellsSpans, TellsSpansAt}
use Rattle.regex_lite_c.specs.Searchers.{HasEachGroup, TextSearch}
use Rattle.regex_lite_c.proofs.AnswerLemmas.{nothing_refused}

-- a searcher of these parts
abbrev pub text_search : Expression → List ℕ → TextSearch
text_search re text = record { re = re; text = text }

-- the answer is yes or no, of a text that can be searched
pub answered : {yes no : Type 0} (bytes : List ℕ) (start answer : ℕ) → IsUtf8 bytes
    → IsCharBoundary bytes start → answer ≤ YES → (answer ≡ YES → yes) → (answer ≡ NO → no)
    → IsSearchAnswer bytes start answer yes no
answered bytes start answer utf8 boundary few found none = record {
  found = found;
  none = none;
  refused = nothing_refused bytes start answer utf8 boundary (inl few);
  one_of = inl few;
}

-- it says whether this is so
pub said : {P : Type 0} (bytes : List ℕ) (start answer : ℕ) (is_so : Bool) → IsUtf8 bytes
    → IsCharBoundary bytes start → answer ≡ cond is_so YES NO → IsTrue is_so ↔ P
    → IsSearchAnswer bytes start answer P (P → ⊥)
said bytes start answer true utf8 boundary is iff =
    answered bytes start answer utf8 boundary (omega (arith, is)) (λ _. iff.0 refl)
    (λ no. absurd (omega (arith, is, no)))
said bytes start answer false utf8 boundary is iff =
    answered bytes start answer utf8 boundary (omega (arith, is))
    (λ yes. absurd (omega (arith, is, yes))) (λ _ so. false≢true (iff.1 so))

-- the span of a match was written, if there was one
abbrev pub IsMatchWritten : Option Match → (old new : Span) → (answer : ℕ) → Type 0
IsMatchWritten found old new answer =
    MatchOption found ((answer ≡ NO) × (new ≡ old))
    (λ m. (answer ≡ YES) × (new ≡ span_of (Some (span_of_match m))))

pub one_of_two : (found : Option Match) (old new : Span) (answer : ℕ)
    → IsMatchWritten found old new answer → (answer ≤ YES) × (answer ≢ YES → new ≡ old)
one_of_two None old new answer (is_no, same) = (omega (arith, is_no), λ _. same)
one_of_two (Some m) old new answer (is_yes, is) =
    (omega (arith, is_yes), λ wrong. absurd (wrong is_yes))

-- so the answer is that of a search which finds this match
pub match_answered : (Tells : Option Match → Type 0) (Finds : Span → Type 0) (none : Type 0)
    (bytes : List ℕ) (start : ℕ) (found : Option Match) (old new : Span) (answer : ℕ)
    → IsUtf8 bytes → IsCharBoundary bytes start → (Tells None → none)
    → ((m : Match) → Tells (Some m) → new ≡ span_of (Some (span_of_match m)) → Finds new)
    → Tells found → IsMatchWritten found old new answer
    → IsSearchAnswer bytes start answer (Finds new) none
match_answered Tells Finds none bytes start None old new answer utf8 boundary nothing finds tells
    (is_no, same) =
    answered bytes start answer utf8 boundary (omega (arith, is_no))
    (λ is_yes. absurd (omega (arith, is_no, is_yes))) (λ _. nothing tells)
match_answered Tells Finds none bytes start (Some m) old new answer utf8 boundary nothing finds
    tells (is_yes, is) =
    answered bytes start answer utf8 boundary (omega (arith, is_yes)) (λ _. finds m tells is)
    (λ is_no. absurd (omega (arith, is_no, is_yes)))

-- locations with one span for each group can be read to
pub can_read : (re : Expression) (spans : List (Option (ℕ × ℕ))) → HasEachGroup re spans
    → CanRead re spans
can_read re spans (tree, are, each) = (tree, are, omega (arith, each))

-- the spans of the first groups of what is found, this many, are those of all groups
module _ (re : Expression) (haystack : List ℕ) (Says : Tree → Found → Type 0) where
  -- what is found, of which these are the spans of the first groups
  abbrev FindsFirst : (spans : List (Option (ℕ × ℕ))) → Match → Tree → Type 0
  FindsFirst spans m tree =
      (found : Found) × Says tree found × (IsMatchOf haystack found m
      × (spans ≡ spans_from (chars haystack) found.marks 0 (length spans)))

  -- or of all
  abbrev FindsAll : (spans : List (Option (ℕ × ℕ))) → Tree → Type 0
  FindsAll spans tree =
      (found : Found) × Says tree found
      × (spans ≡ spans_from (chars haystack) found.marks 0 (captures_len tree))

  all_of_tree : (spans : List (Option (ℕ × ℕ))) (m : Match)
      → OfTree re (λ tree. (length spans ≡ captures_len tree) × FindsFirst spans m tree)
      → OfTree re (FindsAll spans)
  all_of_tree spans m (tree, are, (each, (found, says, reported))) = (
    tree,
    are,
    (found, says, reported.1 ∙ ap (λ n. spans_from (chars haystack) found.marks 0 n) each),
  )

  all_spans : (spans : List (Option (ℕ × ℕ))) (m : Match) → HasEachGroup re spans
      → OfTree re (FindsFirst spans m) → OfTree re (FindsAll spans)
  all_spans spans m each reported =
      all_of_tree spans m (of_both re (λ tree. length spans ≡ captures_len tree)
      (FindsFirst spans m) each reported)

-- so locations with a span for each group tell the spans of all groups
pub tells_spans : (re : Expression) (haystack : List ℕ) (start : ℕ)
    (spans : List (Option (ℕ × ℕ))) (m : Match) → HasEachGroup re spans
    → TellsLocations re haystack start spans (Some m) → TellsSpans re haystack start (Some spans)
tells_spans re haystack start spans m each reported =
    all_spans re haystack
    (λ tree found. IsAnswer tree (chars haystack) (search_start haystack start) (Some found))
    spans m each reported

-- the same where the match starts at the offset
pub tells_spans_at : (re : Expression) (haystack : List ℕ) (start : ℕ)
    (spans : List (Option (ℕ × ℕ))) (m : Match) → HasEachGroup re spans
    → TellsLocationsAt re haystack start spans (Some m)
    → TellsSpansAt re haystack start (Some spans)
tells_spans_at re haystack start spans m each reported =
    all_spans re haystack
    (λ tree found. IsAnswerAt false tree (chars haystack) (search_start haystack start)
    (Some found)) spans m each reported

-- what is so of a searcher's parts, and of its text as it was read, is so of the searcher
pub of_own : (P : Expression → List ℕ → Type 0) (own : TextSearch) (re : Expression)
    (read text : List ℕ) → text_search re text ≡ own → read ≡ text → P re read
    → P own.re own.text
of_own P own re read text is same given =
    subst (λ (o : TextSearch). P o.re o.text) is (subst (P re) same given)

-- as many spans for the same pattern are one for each group still
pub still_each : (old new : Expression) (before after : List (Option (ℕ × ℕ)))
    → HasEachGroup old before → new ≡ old → length after ≡ length before
    → HasEachGroup new after
still_each old new before after (tree, are, each) same len =
    subst (λ (re : Expression). HasEachGroup re after) (sym same) (tree, are, len ∙ each)
