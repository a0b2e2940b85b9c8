-- Texts one after another, and what is returned of each.
use Rattle.regex_lite_c.proofs.Common.{◌≡◌, ℕ, ◌+◌, ◌<◌, ◌≤◌, List, [], ◌∷◌, ◌++◌}
use Rattle.regex_lite_c.proofs.Common.{length, get_or, drop, slice_set, Some, None, Option}
use Rattle.regex_lite_c.proofs.Common.{option_map, IsCharBoundary, sym, refl, ap, ◌∙◌, subst}
use Rattle.regex_lite_c.proofs.Common.{append_assoc, append-nil, arith, length-append, Expression}
use Rattle.regex_lite_c.proofs.Common.{span_of, AreWritten, Span}
use Rattle.std.proofs.Common.{add-one, drop-cons, slice_range}
use Rattle.std.proofs.lemmas.List.{drop_all}
use Rattle.regex_lite.specs.declared.string.matches.Match.{Match}
use Rattle.regex_lite.specs.MatchViews.{span_of_match}
use Rattle.regex_lite.specs.Searches.{TellsMatch}
use Rattle.regex_lite_c.specs.Each.{AreFirstOfEach, AreFoundEach, AreTextLengths}
use Rattle.regex_lite_c.specs.Spans.{FindsSpan, TellsSpan}
use Rattle.regex_lite_c.proofs.walk.WalkLemmas.{written_more}

-- the length at an index comes first in what is left from there on
pub len_at : (lens : List ℕ) (k : ℕ) → k < length lens
    → drop k lens ≡ get_or lens k 0 ∷ drop (k + 1) lens
len_at lens k less =
    drop-cons lens k 0 less ∙ ap (λ n. get_or lens k 0 ∷ drop n lens) (sym (add-one k))

-- a match that is the answer has the span of the answer
pub tells_span : (re : Expression) (haystack : List ℕ) (start : ℕ) (found : Option Match)
    → TellsMatch re haystack start found
    → TellsSpan re haystack start (option_map span_of_match found)
tells_span re haystack start None tells = tells
tells_span re haystack start (Some m) (tree, is, (found, answer, is_match)) =
    (tree, is, (found, answer, is_match.span))

-- so the search finds it
pub finds_span : (re : Expression) (haystack : List ℕ) (start : ℕ) (found : Match) (span : Span)
    → TellsMatch re haystack start (Some found) → span ≡ span_of (Some (span_of_match found))
    → FindsSpan re haystack start span
finds_span re haystack start found span tells is =
    (span_of_match found, tells_span re haystack start (Some found) tells, is)

-- this many texts were searched
pub record AreSearched (re : Expression) (bytes lens : List ℕ) (at k : ℕ) (old new : List Span)
    : Type 0 where
  pub reported : List (Option (ℕ × ℕ))
  pub number : length reported ≡ k
  pub lengths : AreTextLengths bytes at (drop k lens)
  pub on : (more : List (Option (ℕ × ℕ))) → AreFirstOfEach re bytes at (drop k lens) more
      → AreFirstOfEach re bytes 0 lens (reported ++ more)
  pub written : AreWritten reported old new

pub none_searched : (re : Expression) (bytes lens : List ℕ) (old : List Span)
    → AreTextLengths bytes 0 lens → AreSearched re bytes lens 0 0 old old
none_searched re bytes lens old are = record {
  reported = [];
  number = refl;
  lengths = are;
  on = λ more is. is;
  written = record { each = λ k lt. absurd (omega (arith, lt)); rest = λ k le. refl };
}

-- the next ends between two characters
pub next_ends : (re : Expression) (bytes lens : List ℕ) (at k : ℕ) (old new : List Span)
    → AreSearched re bytes lens at k old new → k < length lens
    → IsCharBoundary bytes (at + get_or lens k 0)
next_ends re bytes lens at k old new so less =
    (subst (AreTextLengths bytes at) (len_at lens k less) so.lengths).0

-- one more was searched
pub one_searched : (re : Expression) (bytes lens : List ℕ) (at k : ℕ) (old new : List Span)
    (span : Span) (reported : Option (ℕ × ℕ))
    → AreSearched re bytes lens at k old new → k < length lens → k < length new
    → TellsSpan re (slice_range bytes at (at + get_or lens k 0)) 0 reported → span ≡ span_of
    reported → AreSearched re bytes lens (at + get_or lens k 0) (k + 1) old (slice_set new k span)
one_searched re bytes lens at k old new span reported so less buffer tells is =
    let next = len_at lens k less in
    record {
      reported = so.reported ++ (reported ∷ []);
      number = omega (arith, length-append so.reported (reported ∷ []), so.number);
      lengths = (subst (AreTextLengths bytes at) next so.lengths).1;
      on = λ more are.
          subst (AreFirstOfEach re bytes 0 lens)
          (sym (append_assoc so.reported (reported ∷ []) more)) (so.on (reported ∷ more)
          (subst (λ ns. AreFirstOfEach re bytes at ns (reported ∷ more)) (sym next) (tells, are)));
      written = written_more span_of so.reported reported old new k span so.written so.number buffer
          is;
    }

-- all were searched
pub all_searched : (re : Expression) (bytes lens : List ℕ) (at k : ℕ) (old new : List Span)
    → AreSearched re bytes lens at k old new → length lens ≤ k → AreFoundEach re bytes lens old new
all_searched re bytes lens at k old new so past = (
  so.reported,
  subst (AreFirstOfEach re bytes 0 lens) (append-nil so.reported)
      (so.on [] (subst (λ ns. AreFirstOfEach re bytes at ns []) (sym (drop_all k lens past)) refl)),
  so.written,
)
