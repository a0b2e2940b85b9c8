-- A match whose span is known: where it starts is on a boundary, and none starts before it.
use Rattle.regex_lite_meta.proofs.Common.{ℕ, List, [], Some, IsUtf8, chars, IsCharBoundary, sym}
use Rattle.regex_lite_meta.proofs.Common.{subst, best_at, IsOffset, position_at}
use Rattle.regex_lite_engine.specs.Graph.Places.{Place}
use Rattle.regex_lite_engine.specs.Search.NumberedAnswer.{NoneStartsBefore}
use Rattle.regex_lite_engine.specs.Search.NumberedOutcomes.{IsNumberedOutcome}
use Rattle.regex_lite_engine.proofs.PositionLemmas.{position_of}
use Rattle.regex_lite_engine.proofs.OffsetLemmas.{boundary_at}

module _ (table : List (Place ℕ)) (entry : ℕ) (haystack : List ℕ) (utf8 : IsUtf8 haystack)
    (s : ℕ) (span : ℕ × ℕ)
    (is : IsNumberedOutcome table (chars haystack) entry s
    (best_at (Some span) [])) where
  -- what is found begins at the span's start
  is_start : IsOffset (chars haystack) is.0.start span.0
  is_start = (is.1.inside, is.2)

  pub boundary : IsCharBoundary haystack span.0
  boundary = boundary_at haystack is.0.start span.0 utf8 is_start

  pub none_before : NoneStartsBefore table (chars haystack) entry s
      (position_at haystack span.0)
  none_before =
      subst (NoneStartsBefore table (chars haystack) entry s)
      (sym (position_of haystack utf8 is.0.start span.0 is_start))
      (record { from = is.1.from; least = is.1.least })
