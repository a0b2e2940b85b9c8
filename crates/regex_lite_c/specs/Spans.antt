-- What a caller's spans stand for.
use Rattle.std.specs.Prelude.{◌≡◌, ◌⊎◌, ◌+◌, ◌<◌, ◌≤◌, ℕ, List, Option, Some}
use Rattle.std.specs.Prelude.{None, chars, false, length, option_map, slice_get, true}
use Rattle.regex_lite.specs.Expression.{Expression}
use Rattle.regex_lite.specs.Groups.{Groups}
use Rattle.regex_lite.specs.Searches.{TellsAnswer, TellsGroups, offsets}
use Rattle.regex_lite_c.specs.declared.types.Span.{Span}

-- the span that stands for a part of a text, from one offset to another, or for none
abbrev pub span_of : Option (ℕ × ℕ) → Span
span_of None = record { is_there = false; start = 0; end = 0 }
span_of (Some part) = record { is_there = true; start = part.0; end = part.1 }

-- a search for the pattern from this offset on returns the span of its match
abbrev pub TellsSpan : Expression → (haystack : List ℕ) → (start : ℕ) → Option (ℕ × ℕ) → Type 0
TellsSpan re haystack start reported =
    TellsAnswer (λ tree found span. span ≡ offsets (chars haystack) (found.start, found.end))
    re haystack start reported

-- the search finds a match with this span
abbrev pub FindsSpan : Expression → (haystack : List ℕ) → (start : ℕ) → Span → Type 0
FindsSpan re haystack start span =
    (reported : ℕ × ℕ) × TellsSpan re haystack start (Some reported)
    × (span ≡ span_of (Some reported))

-- these values were written to the front of the buffer, each as what stands for it, and nothing
-- after them
pub record AreWrittenAs {X Y : Type 0} (stands_for : Y → X) (reported : List Y) (old new : List X)
    : Type 0 where
  pub each : (k : ℕ) → k < length reported
      → slice_get new k ≡ option_map stands_for (slice_get reported k)
  pub rest : (k : ℕ) → length reported ≤ k → slice_get new k ≡ slice_get old k

-- these spans were written to the front of the buffer, and nothing after them
abbrev pub AreWritten : (reported : List (Option (ℕ × ℕ))) → (old new : List Span) → Type 0
AreWritten reported old new = AreWrittenAs span_of reported old new

-- these spans were written from this index on, and nothing before and after them
pub record AreWrittenAt (at : ℕ) (reported : List (Option (ℕ × ℕ))) (old new : List Span)
    : Type 0 where
  pub each : (k : ℕ) → k < length reported
      → slice_get new (at + k) ≡ option_map span_of (slice_get reported k)
  pub rest : (k : ℕ) → (k < at) ⊎ (at + length reported ≤ k) → slice_get new k ≡ slice_get old k

-- these are the groups of the match that starts first from this offset on, `count` of them
abbrev pub AreFirstGroups : Expression → (haystack : List ℕ) → (start : ℕ) → (count : ℕ) → Groups
    → Type 0
AreFirstGroups re haystack start count groups =
    TellsGroups re haystack start (Some groups) × (count ≡ length groups.spans)
