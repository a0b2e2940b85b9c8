-- What a pass over a haystack for all patterns of a list knows about each of them.
use Rattle.std.specs.Prelude.{◌≡◌, ◌+◌, ◌<◌, ◌↔◌, ◌∷◌, [], ℕ, Bool, List, IsCharBoundary, IsTrue}
use Rattle.std.specs.Prelude.{chars, length, slice_index, slice_index_or, Option, Some, None}
use Rattle.regex_lite_engine.specs.declared.search.here.Here.{Here}
use Rattle.regex_lite_engine.specs.Graph.Places.{Place}
use Rattle.regex_lite_engine.specs.Graph.StoredList.{StoredList, table_of_list}
use Rattle.regex_lite_engine.specs.Search.NumberedAnswer.{NoneStartsBefore}
use Rattle.regex_lite_engine.specs.Search.Offsets.{position_at}
use Rattle.regex_lite_engine.specs.Search.Here.{IsHere}
use Rattle.regex_lite_meta.specs.AnyOfOne.{HasMatchOfAny}
use Rattle.regex_lite_meta.specs.declared.list_matches.pass.ListPass.{ListPass}
use Rattle.regex_lite_meta.specs.declared.list_matches.status.Status.{Status}
use Rattle.regex_lite_meta.specs.declared.list_matches.status.Status.TheVariants.{Known, Open}
use Rattle.regex_lite_meta.specs.declared.list_matches.status.Status.TheVariants.{Left}
use Rattle.regex_lite_meta.specs.declared.list_matches.status.Rest.{Rest}
use Rattle.regex_lite_meta.specs.declared.list_matches.status.Rest.TheVariants as rest

-- definitions for the pattern with this entry
module _ (table : List (Place ℕ)) (bytes : List ℕ) (entry : ℕ) where
  -- the result says whether the pattern has a match that starts at position s or later
  abbrev pub IsReportedFrom : (s : ℕ) → (reported : Bool) → Type 0
  IsReportedFrom s reported = IsTrue reported ↔ HasMatchOfAny table (chars bytes) (entry ∷ []) s

  -- no match of the pattern from position s on starts before the offset
  pub record StartsNoSooner (s at : ℕ) : Type 0 where
    pub boundary : IsCharBoundary bytes at
    pub none : NoneStartsBefore table (chars bytes) entry s (position_at bytes at)

  -- a pass from position s on that has reached position q knows this about the pattern
  abbrev pub PassKnows : (s q : ℕ) → Status → Type 0
  PassKnows s q (Known reported) = IsReportedFrom s reported
  PassKnows s q (Open at) =
      StartsNoSooner s at × NoneStartsBefore table (chars bytes) entry s q
  PassKnows s q (Left at) = StartsNoSooner s at

  -- what is left to do for the pattern
  abbrev pub IsRest : (s : ℕ) → Rest → Type 0
  IsRest s (rest.Known reported) = IsReportedFrom s reported
  IsRest s (rest.From at) = StartsNoSooner s at

-- the pass has this status for each pattern
pub record PassKnowsAll (list : StoredList) (bytes : List ℕ) (s q : ℕ) (statuses : List Status)
    : Type 0 where
  pub all : length statuses ≡ length list.entries
  pub each : (number : ℕ) → number < length list.entries
      → PassKnows (table_of_list list) bytes (slice_index list.entries number) s q
      (slice_index_or statuses number (Left 0))

-- the pass was abandoned at this position, or reached the haystack's end and included it
abbrev pub EndsPass : StoredList → (bytes : List ℕ) → (s : ℕ) → List Status → Option Here
    → Type 0
EndsPass list bytes s statuses None = PassKnowsAll list bytes s (length (chars bytes) + 1) statuses
EndsPass list bytes s statuses (Some here) =
    (q : ℕ) × IsHere (chars bytes) q here × PassKnowsAll list bytes s q statuses

-- the pass is one for the patterns of this list
pub record IsPassOf (list : StoredList) (pass : ListPass) : Type 0 where
  pub table : table_of_list pass.patterns.list.now ≡ table_of_list list
  pub entries : pass.patterns.list.now.entries ≡ list.entries
  pub all : length pass.statuses.items ≡ length list.entries
