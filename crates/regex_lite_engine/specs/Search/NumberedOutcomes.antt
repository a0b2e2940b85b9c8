-- What a search over a table of numbered places returns, as offsets.
use Rattle.std.specs.Prelude.{◌≡◌, ◌≤◌, ℕ, Bool, true, false, List, Option, Some, None}
use Rattle.regex_lite_syntax.specs.Text.{Text}
use Rattle.regex_lite_engine.specs.declared.pikevm.thread_start.MatchStart.{MatchStart}
use Rattle.regex_lite_engine.specs.declared.search.outcome.Outcome.{Outcome}
use Rattle.regex_lite_engine.specs.Graph.Places.{Place}
use Rattle.regex_lite_engine.specs.Search.Answer.{Found}
use Rattle.regex_lite_engine.specs.Search.ThreadStarts.{Reported, IsReported, TellsStart}
use Rattle.regex_lite_engine.specs.Search.NumberedAnswer.{IsNumberedAnswer}
use Rattle.regex_lite_engine.specs.Search.NumberedList.{IsNumberedAnswerOf, IsWantedOfAny}
use Rattle.regex_lite_engine.specs.Search.NumberedList.{IsNumberedShortestOf, IsWantedAnswerTo}
use Rattle.regex_lite_engine.specs.Search.Offsets.{offset, HasSlots}
use Rattle.regex_lite_engine.specs.Search.Rows.{Row}

-- the best match so far: what is kept of its start, the offset of its end, and its row
abbrev pub Best : Type 0
Best = Option (Reported × ℕ × Row)

-- the match with this span and row
abbrev pub best_at : {X : Type 0} → Option (X × ℕ) → Row → Option (X × ℕ × Row)
best_at None row = None
best_at (Some found) row = Some (found.0, found.1, row)

-- the match that an outcome has
abbrev pub match_reported : Option Outcome → Option (ℕ × ℕ × Row)
match_reported None = None
match_reported (Some outcome) = Some (outcome.start, outcome.end, outcome.slots.items)

-- the match, if the start is kept
abbrev pub with_start_kept : Option (ℕ × ℕ × Row) → Best
with_start_kept None = None
with_start_kept (Some found) =
    Some (record { at = Some found.0; number = None }, found.1, found.2)

-- the match that an outcome of several patterns has, with the pattern's number
abbrev pub numbered_reported : Option (ℕ × Outcome) → Option (ℕ × ℕ × ℕ × Row)
numbered_reported None = None
numbered_reported (Some reported) = Some
    (reported.0, reported.1.start, reported.1.end, reported.1.slots.items)

-- the match with this span, of the pattern with this number, and with this row
abbrev pub numbered_at : Option (ℕ × (ℕ × ℕ)) → Row → Option (ℕ × ℕ × ℕ × Row)
numbered_at None row = None
numbered_at (Some reported) row = Some (reported.0, reported.1.0, reported.1.1, row)

-- the match, if the number and the start are kept
abbrev pub with_match_start_kept : Option (ℕ × ℕ × ℕ × Row) → Best
with_match_start_kept None = None
with_match_start_kept (Some (number, start, end, row)) =
    Some (record { at = Some start; number = Some number }, end, row)

-- the match with this start, this end and this row
abbrev pub best_kept : Option (MatchStart × ℕ) → Row → Best
best_kept None row = None
best_kept (Some found) row =
    Some (record { at = Some found.0.at; number = Some found.0.number }, found.1, row)

-- the span of a match
abbrev pub span_of : Option (MatchStart × ℕ) → Option (ℕ × ℕ)
span_of None = None
span_of (Some found) = Some (found.0.at, found.1)

-- the best match has the offsets of the answer, and its start if that is kept
abbrev pub IsBestOutcome : List (Place ℕ) → Text → (start s : ℕ) → Best → Type 0
IsBestOutcome table haystack start s None = IsNumberedAnswer table haystack start s None
IsBestOutcome table haystack start s (Some best) =
    (found : Found) × IsNumberedAnswer table haystack start s (Some found)
    × IsReported best.0.at (offset haystack found.start) × (best.1 ≡ offset haystack found.end)
    × HasSlots haystack best.2 found.marks

-- the best match has the offsets of the answer to a search for several patterns
abbrev pub IsBestOutcomeOf : List (Place ℕ) → Text → (entries : List ℕ) → (s : ℕ) → Best → Type 0
IsBestOutcomeOf table haystack entries s None = IsNumberedAnswerOf table haystack entries s None
IsBestOutcomeOf table haystack entries s (Some best) =
    (number : ℕ) × (found : Found)
    × IsNumberedAnswerOf table haystack entries s (Some (number, found))
    × TellsStart best.0 (offset haystack found.start) number × (best.1 ≡ offset haystack found.end)
    × HasSlots haystack best.2 found.marks

-- the best match has the offsets of the answer to a search for matches that are wanted and start at
-- position `last` at the latest
abbrev pub IsWantedOutcomeTo : List (Place ℕ) → Text → (entries : List ℕ) → (whole : Bool)
    → (s last : ℕ) → Best → Type 0
IsWantedOutcomeTo table haystack entries whole s last None =
    IsWantedAnswerTo table haystack entries whole s last None
IsWantedOutcomeTo table haystack entries whole s last (Some best) =
    (number : ℕ) × (found : Found)
    × IsWantedAnswerTo table haystack entries whole s last (Some (number, found))
    × TellsStart best.0 (offset haystack found.start) number × (best.1 ≡ offset haystack found.end)
    × HasSlots haystack best.2 found.marks

-- such a best match, if all matches are wanted
abbrev pub IsBestOutcomeTo : List (Place ℕ) → Text → (entries : List ℕ) → (s last : ℕ) → Best
    → Type 0
IsBestOutcomeTo table haystack entries = IsWantedOutcomeTo table haystack entries false

-- the match has all offsets of the answer
abbrev pub IsNumberedOutcome : List (Place ℕ) → Text → (start s : ℕ) → Option (ℕ × ℕ × Row)
    → Type 0
IsNumberedOutcome table haystack start s found =
    IsBestOutcome table haystack start s (with_start_kept found)

-- the match has the offset of the answer to a search of several patterns for the least end
abbrev pub IsNumberedEndOf : List (Place ℕ) → Text → (entries : List ℕ) → (s : ℕ) → Best → Type 0
IsNumberedEndOf table haystack entries s None = IsNumberedAnswerOf table haystack entries s None
IsNumberedEndOf table haystack entries s (Some best) =
    (end : ℕ) × IsNumberedShortestOf table haystack entries s end
    × (best.1 ≡ offset haystack end)

-- what is found is the most preferred match or, if `earliest`, a match with the least end, whose
-- start is meaningless
abbrev pub IsFoundOf : (earliest : Bool) → List (Place ℕ) → Text → (entries : List ℕ) → (s : ℕ)
    → Best → Type 0
IsFoundOf false table haystack entries s best = IsBestOutcomeOf table haystack entries s best
IsFoundOf true table haystack entries s best = IsNumberedEndOf table haystack entries s best

-- a match is found exactly if one that is wanted starts at position `last` at the latest; its
-- offsets are meaningless
abbrev pub IsAnyTo : List (Place ℕ) → Text → (entries : List ℕ) → (whole : Bool) → (s last : ℕ)
    → Best → Type 0
IsAnyTo table haystack entries whole s last None =
    IsWantedAnswerTo table haystack entries whole s last None
IsAnyTo table haystack entries whole s last (Some best) =
    (i k : ℕ) × (way : List ℕ) × (q j : ℕ) × (i ≤ last)
    × IsWantedOfAny table haystack entries whole s i k way q j

-- what is found is the most preferred such match or, if `earliest`, whether there is one
abbrev pub IsFoundTo : (earliest : Bool) → List (Place ℕ) → Text → (entries : List ℕ)
    → (whole : Bool) → (s last : ℕ) → Best → Type 0
IsFoundTo false table haystack entries whole s last best =
    IsWantedOutcomeTo table haystack entries whole s last best
IsFoundTo true table haystack entries whole s last best =
    IsAnyTo table haystack entries whole s last best
