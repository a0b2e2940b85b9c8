-- What a search returns, as offsets.
use Rattle.std.specs.Prelude.{◌≡◌, ℕ, Bool, List, [], Option, Some, None, chars}
use Rattle.regex_lite_syntax.specs.Text.{Text}
use Rattle.regex_lite_syntax.specs.Tree.{Tree}
use Rattle.regex_lite_engine.specs.declared.search.outcome.Outcome.{Outcome}
use Rattle.regex_lite_engine.specs.Graph.PlaceCounts.{whole_places, whole_arrows}
use Rattle.regex_lite_engine.specs.Search.Answer.{Found, IsAnswer, IsShortest}
use Rattle.regex_lite_engine.specs.Graph.SideBySide.{places_of_all, tries_of_all}
use Rattle.regex_lite_engine.specs.Search.AnswerAt.{IsAnswerAt, IsAnswerAtOfList}
use Rattle.regex_lite_engine.specs.Search.AnswerOfList.{IsAnswerOfList}
use Rattle.regex_lite_engine.specs.Search.Bounds.{StepCounts, IsBounded, IsBoundedBy}
use Rattle.regex_lite_engine.specs.Search.Offsets.{offset, search_start, HasSlots}

-- the span and the slots have the offsets of what was found
pub record TellsFound (haystack : Text) (found : Found) (span : ℕ × ℕ) (held : List (Option ℕ))
    : Type 0 where
  pub start : span.0 ≡ offset haystack found.start
  pub end : span.1 ≡ offset haystack found.end
  pub slots : HasSlots haystack held found.marks

-- the span that a search finds, and its slots, are those of an answer
abbrev pub IsSpanOf : (Answers : Option Found → Type 0) → (haystack : List ℕ)
    → (slots : List (Option ℕ)) → Option (ℕ × ℕ) → Type 0
IsSpanOf Answers haystack slots None = Answers None
IsSpanOf Answers haystack slots (Some span) =
    (found : Found) × Answers (Some found) × TellsFound (chars haystack) found span slots

-- the span and the slots are those of the answer from an offset on
abbrev pub IsSpanOutcome : Tree → (haystack : List ℕ) → (start : ℕ) → (slots : List (Option ℕ))
    → Option (ℕ × ℕ) → Type 0
IsSpanOutcome tree haystack start =
    IsSpanOf (IsAnswer tree (chars haystack) (search_start haystack start)) haystack

-- the span and the slots are those of the answer of an anchored search at an offset
abbrev pub IsSpanOutcomeAt : (whole : Bool) → Tree → (haystack : List ℕ) → (start : ℕ)
    → (slots : List (Option ℕ)) → Option (ℕ × ℕ) → Type 0
IsSpanOutcomeAt whole tree haystack start =
    IsSpanOf (IsAnswerAt whole tree (chars haystack) (search_start haystack start)) haystack

-- the outcome of a search is that of its answer
abbrev pub IsOutcome : Tree → (haystack : List ℕ) → (start : ℕ) → Option Outcome → Type 0
IsOutcome tree haystack start None = IsSpanOutcome tree haystack start [] None
IsOutcome tree haystack start (Some outcome) =
    IsSpanOutcome tree haystack start outcome.slots.items (Some (outcome.start, outcome.end))

-- the outcome of an anchored search is that of its answer
abbrev pub IsOutcomeAt : (whole : Bool) → Tree → (haystack : List ℕ) → (start : ℕ)
    → Option Outcome → Type 0
IsOutcomeAt whole tree haystack start None = IsSpanOutcomeAt whole tree haystack start [] None
IsOutcomeAt whole tree haystack start (Some outcome) =
    IsSpanOutcomeAt whole tree haystack start outcome.slots.items
    (Some (outcome.start, outcome.end))

-- the outcome of a search for the least end is the offset of its answer
abbrev pub IsEndOutcome : Tree → (haystack : List ℕ) → (start : ℕ) → Option ℕ → Type 0
IsEndOutcome tree haystack start None =
    IsShortest tree (chars haystack) (search_start haystack start) None
IsEndOutcome tree haystack start (Some at) =
    (end : ℕ) × IsShortest tree (chars haystack) (search_start haystack start) (Some end)
    × (at ≡ offset (chars haystack) end)

-- the cost of a search of the tree's graph is within the bounds
abbrev pub HasCost : Tree → (haystack : List ℕ) → (start : ℕ) → StepCounts → Type 0
HasCost tree haystack start steps =
    IsBounded (whole_places tree) (whole_arrows tree) (chars haystack)
    (search_start haystack start) steps.tried steps.entered steps.looked

-- the number and the span that a search for several patterns finds, and its slots, are those of an
-- answer of the list: the number of a pattern, and what was found of it
abbrev pub IsNumberedSpanOf : (Answers : Option (ℕ × Found) → Type 0) → (haystack : List ℕ)
    → (slots : List (Option ℕ)) → Option (ℕ × (ℕ × ℕ)) → Type 0
IsNumberedSpanOf Answers haystack slots None = Answers None
IsNumberedSpanOf Answers haystack slots (Some reported) =
    (found : Found) × Answers (Some (reported.0, found))
    × TellsFound (chars haystack) found reported.1 slots

-- the number, the span and the slots are those of the answer from an offset on
abbrev pub IsSpanOutcomeOfList : List Tree → (haystack : List ℕ) → (start : ℕ)
    → (slots : List (Option ℕ)) → Option (ℕ × (ℕ × ℕ)) → Type 0
IsSpanOutcomeOfList trees haystack start =
    IsNumberedSpanOf (IsAnswerOfList trees (chars haystack) (search_start haystack start)) haystack

-- the number, the span and the slots are those of the answer of an anchored search at an offset
abbrev pub IsSpanOutcomeAtOfList : (whole : Bool) → List Tree → (haystack : List ℕ)
    → (start : ℕ) → (slots : List (Option ℕ)) → Option (ℕ × (ℕ × ℕ)) → Type 0
IsSpanOutcomeAtOfList whole trees haystack start =
    IsNumberedSpanOf (IsAnswerAtOfList whole trees (chars haystack) (search_start haystack start))
    haystack

-- the outcome of a search for several patterns is that of its answer
abbrev pub IsOutcomeOfList : List Tree → (haystack : List ℕ) → (start : ℕ) → Option (ℕ × Outcome)
    → Type 0
IsOutcomeOfList trees haystack start None = IsSpanOutcomeOfList trees haystack start [] None
IsOutcomeOfList trees haystack start (Some reported) =
    IsSpanOutcomeOfList trees haystack start reported.1.slots.items
    (Some (reported.0, (reported.1.start, reported.1.end)))

-- the outcome of an anchored search for several patterns is that of its answer
abbrev pub IsOutcomeAtOfList : (whole : Bool) → List Tree → (haystack : List ℕ) → (start : ℕ)
    → Option (ℕ × Outcome) → Type 0
IsOutcomeAtOfList whole trees haystack start None =
    IsSpanOutcomeAtOfList whole trees haystack start [] None
IsOutcomeAtOfList whole trees haystack start (Some reported) =
    IsSpanOutcomeAtOfList whole trees haystack start reported.1.slots.items
    (Some (reported.0, (reported.1.start, reported.1.end)))

-- the cost of a search of the graph of these trees is within the bounds
abbrev pub HasCostOfList : List Tree → (haystack : List ℕ) → (start : ℕ) → StepCounts → Type 0
HasCostOfList trees haystack start steps =
    IsBoundedBy (places_of_all trees) (tries_of_all trees) (chars haystack)
    (search_start haystack start) steps.tried steps.entered steps.looked
