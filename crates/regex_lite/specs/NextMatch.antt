-- What a search returns that continues after a match.
use Rattle.std.specs.Prelude.{◌≡◌, ℕ, suc, List, Option, Some, None, option_map}
use Rattle.regex_lite_engine.specs.Search.Answer.{Found}
use Rattle.regex_lite_engine.specs.Search.Offsets.{position_at, search_start}
use Rattle.regex_lite.specs.declared.string.matches.Match.{Match}
use Rattle.regex_lite.specs.MatchList.{IsNextAnswer}
use Rattle.regex_lite.specs.Ahead.{IsOnward}
use Rattle.regex_lite.specs.MatchViews.{span_of_match}
use Rattle.regex_lite.specs.Scanning.{IsMatchWithSlots}
use Rattle.regex_lite.specs.Searches.{CanStartAt}

-- what is returned of the answer after a match that ended at this offset: nothing if there is none,
-- and otherwise its match, with the number of the pattern. The match ends at the offset of the
-- answer's end, after this offset, and has these slots
module _ {A N : Type 0} (found_of : A → Found) (number_of : A → N)
    (Answers : (s : ℕ) → Option A → Type 0) (haystack : List ℕ) where
  abbrev pub TellsNextMatch : (ended : Option ℕ) → (slots : List (Option ℕ))
      → Option (N × Match) → Type 0
  TellsNextMatch ended slots None =
      IsNextAnswer found_of Answers (option_map (position_at haystack) ended) None
  TellsNextMatch ended slots (Some reported) =
      (answer : A)
      × IsNextAnswer found_of Answers (option_map (position_at haystack) ended) (Some answer)
      × IsMatchWithSlots found_of number_of haystack slots answer reported
      × (position_at haystack (span_of_match reported.1).1 ≡ (found_of answer).end)
      × IsOnward ended (span_of_match reported.1)

-- a search from this offset on is a search from the next position on
pub record IsNextOffset (haystack : List ℕ) (at next : ℕ) : Type 0 where
  pub can_start : CanStartAt haystack next
  pub starts : search_start haystack next ≡ suc (position_at haystack at)
