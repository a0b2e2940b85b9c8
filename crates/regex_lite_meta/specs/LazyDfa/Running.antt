-- A search with the lazy DFA, step by step.
use Rattle.std.specs.Prelude.{◌≡◌, ◌+◌, ◌-◌, ◌*◌, ◌≤◌, ℕ, List, []}
use Rattle.std.specs.Prelude.{MatchOption, Some, false, length}
use Rattle.regex_lite_syntax.specs.Text.{Text}
use Rattle.regex_lite_meta.specs.declared.lazy_dfa.run.Position.{Position}
use Rattle.regex_lite_meta.specs.declared.lazy_dfa.state.StoredWay.{StoredWay}
use Rattle.regex_lite_engine.specs.declared.pikevm.cache.Cache.{Cache}
use Rattle.regex_lite_engine.specs.Graph.Parts.{IsOwnPart}
use Rattle.regex_lite_engine.specs.Graph.Places.{Place}
use Rattle.regex_lite_engine.specs.Graph.Renumbered.{arrows_of}
use Rattle.regex_lite_meta.specs.LazyDfa.Automaton.{Automaton, IsEmptyState}
use Rattle.regex_lite_meta.specs.LazyDfa.Determinizing.{IsFirstStart, IsIn}
use Rattle.regex_lite_engine.specs.Search.ThreadStarts.{Reported}
use Rattle.regex_lite_engine.specs.Search.NumberedList.{IsMatchOfAny}
use Rattle.regex_lite_engine.specs.Pikevm.Machine.{Thread}
use Rattle.regex_lite_engine.specs.Pikevm.Passing.{HasSpentWithin}
use Rattle.regex_lite_engine.specs.Pikevm.Searching.{IsBetween}
use Rattle.regex_lite_engine.specs.Search.Here.{IsHere}
use Rattle.regex_lite_engine.specs.Pikevm.Stepping.{best_of, IsComing}

module _ (table : List (Place ℕ)) (haystack : Text) (entries : List ℕ) (s : ℕ) where
  -- position m is s or later, and no match of any pattern from s on starts before it
  pub record NoneStartsBeforeOf (m : ℕ) : Type 0 where
    pub from : s ≤ m
    pub least : (i k : ℕ) (way : List ℕ) (q j : ℕ)
        → IsMatchOfAny table haystack entries s i k way q j → m ≤ i

  -- a search from position s on, which began or began anew at `from`, has reached position p
  pub record IsOnItsWay {S : Type 0} (from p : ℕ) (cache : Cache S) : Type 0 where
    pub low : s ≤ p
    pub after : from ≤ p
    pub ready : IsBetween table cache
    pub coming : IsComing table haystack entries from (length haystack) p
        cache.walk.memory.threads (best_of cache.best)
    pub tries :
        cache.walk.steps.tried + length cache.walk.memory.threads
        ≤ (arrows_of table + length entries) * (p - s)
    pub entries_left : cache.walk.steps.entered ≤ length table * (p - s)
    pub width : length cache.walk.memory.row ≡ 0
    -- its cost is within the bounds of any part that has the patterns
    pub spent : (low len : ℕ) → IsOwnPart table entries low len
        → HasSpentWithin table haystack entries s low len p cache

  -- this is the search's position, and its state, if that is known
  pub record Stands {S : Type 0} (automaton : Automaton) (at : Position) (cache : Cache S)
      : Type 0 where
    pub p : ℕ
    pub is : IsHere haystack p at.here
    pub from : ℕ
    pub begun : NoneStartsBeforeOf from
    pub own_from : at.anew ≡ false → from ≡ s
    pub on : IsOnItsWay from p cache
    pub first : at.first ≤ at.here.at
    pub own : IsFirstStart at.first at.here.at cache.walk.memory.threads
    pub state : MatchOption at.state (Unit {0})
        (λ x. IsIn automaton x at.first at.here.before cache)

-- what a search keeps of a path of this pattern that began at the offset
abbrev pub started_at : (at number : ℕ) → Reported
started_at at number = record { at = Some at; number = Some number }

-- the thread of a way that began at the first start
abbrev pub thread_from : (first : ℕ) → StoredWay → Thread
thread_from first way = (way.place, started_at first way.number, [])

-- the memory and the counts are unchanged, except for the threads and the match
pub record GoesOnWith {S : Type 0} (old new : Cache S) : Type 0 where
  pub steps : new.walk.steps ≡ old.walk.steps
  pub entered : length new.walk.memory.entered ≡ length old.walk.memory.entered
  pub room : new.walk.memory.room ≡ old.walk.memory.room
  pub row : length new.walk.memory.row ≡ length old.walk.memory.row
  pub frames : new.walk.memory.frames ≡ []
  pub next : new.walk.memory.next ≡ []
  pub best_row : length new.best.row ≡ length old.best.row

-- this is the search's position, in the start state, if that is cached
pub record StandsAtStartState (automaton : Automaton) (before at : Position) : Type 0 where
  pub here_is : at.here ≡ before.here
  pub same : at.anew ≡ before.anew
  pub first : at.first ≡ at.here.at
  pub state : MatchOption at.state (Unit {0}) (λ x. IsEmptyState automaton x at.here.before)
