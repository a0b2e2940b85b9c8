-- Invariants of a search whose transitions are cached.
use Rattle.std.specs.Prelude.{◌≡◌, ◌⊎◌, ℕ, Bool, true, List, [], ◌∷◌, slice_get, Option, None}
use Rattle.std.specs.Prelude.{Some}
use Rattle.regex_lite_syntax.specs.Text.{Text}
use Rattle.regex_lite_engine.specs.declared.search.here.Here.{Here}
use Rattle.regex_lite_engine.specs.declared.search.patterns.Start.{Start}
use Rattle.regex_lite_engine.specs.declared.pikevm.cache.Cache.{Cache}
use Rattle.regex_lite_engine.specs.Graph.Places.{Place}
use Rattle.regex_lite_meta.specs.LazyDfa.Automaton.{Automaton, State, Suits, ways_of}
use Rattle.regex_lite_meta.specs.LazyDfa.Intervals.{context_of}
use Rattle.regex_lite_engine.specs.Search.ThreadStarts.{Reported, TellsStart}
use Rattle.regex_lite_engine.specs.Pikevm.Machine.{Thread}
use Rattle.regex_lite_engine.specs.Pikevm.Searching.{IsMatchFlag, StepsAgain}
use Rattle.regex_lite_engine.specs.Search.Here.{IsHere}
use Rattle.regex_lite_engine.specs.Pikevm.Stepping.{best_of}
use Rattle.regex_lite_engine.specs.Search.NumberedOutcomes.{Best}
use Rattle.regex_lite_engine.specs.Search.Starts.{AreStartsAt}

-- the first start is the position itself if there is no thread, and otherwise another offset
abbrev pub IsFirstStart : (first at : ℕ) → List Thread → Type 0
IsFirstStart first at [] = first ≡ at
IsFirstStart first at (thread ∷ threads) = first ≡ at → ⊥

-- the first start after a transition at the offset: the one before, or the offset if there is no
-- match
abbrev pub IsFirstAfterTransition : (before at : ℕ) → Best → (first : ℕ) → Type 0
IsFirstAfterTransition before at best first = (first ≡ before) ⊎ ((first ≡ at) × (best ≡ None))

-- none of the threads began at the offset, as far as their starts are known
abbrev pub NoneBegan : (at : ℕ) → List Thread → Type 0
NoneBegan at [] = Unit {0}
NoneBegan at (thread ∷ threads) = (thread.1.at ≡ Some at → ⊥) × NoneBegan at threads

-- the search is in this state, after this character
pub record IsIn {S : Type 0} (automaton : Automaton) (x : ℕ) (first : ℕ) (before : Option ℕ)
    (cache : Cache S) : Type 0 where
  pub state : State
  pub is_state : slice_get automaton.states x ≡ Some state
  pub ways : ways_of first cache.walk.memory.threads ≡ state.ways
  pub suits : Suits state.searching (best_of cache.best)
  pub sees : automaton.intervals.looks ≡ true → context_of before ≡ state.before

-- the search in the cache has taken a step from this state
pub record HasStepped {S : Type 0} (table : List (Place ℕ)) (entries : List ℕ)
    (automaton : Automaton) (x first : ℕ) (here : Here) (match_flag : Bool) (now : Cache S) : Type 0
  where
    pub before : Cache S
    pub starts : List Start
    pub reported : ℕ → Reported
    pub is_in : IsIn automaton x first here.before before
    pub again : StepsAgain table starts here reported before now match_flag
    pub is_match_flag : IsMatchFlag match_flag (best_of before.best) (best_of now.best)
    pub tells : (number : ℕ) → TellsStart (reported number) here.at number
    pub is_first : IsFirstStart first here.at before.walk.memory.threads
    pub earlier : best_of before.best ≡ None → NoneBegan here.at before.walk.memory.threads
    -- the starts suffice at every position
    pub suffice : (haystack : Text) (p : ℕ) (there : Here) → IsHere haystack p there
        → AreStartsAt table haystack entries p starts
