-- The lazy DFA: its states, and the transitions between them.
use Rattle.std.specs.Prelude.{◌≡◌, ◌+◌, ◌<◌, ◌≤◌, ◌==◌, ℕ, Bool, true, false, List, []}
use Rattle.std.specs.Prelude.{map, length, slice_get, slice_index, IfSome, Option, Some, None}
use Rattle.regex_lite_syntax.specs.Text.{Text}
use Rattle.regex_lite_meta.specs.declared.lazy_dfa.state.LookContext.{LookContext}
use Rattle.regex_lite_engine.specs.declared.search.here.Here.{Here}
use Rattle.regex_lite_engine.specs.Graph.Parts.{IsOwnPart, row_of}
use Rattle.regex_lite_engine.specs.Graph.Places.{Place, reading_of}
use Rattle.regex_lite_engine.specs.Graph.Ways.{Leads}
use Rattle.regex_lite_meta.specs.LazyDfa.Intervals.{AreIntervalsFor, Intervals, class_of}
use Rattle.regex_lite_meta.specs.LazyDfa.Intervals.{classes_in, context_of}
use Rattle.regex_lite_engine.specs.Search.ThreadStarts.{Reported}
use Rattle.regex_lite_engine.specs.Search.NumberedAnswer.{numbered_step}
use Rattle.regex_lite_engine.specs.Search.NumberedList.{IsEntry}
use Rattle.regex_lite_engine.specs.Pikevm.Machine.{Thread}
use Rattle.regex_lite_engine.specs.Search.Here.{IsHere}
use Rattle.regex_lite_engine.specs.Pikevm.Stepping.{IsComing}
use Rattle.regex_lite_engine.specs.Search.NumberedOutcomes.{Best}

-- what a state keeps of where a way began: whether that is the first start, and the number of its
-- pattern
pub record StoredStart : Type 0 where
  pub first : Bool
  pub number : Option ℕ

-- a way: one NFA state (place) of a DFA state, with its start
pub record Way : Type 0 where
  pub place : ℕ
  pub match_start : StoredStart

-- a state: all that a search depends on between two characters, in any haystack
pub record State : Type 0 where
  -- the ways, the most preferred first
  pub ways : List Way
  -- whether there is no match yet
  pub searching : Bool
  -- the look context of the character before
  pub before : LookContext
  -- the match flag: the start of the match that was complete at the last position
  pub match_flag : Option StoredStart
  -- whether the last position is the first start from then on
  pub restarts : Bool
  -- the transitions: the number of the next state, by the class of the next character
  pub next : List ℕ

pub record Automaton : Type 0 where
  pub intervals : Intervals
  -- the greatest number of characters that a path reads, if it is known
  pub reach : Option ℕ
  pub states : List State
  -- the ways of the next state to be added
  pub pending : List Way

-- stands for a transition that isn't cached
abbrev pub unknown : ℕ
unknown = 65535

-- the start that is known of a way: i if it began at the first start, otherwise none
abbrev pub reported_if : Bool → (i : ℕ) → Option ℕ
reported_if true i = Some i
reported_if false i = None

abbrev pub reported_by : (i : ℕ) → StoredStart → Reported
reported_by i match_start = record {
  at = reported_if match_start.first i;
  number = match_start.number;
}

abbrev pub thread_of : (i : ℕ) → Way → Thread
thread_of i way = (way.place, reported_by i way.match_start, [])

-- the threads of a state if the first start is i; the other starts aren't known
abbrev pub threads_of : (i : ℕ) → List Way → List Thread
threads_of i ways = map (thread_of i) ways

-- the way began at the first start
abbrev pub began : (first : ℕ) → Option ℕ → Bool
began first None = false
began first (Some start) = start == first

abbrev pub match_start_of : (first : ℕ) → Reported → StoredStart
match_start_of first reported = record { first = began first reported.at; number = reported.number }

abbrev pub way_of : (first : ℕ) → Thread → Way
way_of first thread = record { place = thread.0; match_start = match_start_of first thread.1 }

abbrev pub ways_of : (first : ℕ) → List Thread → List Way
ways_of first threads = map (way_of first) threads

-- the start of the match that is complete, if one is
abbrev pub match_flag_of : (first : ℕ) → (match_flag : Bool) → (found : Best) → Option StoredStart
match_flag_of first false found = None
match_flag_of first true None = None
match_flag_of first true (Some found) = Some (match_start_of first found.0)

-- the best match after a position, if the first start is i
abbrev pub best_left : Option StoredStart → (i at : ℕ) → Best → Best
best_left None i at best = best
best_left (Some match_start) i at best = Some (reported_by i match_start, at, [])

-- the first start after a transition at the offset, if it was i before
abbrev pub first_left : (restarts : Bool) → (i at : ℕ) → ℕ
first_left false i at = i
first_left true i at = at

-- starts are added until there is a match
abbrev pub searching_after : Option StoredStart → Bool → Bool
searching_after None searching = searching
searching_after (Some match_start) searching = false

-- there is no match yet while starts are added
abbrev pub Suits : (searching : Bool) → Best → Type 0
Suits true best = best ≡ None
Suits false best = best ≡ None → ⊥

-- a search in this state is before a character of this class
pub record Sees (intervals : Intervals) (before : LookContext) (class : ℕ) (there : Here)
    : Type 0 where
  pub ahead : class_of intervals.boundaries there.after ≡ class
  pub behind : intervals.looks ≡ true → context_of there.before ≡ before

-- Wherever a search in state x is before a character of the class, its transition leads to state y.
-- If there are no ways, the position itself is the first start
pub record LeadsOn (table : List (Place ℕ)) (entries : List ℕ) (intervals : Intervals) (x : State)
    (class : ℕ) (y : State) : Type 0 where
  pub on : (there : Here) → Sees intervals x.before class there → (i : ℕ)
      → (x.ways ≡ [] → i ≡ there.at) → (best : Best) → Suits x.searching best
      → (haystack : Text) (p first last : ℕ) → IsHere haystack p there → first ≤ p → p ≤ last
      → IsComing table haystack entries first last p (threads_of i x.ways) best
      → IsComing table haystack entries first last (p + 1)
      (threads_of (first_left y.restarts i there.at) y.ways)
      (best_left y.match_flag i there.at best)
  pub searching : y.searching ≡ searching_after y.match_flag x.searching
  pub before : intervals.looks ≡ true → (there : Here)
      → class_of intervals.boundaries there.after ≡ class → context_of there.after ≡ y.before

-- the start state after this character: it has no ways, and there is no match yet
pub record IsEmptyState (automaton : Automaton) (x : ℕ) (last : Option ℕ) : Type 0 where
  pub state : State
  pub is_state : slice_get automaton.states x ≡ Some state
  pub none : state.ways ≡ []
  pub searching : state.searching ≡ true
  pub sees : automaton.intervals.looks ≡ true → state.before ≡ context_of last

-- this number is at most the number of places that read a character, in any part that has the
-- patterns
abbrev pub FitsOwnParts : List (Place ℕ) → (entries : List ℕ) → (count : ℕ) → Type 0
FitsOwnParts table entries count =
    (low len : ℕ) → IsOwnPart table entries low len → count ≤ reading_of (row_of table low len)

-- the ways lead to places of the table, and there are at most as many as places that read a
-- character
pub record FitsTable (table : List (Place ℕ)) (entries : List ℕ) (ways : List Way) : Type 0 where
  pub below : (k : ℕ) (way : Way) → slice_get ways k ≡ Some way → way.place < length table
  pub few : length ways ≤ reading_of table
  pub own : FitsOwnParts table entries (length ways)

-- no path from an entry reads more characters than this, in any haystack
abbrev pub ReadsAtMost : (table : List (Place ℕ)) → (entries : List ℕ) → (most : ℕ) → Type 0
ReadsAtMost table entries most =
    (haystack : Text) (number entry i : ℕ) (way : List ℕ) (r j : ℕ)
    → IsEntry entries number entry
    → Leads (ℕ × ℕ) (numbered_step table haystack) (entry, i) way (r, j) → j ≤ i + most

-- all cached transitions are those of searches in this table
pub record IsDfaOf (table : List (Place ℕ)) (entries : List ℕ) (automaton : Automaton)
    : Type 0 where
  pub intervals : AreIntervalsFor table entries automaton.intervals
  pub reach : IfSome automaton.reach (ReadsAtMost table entries)
  pub leads : (x : ℕ) (from : State) (class : ℕ) → slice_get automaton.states x ≡ Some from
      → class < classes_in automaton.intervals → (slice_index from.next class ≡ unknown → ⊥)
      → (to : State) × (slice_get automaton.states (slice_index from.next class) ≡ Some to)
      × LeadsOn table entries automaton.intervals from class to
  pub fit : (x : ℕ) (state : State) → slice_get automaton.states x ≡ Some state
      → FitsTable table entries state.ways
