-- The bounds of the cost of a search.
use Rattle.std.specs.Prelude.{◌≡◌, ◌<◌, ◌≤◌, ℕ, ◌+◌, ◌-◌, ◌*◌, length}
use Rattle.regex_lite_syntax.specs.Text.{Text}

-- the numbers of places (NFA states) that a search tried, entered, and looked up in the graph
pub record StepCounts : Type 0 where
  pub tried : ℕ
  pub entered : ℕ
  pub looked : ℕ

-- no count decreases
pub record StaysCounted (before after : StepCounts) : Type 0 where
  pub tried : before.tried ≤ after.tried
  pub entered : before.entered ≤ after.entered
  pub looked : before.looked ≤ after.looked

-- the number of characters from position s to the end of the haystack: 0 from a position beyond it
abbrev pub characters_left : Text → (s : ℕ) → ℕ
characters_left haystack s = length haystack - s

-- the counts of a search from position s on, in a graph with this many places, with at most this
-- many tries at one position
pub record IsBoundedBy (places tries : ℕ) (haystack : Text) (s tried entered looked : ℕ)
    : Type 0 where
  pub few_tried : tried ≤ tries * (characters_left haystack s + 1)
  pub entered_tried : entered ≤ tried
  pub few_entered : entered ≤ places * (characters_left haystack s + 1)
  pub few_looked : looked ≤ 2 * entered
  -- a search from beyond the end tries nothing
  pub none_beyond : length haystack < s → tried ≡ 0

-- the counts of a search of the graph of one pattern with this many arrows: it tries a place by
-- each of them, and the start
abbrev pub IsBounded : (places arrows : ℕ) → Text → (s tried entered looked : ℕ) → Type 0
IsBounded places arrows = IsBoundedBy places (arrows + 1)
