-- Classes of characters that no place of a graph distinguishes: those between the same boundaries.
use Rattle.std.specs.Prelude.{◌≡◌, ◌+◌, ◌≤◌, ◌<◌, ◌⊎◌, ℕ, suc, Bool, true, false, All, List, []}
use Rattle.std.specs.Prelude.{◌∷◌, Option, Some, None, chars, drop, is_none, length, nat_le}
use Rattle.std.specs.Prelude.{slice_get}
use Rattle.std.specs.Char.{len_utf8}
use Rattle.regex_lite_syntax.specs.declared.class.ClassRange.{ClassRange}
use Rattle.regex_lite_syntax.specs.Text.{the}
use Rattle.regex_lite_syntax.specs.Tree.Looks.{is, is_word}
use Rattle.regex_lite_meta.specs.declared.lazy_dfa.classes.Interval.{Interval}
use Rattle.regex_lite_meta.specs.declared.lazy_dfa.state.LookContext.{LookContext}
use Rattle.regex_lite_engine.specs.declared.nfa.place.Place as code
use Rattle.regex_lite_engine.specs.declared.nfa.place.Place.TheVariants as stored
use Rattle.regex_lite_engine.specs.declared.search.here.Here.{Here}
use Rattle.regex_lite_engine.specs.Graph.Places.{Place}
use Rattle.regex_lite_engine.specs.Pikevm.Again.{AreAlike}

-- the starts of all intervals except the lowest, and whether some place has a look
pub record Intervals : Type 0 where
  pub boundaries : List ℕ
  pub looks : Bool

abbrev pub tick : Bool → ℕ
tick true = 1
tick false = 0

-- the number of boundaries at the character or below it
abbrev pub interval_of : (boundaries : List ℕ) → (c : ℕ) → ℕ
interval_of [] c = 0
interval_of (b ∷ boundaries) c = tick (nat_le b c) + interval_of boundaries c

-- the interval of the next character, or a number of its own for the end
abbrev pub class_of : (boundaries : List ℕ) → Option ℕ → ℕ
class_of boundaries None = suc (length boundaries)
class_of boundaries (Some c) = interval_of boundaries c

-- the number of classes: one for each interval, and that of the end
abbrev pub classes_in : Intervals → ℕ
classes_in intervals = length intervals.boundaries + 2

-- all characters of the interval are of its class
pub record IsInterval (boundaries : List ℕ) (interval : Interval) : Type 0 where
  pub all : (c : ℕ) → interval.start ≤ c → c < interval.end
      → interval_of boundaries c ≡ interval.class
  pub few : interval.class ≤ length boundaries

-- a character of this class begins at `at` and ends at `end`
pub record IsAhead (boundaries bytes : List ℕ) (at class end : ℕ) : Type 0 where
  pub inside : at < length bytes
  pub character : ℕ
  pub begins : slice_get (chars (drop at bytes)) 0 ≡ Some character
  pub ends : end ≡ at + len_utf8 character
  pub is_class : interval_of boundaries character ≡ class

abbrev pub IsBoundary : List ℕ → ℕ → Type 0
IsBoundary [] b = ⊥
IsBoundary (x ∷ boundaries) b = (b ≡ x) ⊎ IsBoundary boundaries b

-- each range begins at a boundary, and there is a boundary after it
abbrev pub AreBounded : (boundaries : List ℕ) → List ClassRange → Type 0
AreBounded boundaries [] = Unit {0}
AreBounded boundaries (range ∷ ranges) =
    IsBoundary boundaries range.start × IsBoundary boundaries (range.end + 1)
    × AreBounded boundaries ranges

-- the place reads whole intervals of characters
abbrev pub IsBoundedPlace : Intervals → code.Place → Type 0
IsBoundedPlace intervals (stored.Char c to) =
    IsBoundary intervals.boundaries c × IsBoundary intervals.boundaries (c + 1)
IsBoundedPlace intervals (stored.Class to set) = AreBounded intervals.boundaries set
IsBoundedPlace intervals (stored.Look look to) = intervals.looks ≡ true
IsBoundedPlace intervals (stored.Empty to) = Unit {0}
IsBoundedPlace intervals (stored.Slot slot to) = Unit {0}
IsBoundedPlace intervals (stored.Choice first second) = Unit {0}
IsBoundedPlace intervals (stored.Branches entries) = Unit {0}
IsBoundedPlace intervals stored.Match = Unit {0}

-- the boundaries that separate characters from the numbers that aren't characters
abbrev pub character_bounds : List ℕ
character_bounds = 0xD800 ∷ 0xE000 ∷ 0x110000 ∷ []

-- the boundaries of what looks distinguish: line feeds, carriage returns, and the ranges of word
-- characters
abbrev pub look_bounds : List ℕ
look_bounds =
    10 ∷ 11 ∷ 13 ∷ 14 ∷ 48 ∷ 58 ∷ 65 ∷ 91 ∷ 95 ∷ 96 ∷ 97 ∷ 123 ∷ []

-- none of these places distinguishes two characters of an interval
pub record AreIntervalsOf (places : List code.Place) (intervals : Intervals) : Type 0 where
  pub each : (q : ℕ) (place : code.Place) → slice_get places q ≡ Some place
      → IsBoundedPlace intervals place
  pub characters : All (IsBoundary intervals.boundaries) character_bounds
  pub contexts : intervals.looks ≡ true → All (IsBoundary intervals.boundaries) look_bounds

-- the look context of a neighbour
abbrev pub context_of : Option ℕ → LookContext
context_of c = record {
  is_none = is_none c;
  is_line_feed = is c (the "\n");
  is_carriage_return = is c (the "\r");
  is_word = is_word c;
}

-- the next characters are of one class, and if there are looks, the characters before have the same
-- look context
pub record LooksAlike (intervals : Intervals) (here there : Here) : Type 0 where
  pub ahead : class_of intervals.boundaries here.after ≡ class_of intervals.boundaries there.after
  pub behind : intervals.looks ≡ true → context_of here.before ≡ context_of there.before

-- searches for these patterns don't distinguish characters between the same boundaries
pub record AreIntervalsFor (table : List (Place ℕ)) (entries : List ℕ) (intervals : Intervals)
    : Type 0 where
  pub alike : (here there : Here) → LooksAlike intervals here there
      → AreAlike table entries here there
  pub contexts : intervals.looks ≡ true → All (IsBoundary intervals.boundaries) look_bounds
