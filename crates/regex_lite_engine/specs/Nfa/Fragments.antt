-- Places that are written together, and are entered at one of them.
use Rattle.std.specs.Prelude.{ℕ, List, [], ◌∷◌, ◌++◌}
use Rattle.regex_lite_engine.specs.Graph.Places.{Place}

-- places, and the number of the place at which they are entered
abbrev pub Fragment : Type 0
Fragment = List (Place ℕ) × ℕ

abbrev pub alone : Place ℕ → (base : ℕ) → Fragment
alone place base = (place ∷ [], base)

-- the first part is written after the rest, and is the entry
abbrev pub before : (rest first : Fragment) → Fragment
before rest first = (rest.0 ++ first.0, first.1)
