-- The representations of the set of entered pairs: bits in words, or stamps.
use Rattle.std.specs.Prelude.{ℕ, ◌*◌, ◌≤◌, ◌==◌, Bool, List, length, map, slice_index_or}
use Rattle.std.specs.Prelude.{vec_capacity}
use Rattle.std.specs.List.{range_with_len}
use Rattle.regex_lite_engine.specs.declared.backtrack.visited.PairMap.{PairMap}
use Rattle.regex_lite_engine.specs.declared.backtrack.visited.PairMap.TheVariants.{Few, Many}
use Rattle.regex_lite_engine.specs.declared.backtrack.visited.PairMap.TheVariants.{Stamps}
use Rattle.regex_lite_engine.specs.Backtrack.Bits.{bits_of}

-- which of the first pairs have the stamp of this generation
abbrev pub stamped : List ℕ → (generation count : ℕ) → List Bool
stamped stamps generation count =
    map (λ k. slice_index_or stamps k 0 == generation) (range_with_len 0 count)

-- which of the first pairs were entered
abbrev pub entered_of : PairMap → (count : ℕ) → List Bool
entered_of (Few words) count = bits_of words count
entered_of (Many words) count = bits_of words.items count
entered_of (Stamps stamps generation) count = stamped stamps.items generation count

-- the number of pairs for which there is room
abbrev pub room_of : PairMap → ℕ
room_of (Few words) = 64 * length words
room_of (Many words) = 64 * vec_capacity words
room_of (Stamps stamps generation) = vec_capacity stamps

-- each of the first pairs has a bit or a stamp, or counts as 0
abbrev pub HasEach : PairMap → (count : ℕ) → Type 0
HasEach (Few words) count = Unit {0}
HasEach (Many words) count = Unit {0}
HasEach (Stamps stamps generation) count = count ≤ length stamps.items

-- no pair was entered in a later generation
abbrev pub NoneLater : PairMap → Type 0
NoneLater (Few words) = Unit {0}
NoneLater (Many words) = Unit {0}
NoneLater (Stamps stamps generation) = (k : ℕ) → slice_index_or stamps.items k 0 ≤ generation
