-- Several patterns written out side by side. An address begins with the number of its pattern, and
-- no arrow leads from one pattern into another.
use Rattle.std.specs.Prelude.{ℕ, ◌≡◌, ◌+◌, List, [], ◌∷◌, Option, Some, None}
use Rattle.std.specs.Prelude.{option_map, slice_get, sum_by, unwrap_or}
use Rattle.regex_lite_syntax.specs.Text.{Text}
use Rattle.regex_lite_syntax.specs.Tree.{Tree}
use Rattle.regex_lite_syntax.specs.Tree.Regular.{IsRegular}
use Rattle.regex_lite_engine.specs.Graph.Places.{Place, with_arrows, step, renamed}
use Rattle.regex_lite_engine.specs.Graph.Ways.{IsWay}
use Rattle.regex_lite_engine.specs.Graph.Addresses.{Address}
use Rattle.regex_lite_engine.specs.Graph.Repetitions.{Content}
use Rattle.regex_lite_engine.specs.Graph.WrittenOut.{written_out, start_address, end_address}
use Rattle.regex_lite_engine.specs.Graph.Renumbered.{IsNumberOf}
use Rattle.regex_lite_engine.specs.Graph.PlaceCounts.{whole_places, whole_arrows}

-- the place at an address in the pattern with this number and this tree, if there is one
abbrev pub in_pattern : (number : ℕ) → Option Tree → Address → Content
in_pattern number None a = None
in_pattern number (Some tree) a = option_map (renamed (λ b. number ∷ b)) (written_out tree a)

abbrev pub side_by_side : List Tree → Address → Content
side_by_side trees [] = None
side_by_side trees (number ∷ a) = in_pattern number (slice_get trees number) a

-- the place at an address; if there is none, a place without arrows
abbrev pub place_of_patterns : List Tree → Address → Place Address
place_of_patterns trees a = unwrap_or (side_by_side trees a) (with_arrows [])

-- the pattern with this number has this tree
abbrev pub HasTree : List Tree → (number : ℕ) → Tree → Type 0
HasTree trees number tree = slice_get trees number ≡ Some tree

-- the addresses where the pattern with this number is entered, and where its match is complete
abbrev pub start_of : (number : ℕ) → Address
start_of number = number ∷ start_address

abbrev pub end_of : (number : ℕ) → Address
end_of number = number ∷ end_address

-- a way of the pattern with this number from position i to position j
abbrev pub IsWayOfPattern : List Tree → (number : ℕ) → Text → ℕ → (arrows : List ℕ) → ℕ → Type 0
IsWayOfPattern trees number haystack i arrows j =
    IsWay (Address × ℕ) (step haystack (place_of_patterns trees)) (start_of number, i) arrows
    (end_of number, j)

-- each of the trees is as the grammar gives it
abbrev pub AreRegularPatterns : List Tree → Type 0
AreRegularPatterns trees =
    (number : ℕ) (tree : Tree) → slice_get trees number ≡ Some tree → IsRegular tree

-- the numbers of places and arrows of all patterns together
abbrev pub places_of_all : List Tree → ℕ
places_of_all trees = sum_by whole_places trees

abbrev pub arrows_of_all : List Tree → ℕ
arrows_of_all trees = sum_by whole_arrows trees

-- a bound on the tries at one position: by each arrow, and to enter each pattern
abbrev pub tries_of_all : List Tree → ℕ
tries_of_all trees = sum_by (λ tree. whole_arrows tree + 1) trees

-- the patterns of these trees, in their order, are entered at the places with these numbers
pub record AreEntries (trees : List Tree) (name : ℕ → Address) (table : List (Place ℕ))
    (entries : List ℕ) : Type 0 where
  pub each : (number : ℕ) (tree : Tree) → slice_get trees number ≡ Some tree
      → (entry : ℕ) × (slice_get entries number ≡ Some entry)
  pub of_pattern : (number entry : ℕ) → slice_get entries number ≡ Some entry
      → (tree : Tree) × (slice_get trees number ≡ Some tree)
      × IsNumberOf name table (start_of number) entry
