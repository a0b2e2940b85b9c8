-- A part of a table: consecutive places that no arrow leaves.
use Rattle.std.specs.Prelude.{◌≡◌, ◌+◌, ◌≤◌, ◌<◌, ◌∷◌, [], ℕ, List}
use Rattle.std.specs.Prelude.{length, slice_get, take, drop, Some}
use Rattle.regex_lite_syntax.specs.Tree.{Tree}
use Rattle.regex_lite_engine.specs.Graph.PlaceCounts.{whole_places, whole_arrows}
use Rattle.regex_lite_engine.specs.Graph.Places.{Place}
use Rattle.regex_lite_engine.specs.Graph.Renumbered.{arrows_of}
use Rattle.regex_lite_engine.specs.Graph.Stored.{LeadsInto}

-- the number is one of `len` consecutive numbers from `low` on
abbrev pub IsWithin : (low len q : ℕ) → Type 0
IsWithin low len q = (low ≤ q) × (q < low + len)

-- the places with these numbers
abbrev pub row_of : List (Place ℕ) → (low len : ℕ) → List (Place ℕ)
row_of table low len = take len (drop low table)

-- patterns are entered only at these places, and no arrow leads out of them
pub record IsOwnPart (table : List (Place ℕ)) (entries : List ℕ) (low len : ℕ) : Type 0 where
  pub inside : low + len ≤ length table
  pub entered : (number entry : ℕ) → slice_get entries number ≡ Some entry → IsWithin low len entry
  pub closed : (q : ℕ) (place : Place ℕ) → IsWithin low len q → slice_get table q ≡ Some place
      → LeadsInto (IsWithin low len) place

-- the pattern of this tree is entered here, in a part of its own that has exactly the tree's places
-- and arrows
pub record OwnPart (tree : Tree) (table : List (Place ℕ)) (entry : ℕ) : Type 0 where
  pub low : ℕ
  pub is : IsOwnPart table (entry ∷ []) low (whole_places tree)
  pub arrows : arrows_of (row_of table low (whole_places tree)) ≡ whole_arrows tree

-- each pattern has such a part
abbrev pub HaveOwnParts : List Tree → List (Place ℕ) → (entries : List ℕ) → Type 0
HaveOwnParts trees table entries =
    (number : ℕ) (tree : Tree) (entry : ℕ) → slice_get trees number ≡ Some tree
    → slice_get entries number ≡ Some entry → OwnPart tree table entry
