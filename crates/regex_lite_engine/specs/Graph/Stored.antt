-- Graphs as they are stored: a table of numbered places, and its properties.
use Rattle.std.specs.Prelude.{◌≡◌, ℕ, ◌^◌, ◌<◌, Bool, List, [], ◌∷◌, map}
use Rattle.std.specs.Prelude.{length, slice_get, sum_by, Option, Some}
use Rattle.std.specs.declared.alloc.Global.{Global}
use Rattle.std.specs.declared.rc.RcStr.{RcStr}
use Rattle.regex_lite_engine.specs.Graph.Places.{Arrow, Place, complete, with_arrows, go}
use Rattle.regex_lite_engine.specs.Graph.Places.{go_marking, go_holding, one_char, one_of}
use Rattle.regex_lite_engine.specs.Graph.Places.{reading_of, stack_bound_of, stack_bound_with}
use Rattle.regex_lite_engine.specs.declared.nfa.place.Place as code
use Rattle.regex_lite_engine.specs.declared.nfa.place.Place.TheVariants as stored
use Rattle.regex_lite_engine.specs.declared.nfa.stack_bound.StackBound.{StackBound}

-- the table of a graph as callers see it
pub record StoredTable : Type 0 where
  pub places : List code.Place
  -- the number of arrows of the places
  pub arrows : ℕ

-- the graph of one pattern as callers see it
pub record StoredGraph : Type 0 where
  pub places : List code.Place
  -- the number of the place where a search starts
  pub start : ℕ
  -- the number of arrows of the places
  pub arrows : ℕ
  -- the names of groups by index
  pub capture_names : List (Option (RcStr Global))
  pub static_captures_len : Option ℕ
  -- whether each match reads a character, if looks are assumed to hold
  pub reads : Bool

-- the place that a stored place stands for
abbrev pub place_of : code.Place → Place ℕ
place_of (stored.Empty to) = with_arrows (go to ∷ [])
place_of (stored.Char c to) = one_char c to
place_of (stored.Class to set) = one_of set to
place_of (stored.Look test to) = with_arrows (go_holding test to ∷ [])
place_of (stored.Slot slot to) = with_arrows (go_marking slot to ∷ [])
place_of (stored.Choice first second) = with_arrows (go first ∷ go second ∷ [])
place_of (stored.Branches entries) = with_arrows (map go entries.items)
place_of stored.Match = complete

-- the places of the table
abbrev pub places_of : StoredTable → List (Place ℕ)
places_of table = map place_of table.places

-- the places of the graph
abbrev pub table_of : StoredGraph → List (Place ℕ)
table_of graph = map place_of graph.places

-- the arrows lead to numbers below this one
abbrev pub LeadBelow : ℕ → List (Arrow ℕ) → Type 0
LeadBelow n [] = Unit {0}
LeadBelow n (arrow ∷ arrows) = (arrow.to < n) × LeadBelow n arrows

-- the place's arrows lead to numbers below this one
abbrev pub LeadsBelow : ℕ → Place ℕ → Type 0
LeadsBelow n complete = Unit {0}
LeadsBelow n (with_arrows arrows) = LeadBelow n arrows

-- the arrows lead to numbers in the part
abbrev pub LeadInto : (Part : ℕ → Type 0) → List (Arrow ℕ) → Type 0
LeadInto Part [] = Unit {0}
LeadInto Part (arrow ∷ arrows) = Part arrow.to × LeadInto Part arrows

-- the place's arrows lead to numbers in the part
abbrev pub LeadsInto : (Part : ℕ → Type 0) → Place ℕ → Type 0
LeadsInto Part complete = Unit {0}
LeadsInto Part (with_arrows arrows) = LeadInto Part arrows

-- the arrows of these places lead to these places
abbrev pub LeadInside : List code.Place → Type 0
LeadInside places =
    (q : ℕ) (place : code.Place) → slice_get places q ≡ Some place
    → LeadsBelow (length places) (place_of place)

-- the stack bound of a search that enters each of these places once, without slots and with them
pub record IsStackBoundOf (table : List (Place ℕ)) (kept : StackBound) : Type 0 where
  pub without_slots : kept.without_slots ≡ sum_by (stack_bound_with 0) table
  pub with_slots : kept.with_slots ≡ stack_bound_of table

-- all arrows lead to places of the table, and its places and arrows can be numbered; this many of
-- the places read a character, and the stack bound is less than the number of places; the table of
-- an empty list has no place
pub record IsClosed (places : List code.Place) (arrows reading : ℕ) : Type 0 where
  pub each_inside : LeadInside places
  pub few_places : length places < 2 ^ 32
  pub few_arrows : arrows < 2 ^ 34
  pub few_reading : 0 < length places → reading < length places
  pub each_reading : reading_of (map place_of places) ≡ reading
  pub few_stack_bound : 0 < length places → stack_bound_of (map place_of places) < length places
