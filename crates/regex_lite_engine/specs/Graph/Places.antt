-- Places (NFA states) with ordered arrows (transitions), and the steps that they allow on a
-- haystack.
use Rattle.std.specs.Prelude.{ℕ, zero, suc, ◌+◌, Bool, List, [], ◌∷◌, Option, Some}
use Rattle.std.specs.Prelude.{None, if◌then◌else◌, length, map, slice_get, sum_by}
use Rattle.regex_lite_syntax.specs.declared.class.ClassRange.{ClassRange}
use Rattle.regex_lite_syntax.specs.declared.hir.look.Look.{Look}
use Rattle.regex_lite_syntax.specs.Text.{Text, before, after}
use Rattle.regex_lite_syntax.specs.Ranges.{in_ranges}
use Rattle.regex_lite_syntax.specs.Sets.{Set, just}
use Rattle.regex_lite_syntax.specs.Tree.Looks.{holds_between}

-- the condition of an arrow
pub data Condition : Type 0 where
  free : Condition
  -- the look holds
  holding : (test : Look) → Condition
  -- a character of the set comes next, and is read
  reading : (set : Set) → Condition

-- 1 if a character is to be read, else 0
abbrev pub condition_reads : Condition → ℕ
condition_reads free = 0
condition_reads (holding test) = 0
condition_reads (reading set) = 1

-- 1 if a slot is to be marked, else 0
abbrev pub mark_count : (slot : Option ℕ) → ℕ
mark_count None = 0
mark_count (Some slot) = 1

-- 1 if a slot is to be marked and this many slots keep it, else 0
abbrev pub kept_marks : (slot : Option ℕ) → (slots : ℕ) → ℕ
kept_marks None slots = 0
kept_marks (Some slot) zero = 0
kept_marks (Some slot) (suc slots) = 1

-- an arrow to the place with this address
pub record Arrow (A : Type 0) : Type 0 where
  pub condition : Condition
  -- the slot that the arrow marks with the position
  pub mark : Option ℕ
  pub to : A

-- the place where a match is complete, or one with these arrows, the earlier preferred
pub data Place (A : Type 0) : Type 0 where
  complete : Place A
  with_arrows : (arrows : List (Arrow A)) → Place A

-- an arrow, and a place, with other names for the addresses
abbrev pub renamed_arrow : {A B : Type 0} → (name : A → B) → Arrow A → Arrow B
renamed_arrow name arrow =
    record { condition = arrow.condition; mark = arrow.mark; to = name arrow.to }

abbrev pub renamed : {A B : Type 0} → (name : A → B) → Place A → Place B
renamed name complete = complete
renamed name (with_arrows arrows) = with_arrows (map (renamed_arrow name) arrows)

-- the position after a character of the set
abbrev pub read_past : Set → ℕ → Option ℕ → Option ℕ
read_past set i None = None
read_past set i (Some c) = if set c then Some (suc i) else None

-- the position after an arrow with this condition is taken at position i, if it can be
abbrev pub taken : Text → Condition → ℕ → Option ℕ
taken haystack free i = Some i
taken haystack (holding test) i =
    if holds_between test (before haystack i) (after haystack i) then Some i else None
taken haystack (reading set) i = read_past set i (after haystack i)

module _ {A : Type 0} where
  abbrev pub go : A → Arrow A
  go a = record { condition = free; mark = None; to = a }

  abbrev pub go_marking : (slot : ℕ) → A → Arrow A
  go_marking slot a = record { condition = free; mark = Some slot; to = a }

  abbrev pub go_holding : Look → A → Arrow A
  go_holding test a = record { condition = holding test; mark = None; to = a }

  abbrev pub go_reading : Set → A → Arrow A
  go_reading set a = record { condition = reading set; mark = None; to = a }

  -- the body and the other place, the body preferred if the repetition is greedy
  abbrev pub choice : (greedy : Bool) → (body other : A) → Place A
  choice greedy body other =
      if greedy then with_arrows (go body ∷ go other ∷ [])
      else with_arrows (go other ∷ go body ∷ [])

  -- a place that reads this character
  abbrev pub one_char : ℕ → A → Place A
  one_char c exit = with_arrows (go_reading (just c) exit ∷ [])

  -- a place that reads a character of the set with these ranges; the empty set gives no arrow
  abbrev pub one_of : List ClassRange → A → Place A
  one_of [] exit = with_arrows []
  one_of (range ∷ ranges) exit = with_arrows (go_reading (in_ranges (range ∷ ranges)) exit ∷ [])

  -- the number of arrows that read a character
  abbrev pub reading_arrows : List (Arrow A) → ℕ
  reading_arrows [] = 0
  reading_arrows (arrow ∷ arrows) = condition_reads arrow.condition + reading_arrows arrows

  -- the number of a place's arrows that read a character: at most one
  abbrev pub reading_count : Place A → ℕ
  reading_count complete = 0
  reading_count (with_arrows arrows) = reading_arrows arrows

  abbrev pub reading_of : List (Place A) → ℕ
  reading_of places = sum_by reading_count places

  -- the stack bound of a place: the number of frames that a search pushes when it follows the first
  -- arrow, for the other arrows and for the slot that the first one marks
  abbrev pub stack_bound : Place A → ℕ
  stack_bound complete = 0
  stack_bound (with_arrows []) = 0
  stack_bound (with_arrows (arrow ∷ arrows)) = length arrows + mark_count arrow.mark

  -- the stack bound of a place for a search that keeps this many slots: with none, only the other
  -- arrows count
  abbrev pub stack_bound_with : (slots : ℕ) → Place A → ℕ
  stack_bound_with slots complete = 0
  stack_bound_with slots (with_arrows []) = 0
  stack_bound_with slots (with_arrows (arrow ∷ arrows)) = length arrows + kept_marks arrow.mark
      slots

  abbrev pub stack_bound_of : List (Place A) → ℕ
  stack_bound_of places = sum_by stack_bound places

  -- the place with the position
  abbrev pub arrived : A → Option ℕ → Option (A × ℕ)
  arrived a None = None
  arrived a (Some j) = Some (a, j)

  module _ (haystack : Text) where
    abbrev pub arrow_taken : ℕ → Option (Arrow A) → Option (A × ℕ)
    arrow_taken i None = None
    arrow_taken i (Some arrow) = arrived arrow.to (taken haystack arrow.condition i)

    -- the place and position that arrow k of the place leads to from position i, if there is such
    -- an arrow and it can be taken
    abbrev pub step_from : Place A → ℕ → ℕ → Option (A × ℕ)
    step_from complete i k = None
    step_from (with_arrows arrows) i k = arrow_taken i (slice_get arrows k)

    -- the place and position that arrow k leads to, in a graph, which has a place at each address
    abbrev pub step : (place : A → Place A) → A × ℕ → ℕ → Option (A × ℕ)
    step place pair k = step_from (place pair.0) pair.1 k
