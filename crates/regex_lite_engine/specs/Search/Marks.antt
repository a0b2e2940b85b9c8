-- The marks of a way: for each slot the last position at which the way marked it, or nothing.
use Rattle.std.specs.Prelude.{ℕ, zero, suc, ◌*◌, ◌+◌, ◌==◌, List, [], ◌∷◌, Option}
use Rattle.std.specs.Prelude.{Some, None, is_some, if◌then◌else◌, slice_get}
use Rattle.std.specs.Option.{option_or, option_zip}
use Rattle.regex_lite_syntax.specs.Text.{Text}
use Rattle.regex_lite_syntax.specs.Tree.{Tree}
use Rattle.regex_lite_engine.specs.Graph.Places.{Arrow, Place, complete, with_arrows, step}
use Rattle.regex_lite_engine.specs.Graph.WrittenOut.{start_address, place_of_pattern}

-- the position that each slot holds
abbrev pub Marks : Type 0
Marks = (slot : ℕ) → Option ℕ

abbrev pub no_marks : Marks
no_marks slot = None

-- what an arrow that marks this slot, or none, marks at position i
abbrev pub marked : (mark : Option ℕ) → (i : ℕ) → Marks
marked None i slot = None
marked (Some own) i slot = if own == slot then Some i else None

-- the later marks over the earlier ones
abbrev pub over : (later earlier : Marks) → Marks
over later earlier slot = option_or (later slot) (earlier slot)

-- the last span of the group with this index, if it took part: slot 2k is marked where group k
-- begins, and slot 2k + 1 where it ends
abbrev pub span : Marks → (index : ℕ) → Option (ℕ × ℕ)
span marks index = option_zip (marks (2 * index)) (marks (2 * index + 1))

-- the number of groups that took part, of this many from this index on
abbrev pub taking_part : Marks → (first count : ℕ) → ℕ
taking_part marks first zero = 0
taking_part marks first (suc count) =
    (if is_some (span marks first) then 1 else 0) + taking_part marks (suc first) count

module _ {A : Type 0} where
  abbrev pub mark_of_arrow : Option (Arrow A) → Option ℕ
  mark_of_arrow None = None
  mark_of_arrow (Some arrow) = arrow.mark

  -- the slot that arrow k of the place marks
  abbrev pub mark_of : Place A → (k : ℕ) → Option ℕ
  mark_of complete k = None
  mark_of (with_arrows arrows) k = mark_of_arrow (slice_get arrows k)

  module _ (haystack : Text) (place : A → Place A) where
    -- the marks of the arrows with these numbers, the first of which is taken at this place and
    -- position
    abbrev pub marks_along : Option (A × ℕ) → (arrows : List ℕ) → Marks
    marks_along pair [] = no_marks
    marks_along None (k ∷ arrows) = no_marks
    marks_along (Some pair) (k ∷ arrows) =
        over (marks_along (step haystack place pair k) arrows)
        (marked (mark_of (place pair.0) k) pair.1)

-- the marks of a way from position i
abbrev pub marks_of_way : Tree → Text → (i : ℕ) → (way : List ℕ) → Marks
marks_of_way tree haystack i way =
    marks_along haystack (place_of_pattern tree) (Some (start_address, i)) way
