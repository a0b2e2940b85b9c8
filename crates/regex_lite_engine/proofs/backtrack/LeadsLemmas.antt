-- Where the steps of a depth-first walk lead, by the offsets of a haystack's bytes.
use Rattle.regex_lite_engine.proofs.Common.{◌≡◌, ℕ, suc, ◌<◌, ◌≤◌, Bool, true, false, List, []}
use Rattle.regex_lite_engine.proofs.Common.{◌∷◌, length, if◌then◌else◌, slice_set, Some, None}
use Rattle.regex_lite_engine.proofs.Common.{IsUtf8, Option, chars, IsCharBoundary, subst}
use Rattle.regex_lite_engine.proofs.Common.{arith, Pairs, pair_number, was_entered, Held}
use Rattle.regex_lite_engine.proofs.Common.{searching, SearchFrom, place_of, place_with}
use Rattle.regex_lite_engine.proofs.Common.{IsNumberedOutcome, offset, IsOffset, position_at}
use Rattle.regex_lite_engine.proofs.Common.{IsDeadAt}
use Rattle.regex_lite_engine.specs.declared.backtrack.walk.Backtracker.{Backtracker}
use Rattle.regex_lite_engine.specs.declared.nfa.place.Place as code
use Rattle.regex_lite_engine.specs.Backtrack.Entering.{Enters}
use Rattle.regex_lite_engine.specs.Backtrack.Machine.{explore}
use Rattle.regex_lite_engine.specs.Backtrack.Capacity.{with_frames, AreAll}
use Rattle.regex_lite_engine.specs.Backtrack.Capacity.{IsWalkingOrDone, WalksTo}
use Rattle.regex_lite_engine.specs.Backtrack.Walking.{IsWalking}
use Rattle.regex_lite_engine.specs.Graph.Places.{Place}
use Rattle.regex_lite_engine.proofs.OffsetLemmas.{positions_order}
use Rattle.regex_lite_engine.proofs.backtrack.EnterLemmas.{walk_enters, Entered}
use Rattle.regex_lite_engine.proofs.backtrack.WalkLemmas.{walk_between, walk_passed, walk_started}
use Rattle.regex_lite_engine.proofs.PositionLemmas.{position_is}

-- with the pair entered
abbrev pub entered_at : Pairs → (q at : ℕ) → Pairs
entered_at pairs q at = record pairs {
  entered = slice_set pairs.entered (pair_number pairs.places pairs.first q at) true;
}

module _ (bytes : List ℕ) (utf8 : IsUtf8 bytes) where
  -- positions do not fall
  pub position_grows : (at to : ℕ) → IsCharBoundary bytes at → IsCharBoundary bytes to → at ≤ to
      → position_at bytes at ≤ position_at bytes to
  position_grows at to edge edge' le =
      let here = position_is bytes at utf8 edge in
      let there = position_is bytes to utf8 edge' in
      positions_order (chars bytes) (position_at bytes at) (position_at bytes to) here.0
      (omega (arith, here.1, there.1, le))

  module _ (table : List (Place ℕ)) (walk : Backtracker)
      (all : AreAll table bytes walk.visited) (q at : ℕ)
      (inside : q < length table) (low : walk.visited.first ≤ at)
      (edge : IsCharBoundary bytes at) where
    abbrev position : ℕ
    position = position_at bytes at

    abbrev first : ℕ
    first = position_at bytes walk.visited.first

    low_position : first ≤ position
    low_position = position_grows walk.visited.first at all.boundary edge low

    is_offset : IsOffset (chars bytes) position at
    is_offset = position_is bytes at utf8 edge

    abbrev before : Backtracker
    before = with_frames walk (explore q at ∷ walk.stack.frames)

    -- what was entered before is passed over
    pub leads_passed : was_entered walk.visited q at ≡ true → WalksTo table bytes before walk None
    leads_passed was s from i u =
        walk_passed table (searching table bytes s first from i) walk.visited walk.stack q position
        at inside low_position is_offset u was

    -- what is new is entered
    pub leads_entered : (x : code.Place) (held : Held) (done : Bool)
        → was_entered walk.visited q at ≡ false
        → pair_number walk.visited.places walk.visited.first q at < length walk.visited.entered
        → place_with table q ≡ place_of x
        → Enters (chars bytes) position at x walk.stack held done
        → WalksTo table bytes before
        (record walk { visited = entered_at walk.visited q at; stack = held })
        (if done then Some at else None)
    leads_entered x held done new short found enters s from i u =
        reported done (walk_enters table search walk.visited walk.stack q position at inside
        low_position is_offset u new all.places begins short x held done found enters)
      where
        search : SearchFrom
        search = searching table bytes s first from i

        begins : walk.visited.first ≡ offset (chars bytes) first
        begins = (position_is bytes walk.visited.first utf8 all.boundary).1

        reported : (done : Bool)
            → Entered table search walk.visited walk.stack q position at inside low_position
            is_offset u new all.places begins short held done
            → IsWalkingOrDone table bytes s first from i
            (record walk { visited = entered_at walk.visited q at; stack = held })
            (if done then Some at else None)
        reported false w = w
        reported true w = w

  -- the start at position r is taken, where those between lead to no end
  module _ (table : List (Place ℕ)) (s start p r at : ℕ) (walk walk' : Backtracker)
      (begins : walk.visited.first ≡ start) (later : p ≤ r) (low : position_at bytes start ≤ r)
      (is_offset : IsOffset (chars bytes) r at)
      (dead : (k : ℕ) → p ≤ k → k < r → IsDeadAt table (chars bytes) s k)
      (u : IsWalking table (searching table bytes s (position_at bytes start) p 0) walk.visited
      (record walk.stack { frames = [] })) where
    abbrev begun : Backtracker
    begun = with_frames walk (explore s at ∷ [])

    led_on : (end : Option ℕ) → WalksTo table bytes begun (with_frames walk' []) end
        → IsWalkingOrDone table bytes s (position_at bytes start) (suc r) at
        (with_frames walk' []) end
    led_on end walks =
        subst (λ z. IsWalkingOrDone table bytes s (position_at bytes z) (suc r) at begun None
        → IsWalkingOrDone table bytes s (position_at bytes z) (suc r) at (with_frames walk' []) end)
        begins (walks s (suc r) at)
        (walk_started table (searching table bytes s (position_at bytes start) p 0) r at
        walk.visited walk.stack later low is_offset dead u)

    -- no way from it leads to a match
    pub start_left : WalksTo table bytes begun (with_frames walk' []) None
        → IsWalking table (searching table bytes s (position_at bytes start) (suc r) 0)
        walk'.visited (record walk'.stack { frames = [] })
    start_left walks =
        walk_between table (searching table bytes s (position_at bytes start) (suc r) at) 0
        walk'.visited walk'.stack (led_on None walks)

    -- one does
    pub start_matches : (end : ℕ) → WalksTo table bytes begun (with_frames walk' []) (Some end)
        → IsNumberedOutcome table (chars bytes) s (position_at bytes start)
        (Some (at, end, walk'.stack.row))
    start_matches end walks = led_on (Some end) walks
