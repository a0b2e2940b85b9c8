-- The effect of entering a place on the memory: on the row of slots, the frames, and the threads of
-- the next position.
use Rattle.std.specs.Prelude.{◌≡◌, ◌≤◌, ◌<◌, ◌⊎◌, ℕ, Bool, true, false, List, [], ◌∷◌, ◌++◌, length}
use Rattle.std.specs.Prelude.{map, Option, Some, None, slice_set, slice_index_or, if◌then◌else◌}
use Rattle.regex_lite_syntax.specs.Ranges.{in_ranges}
use Rattle.regex_lite_syntax.specs.Sets.{Set, just}
use Rattle.regex_lite_syntax.specs.Tree.Looks.{holds_between}
use Rattle.regex_lite_engine.specs.Search.ThreadStarts.{Reported}
use Rattle.regex_lite_engine.specs.Search.NumberedAnswer.{are_wanted_before}
use Rattle.regex_lite_engine.specs.declared.nfa.place.Place.{Place}
use Rattle.regex_lite_engine.specs.declared.nfa.place.Place.TheVariants as stored
use Rattle.regex_lite_engine.specs.declared.pikevm.enter.Onward as code
use Rattle.regex_lite_engine.specs.declared.pikevm.enter.Onward.TheVariants as onward
use Rattle.regex_lite_engine.specs.declared.search.here.Here.{Here}
use Rattle.regex_lite_engine.specs.Pikevm.Machine.{Job, explore, restore, State, Thread}

-- the stack, with the next place on top
abbrev pub onto : code.Onward → List Job → List Job
onto (onward.To place) frames = explore place ∷ frames
onto onward.Back frames = frames
onto onward.Complete frames = frames

-- a match is complete
abbrev pub completes : code.Onward → Bool
completes (onward.To place) = false
completes onward.Back = false
completes onward.Complete = true

-- the next character is in the set
abbrev pub reads : Set → Option ℕ → Bool
reads set None = false
reads set (Some c) = set c

-- the state with these frames pushed
abbrev pub pushing : State → List Job → State
pushing state more = record state { frames = more ++ state.frames }

-- if the next character is read, this thread is added to the next position
abbrev pub reading_on : Bool → State → Thread → State
reading_on true state thread = record state { next = state.next ++ thread ∷ [] }
reading_on false state thread = state

-- the slot holds the offset until the branch is left, or from now on if the stack is empty; a slot
-- beyond the row is not kept
abbrev pub SlotMarked : (at slot to : ℕ) → (before after : State) → Type 0
SlotMarked at slot to before after =
    ((slot < length before.row)
    × ((after ≡ record before {
      row = slice_set before.row slot (Some at);
      frames = explore to ∷ (restore slot (slice_index_or before.row slot None) ∷ before.frames);
    })
    ⊎ ((before.frames ≡ [])
    × (after ≡ record before {
      row = slice_set before.row slot (Some at);
      frames = explore to ∷ before.frames;
    }))))
    ⊎ ((length before.row ≤ slot) × (after ≡ pushing before (explore to ∷ [])))

module _ (whole : Bool) (here : Here) (reported : Reported) where
  -- `reported` is what is kept of the start of the path to the place; `done` says that a match that
  -- is wanted is complete there
  abbrev pub Enters : Place → (before after : State) → (done : Bool) → Type 0
  Enters (stored.Empty to) before after done =
      (after ≡ pushing before (explore to ∷ [])) × (done ≡ false)
  Enters (stored.Char c to) before after done =
      (after ≡ reading_on (reads (just c) here.after) before (to, reported, before.row))
      × (done ≡ false)
  Enters (stored.Class to set) before after done =
      (after ≡ reading_on (reads (in_ranges set) here.after) before (to, reported, before.row))
      × (done ≡ false)
  Enters (stored.Look test to) before after done =
      (after ≡ (if holds_between test here.before here.after then pushing before (explore to ∷ [])
      else before))
      × (done ≡ false)
  Enters (stored.Slot slot to) before after done =
      SlotMarked here.at slot to before after × (done ≡ false)
  Enters (stored.Choice first second) before after done =
      (after ≡ pushing before (explore first ∷ (explore second ∷ []))) × (done ≡ false)
  Enters (stored.Branches entries) before after done =
      (after ≡ pushing before (map explore entries.items)) × (done ≡ false)
  Enters stored.Match before after done =
      (after ≡ before) × (done ≡ are_wanted_before whole here.after)
