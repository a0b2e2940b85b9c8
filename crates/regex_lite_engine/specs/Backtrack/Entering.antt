-- The effect of entering a place on what the walk holds: the row of slots, and the stack.
use Rattle.std.specs.Prelude.{◌≡◌, ◌+◌, ◌≤◌, ◌<◌, ◌⊎◌, ℕ, Bool, true, false}
use Rattle.std.specs.Prelude.{List, ◌∷◌, ◌++◌, length, map, Option, Some}
use Rattle.std.specs.Prelude.{None, slice_set, slice_index_or, if◌then◌else◌}
use Rattle.std.specs.Char.{len_utf8}
use Rattle.regex_lite_syntax.specs.Ranges.{in_ranges}
use Rattle.regex_lite_syntax.specs.Sets.{Set, just}
use Rattle.regex_lite_syntax.specs.Text.{Text, before, after}
use Rattle.regex_lite_syntax.specs.Tree.Looks.{holds_between}
use Rattle.regex_lite_engine.specs.declared.nfa.place.Place.{Place}
use Rattle.regex_lite_engine.specs.declared.nfa.place.Place.TheVariants as stored
use Rattle.regex_lite_engine.specs.declared.backtrack.enter.Continuation.{Continuation}
use Rattle.regex_lite_engine.specs.Backtrack.Machine.{Frame, explore, restore, Held, onto}
use Rattle.regex_lite_engine.specs.Backtrack.Machine.{completes}

module _ (at : ℕ) where
  -- if a character of the set comes next, the walk continues after it
  abbrev pub read_on : Set → (next : Option ℕ) → (to : ℕ) → List Frame → List Frame
  read_on set None to frames = frames
  read_on set (Some c) to frames =
      if set c then explore to (at + len_utf8 c) ∷ frames else frames

  -- the continuation is to read on if a character of the set comes next
  abbrev pub IsReadOn : Set → (next : Option ℕ) → (to : ℕ) → Continuation → Type 0
  IsReadOn set next to reported =
      ((frames : List Frame) → onto reported frames ≡ read_on set next to frames)
      × (completes reported ≡ false)

  -- the slot holds the offset, until the path is abandoned; a slot beyond the row is not kept
  abbrev pub SlotMarked : (slot to : ℕ) → (held held' : Held) → Type 0
  SlotMarked slot to held held' =
      ((slot < length held.row)
      × (held' ≡ record held {
        row = slice_set held.row slot (Some at);
        frames = explore to at ∷ (restore slot (slice_index_or held.row slot None) ∷ held.frames);
      }))
      ⊎ ((length held.row ≤ slot)
      × (held' ≡ record held { frames = explore to at ∷ held.frames }))

module _ (haystack : Text) (p at : ℕ) where
  -- what is held after the place is entered at this position, which has the offset; `done` says
  -- that a match is complete there
  abbrev pub Enters : Place → (held held' : Held) → (done : Bool) → Type 0
  Enters (stored.Empty to) held held' done =
      (held' ≡ record held { frames = explore to at ∷ held.frames }) × (done ≡ false)
  Enters (stored.Char c to) held held' done =
      (held' ≡ record held { frames = read_on at (just c) (after haystack p) to held.frames })
      × (done ≡ false)
  Enters (stored.Class to set) held held' done =
      (held'
      ≡ record held { frames = read_on at (in_ranges set) (after haystack p) to held.frames })
      × (done ≡ false)
  Enters (stored.Look test to) held held' done =
      (held' ≡ record held {
        frames = if holds_between test (before haystack p) (after haystack p)
            then explore to at ∷ held.frames else held.frames;
      })
      × (done ≡ false)
  Enters (stored.Slot slot to) held held' done = SlotMarked at slot to held held' × (done ≡ false)
  Enters (stored.Choice first second) held held' done =
      (held' ≡ record held { frames = explore first at ∷ (explore second at ∷ held.frames) })
      × (done ≡ false)
  Enters (stored.Branches entries) held held' done =
      (held' ≡ record held {
        frames = map (λ place. explore place at) entries.items ++ held.frames;
      })
      × (done ≡ false)
  Enters stored.Match held held' done = (held' ≡ held) × (done ≡ true)
