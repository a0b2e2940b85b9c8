-- The order in which the places of a repetition are written, from the layout of its body: what
-- comes last is written first, so that the number of what follows is known.
use Rattle.std.specs.Prelude.{ℕ, zero, suc, ◌+◌, ◌-◌, Bool, true, false, [], ◌∷◌, ◌++◌, length}
use Rattle.std.specs.Prelude.{Option, Some, None}
use Rattle.regex_lite_engine.specs.Graph.Places.{with_arrows, go, choice}
use Rattle.regex_lite_engine.specs.Nfa.Fragments.{Fragment, alone, before}

module _ (body : ℕ → ℕ → Fragment) where
  -- this many copies, one after another
  abbrev pub copies_layout : ℕ → (base exit : ℕ) → Fragment
  copies_layout zero base exit = ([], exit)
  copies_layout (suc n) base exit =
      let rest = copies_layout n base exit in
      before rest (body (base + length rest.0) rest.1)

  abbrev pub exactly_layout : ℕ → (base exit : ℕ) → Fragment
  exactly_layout zero base exit = alone (with_arrows (go exit ∷ [])) base
  exactly_layout (suc n) base exit = copies_layout (suc n) base exit

  -- the places before this many choices
  abbrev pub needed_layout : (least choices : ℕ) → (base exit : ℕ) → Fragment
  needed_layout zero (suc zero) base exit = ([], exit)
  needed_layout zero choices base exit = alone (with_arrows (go exit ∷ [])) base
  needed_layout (suc n) choices base exit = copies_layout (suc n) base exit

module _ (greedy : Bool) (body : ℕ → ℕ → Fragment) where
  -- a body and the choice before it, this many times
  abbrev pub choices_layout : ℕ → (base join : ℕ) → Fragment
  choices_layout zero base join = ([], join)
  choices_layout (suc d) base join =
      let rest = choices_layout d base join in
      let inner = body (base + length rest.0) rest.1 in (
        rest.0 ++ (inner.0 ++ choice greedy inner.1 join ∷ []),
        base + length rest.0 + length inner.0,
      )

  -- the choice, the body
  abbrev pub star_layout : (base exit : ℕ) → Fragment
  star_layout base exit =
      let inner = body (base + 1) base in
      (choice greedy inner.1 exit ∷ inner.0, base)

  -- the join, the plus, the body, the question
  abbrev pub nullable_star_layout : (base exit : ℕ) → Fragment
  nullable_star_layout base exit =
      let plus = star_layout (base + 1) base in
      let inner = body (base + 1 + 1) (base + 1) in (
        with_arrows (go exit ∷ []) ∷ (plus.0 ++ choice greedy inner.1 base ∷ []),
        base + 1 + length plus.0,
      )

  -- the last of n + 1 copies with the choice, and the others before it
  abbrev pub at_least_layout : (n : ℕ) → (base exit : ℕ) → Fragment
  at_least_layout n base exit =
      let last = star_layout base exit in
      let inner = body (base + 1) base in
      before last (copies_layout body n (base + length last.0) inner.1)

  -- the join, the choices with their bodies, the copies that are needed
  abbrev pub between_layout : (least choices : ℕ) → (base exit : ℕ) → Fragment
  between_layout least choices base exit =
      let steps = choices_layout choices (base + 1) base in
      let needed = needed_layout body least choices (base + 1 + length steps.0) steps.1 in
      (with_arrows (go exit ∷ []) ∷ (steps.0 ++ needed.0), needed.1)

  -- the layouts by the least number and the difference between the most and the least
  abbrev pub bounded_layout : (least above : ℕ) → (base exit : ℕ) → Fragment
  bounded_layout least zero = exactly_layout body least
  bounded_layout least (suc d) = between_layout least (suc d)

  abbrev pub repetition_layout : (least : ℕ) → (most : Option ℕ) → (nullable_body : Bool)
      → (base exit : ℕ) → Fragment
  repetition_layout zero None true = nullable_star_layout
  repetition_layout zero None false = star_layout
  repetition_layout (suc n) None nullable_body = at_least_layout n
  repetition_layout least (Some most) nullable_body = bounded_layout least (most - least)
