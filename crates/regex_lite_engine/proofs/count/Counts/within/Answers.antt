use Rattle.regex_lite_engine.proofs.Common.{ℕ, ◌<◌, ◌≤◌, ◌↔◌, arith}
use Rattle.regex_lite_engine.proofs.count.Counts.within.Goals as goal

above : {size counted limit : ℕ} → (counted ≤ limit) ↔ (size ≤ limit) → limit < counted
    → limit < size
above (_, kept) over = by_cases kept over
  where
    by_cases : {size counted limit : ℕ} → (size ≤ limit → counted ≤ limit) → limit < counted
        → limit < size
    by_cases kept over = grind arith

pub returns-then-size-size_limit-clause-refused : goal.returns-then-size-size_limit-clause-refused
returns-then-size-size_limit-clause-refused c = λ tree counted.
    above (c.size.ensures tree c.args.size_limit counted (omega arith)) c.if-size-size_limit.true

pub returns-in-Ok-clause-ok : goal.returns-in-Ok-clause-ok
returns-in-Ok-clause-ok c = λ tree counted.
    let same = c.size.ensures tree c.args.size_limit counted (omega arith) in
    let fits = same.0 c.if-size-size_limit.false in
    let stored = counted.places in
    let index = counted.properties.greatest_index in
    let number = c.in-Ok.ensures in
    (omega arith, record { size_fits = fits; places_fit = omega arith; slots_fit = omega arith })
