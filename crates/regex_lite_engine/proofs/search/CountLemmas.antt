-- What was counted stays counted, from one step to the next, and what counts if a test fails.
use Rattle.regex_lite_engine.proofs.Common.{◌≡◌, ℕ, ◌+◌, ◌<◌, ◌≤◌, Bool, true, false, if◌then◌else◌}
use Rattle.regex_lite_engine.proofs.Common.{sym, refl, ap, ◌∙◌, subst, arith, StepCounts}
use Rattle.regex_lite_engine.proofs.Common.{StaysCounted}

pub counted_at_first : {steps : StepCounts} → StaysCounted steps steps
counted_at_first = record { tried = omega arith; entered = omega arith; looked = omega arith }

pub still_counted : {first second third : StepCounts} → StaysCounted first second
    → StaysCounted second third → StaysCounted first third
still_counted before after =
    record { tried = omega arith; entered = omega arith; looked = omega arith }

-- a place was entered and looked up
pub counted_all : (w : StepCounts) {tried entered looked : StepCounts}
    → tried ≡ record w { tried = w.tried + 1 }
    → entered ≡ record tried { entered = tried.entered + 1 }
    → looked ≡ record entered { looked = entered.looked + 1 }
    → looked ≡ record {
      tried = w.tried + 1;
      entered = w.entered + 1;
      looked = w.looked + 1;
    }
counted_all w one two three =
    three
    ∙ ap (λ (c : StepCounts). record c { looked = c.looked + 1 })
    (two ∙ ap (λ (c : StepCounts). record c { entered = c.entered + 1 }) one)

-- what was counted before stays counted where a place is tried
pub tried_once : (w : StepCounts) {tried : StepCounts} → tried ≡ record w { tried = w.tried + 1 }
    → StaysCounted w tried
tried_once w is = subst (StaysCounted w) (sym is)
    (record { tried = omega arith; entered = omega arith; looked = omega arith })

-- and where it is entered too
pub entered_once : (w : StepCounts) {tried entered looked : StepCounts}
    → tried ≡ record w { tried = w.tried + 1 }
    → entered ≡ record tried { entered = tried.entered + 1 }
    → looked ≡ record entered { looked = entered.looked + 1 }
    → StaysCounted w looked × (0 < looked.entered) × (looked.tried ≡ w.tried + 1)
entered_once w one two three =
    subst (λ z. StaysCounted w z × (0 < z.entered) × (z.tried ≡ w.tried + 1))
    (sym (counted_all w one two three))
    (record { tried = omega arith; entered = omega arith; looked = omega arith }, omega arith, refl)

-- at most one try was counted
abbrev OneTried : (w counted : StepCounts) → Type 0
OneTried w counted =
    StaysCounted w counted × (counted.tried ≤ w.tried + 1) × (counted.entered ≡ w.entered)
    × (counted.looked ≡ w.looked)

-- at most one entry was counted, with all that belongs to it
abbrev OneEntered : (w counted : StepCounts) → Type 0
OneEntered w counted =
    StaysCounted w counted × (counted.tried ≤ w.tried + 1) × (counted.entered ≤ w.entered + 1)
    × (counted.entered ≤ counted.tried) × (counted.looked ≤ counted.entered)

-- a place was tried, which may not be counted
pub tried_if : (counts : Bool) (w : StepCounts) {tried : StepCounts}
    → tried ≡ (if counts then record w { tried = w.tried + 1 } else w)
    → OneTried w tried
tried_if true w is = subst (OneTried w) (sym is) (tried_once w refl, omega arith, refl, refl)
tried_if false w is = subst (OneTried w) (sym is) (counted_at_first, omega arith, refl, refl)

-- and it was entered and looked up, which counts where the try does
pub entered_if : (counts : Bool) (w : StepCounts) {tried looked : StepCounts}
    → tried ≡ (if counts then record w { tried = w.tried + 1 } else w)
    → looked ≡ (if counts then record tried {
      entered = tried.entered + 1;
      looked = tried.looked + 1;
    } else tried)
    → looked ≡ (if counts then record {
      tried = w.tried + 1;
      entered = w.entered + 1;
      looked = w.looked + 1;
    } else w)
entered_if true w one two =
    two ∙ ap (λ (c : StepCounts). record c { entered = c.entered + 1; looked = c.looked + 1 }) one
entered_if false w one two = two ∙ one

pub entered_within : (counts : Bool) (w : StepCounts) {looked : StepCounts}
    → looked ≡ (if counts then record {
      tried = w.tried + 1;
      entered = w.entered + 1;
      looked = w.looked + 1;
    } else w)
    → w.entered ≤ w.tried → w.looked ≤ w.entered
    → OneEntered w looked
entered_within true w is few few_looked =
    subst (OneEntered w) (sym is) (
      record { tried = omega arith; entered = omega arith; looked = omega arith },
      omega arith,
      omega arith,
      omega (arith, few),
      omega (arith, few_looked),
    )
entered_within false w is few few_looked =
    subst (OneEntered w) (sym is) (counted_at_first, omega arith, omega arith, few, few_looked)

-- what counts only if a test fails
pub test_most : (b : Bool) (x : ℕ) → (if b then 0 else x) ≤ x
test_most true x = omega arith
test_most false x = omega arith
