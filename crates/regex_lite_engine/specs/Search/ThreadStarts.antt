-- What a search keeps about the start of a thread.
use Rattle.std.specs.Prelude.{◌≡◌, ℕ, Option, Some, None}

-- the offset, and the number of the pattern, each if it is kept
pub record Reported : Type 0 where
  pub at : Option ℕ
  pub number : Option ℕ

abbrev pub no_start : Reported
no_start = record { at = None; number = None }

-- what is kept, if anything, is this
abbrev pub IsReported : Option ℕ → ℕ → Type 0
IsReported None n = Unit {0}
IsReported (Some reported) n = reported ≡ n

pub record TellsStart (reported : Reported) (start number : ℕ) : Type 0 where
  pub start_reported : IsReported reported.at start
  pub number_reported : IsReported reported.number number

-- the start of the match that was found, if it is kept, and its end
abbrev pub found_reported : {S : Type 0} → (S → Reported) → Option (S × ℕ) → Option (Reported × ℕ)
found_reported reported None = None
found_reported reported (Some span) = Some (reported span.0, span.1)
