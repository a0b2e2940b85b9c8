-- The internal contracts of the search for a fault's end.
use Rattle.std.specs.Prelude.{◌≡◌, ◌⊎◌, ℕ, ◌-◌, ◌<◌, ◌≤◌, take}
use Rattle.regex_lite_syntax.specs.declared.error.ErrorKind.{ErrorKind}
use Rattle.regex_lite_syntax.specs.declared.error.ErrorKind.TheVariants.{Groups, Memory}
use Rattle.regex_lite_syntax.specs.declared.flags.Flags.{Flags}
use Rattle.regex_lite_syntax.specs.FaultPlaces.{BeginsNone, BeginsSome}
use Rattle.regex_lite_syntax.specs.Limits.{PassesGroups, openings}
use Rattle.regex_lite_syntax.specs.Text.{Text}

-- an error of this kind means that the text isn't parsed for a reason other than a fault: it has
-- too many groups to be numbered, or memory ran out
abbrev pub IsRefusedUnread : Text → ErrorKind → Type 0
IsRefusedUnread pattern Groups = PassesGroups (openings pattern)
IsRefusedUnread pattern Memory = Unit {0}
IsRefusedUnread pattern _ = ⊥

-- some accepted pattern begins with the first `k` characters, or `k` is just `start`
abbrev pub GoesOnFrom : Flags → Text → (start k : ℕ) → Type 0
GoesOnFrom flags pattern start k = (k ≡ start) ⊎ BeginsSome flags (take k pattern)

-- `end` is above `low` and at most `high`; no accepted pattern begins with the first `end`
-- characters, while one begins with one character less, or that is `low`
pub record IsEndAbove (flags : Flags) (pattern : Text) (low high end : ℕ) : Type 0 where
  pub past : low < end
  pub inside : end ≤ high
  pub none : BeginsNone flags (take end pattern)
  pub before : GoesOnFrom flags pattern low (end - 1)
