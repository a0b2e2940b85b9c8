-- Buffered output, and how much of it was written.
use Rattle.std.specs.Prelude.{◌≡◌, ◌++◌, ℕ, Bool, List, Option, MatchBool}
use Rattle.std.specs.Io.KnownBytes.{Appends}
use Rattle.regex_lite.specs.Replacing.{Begins}
use Rattle.rxl.specs.declared.output.Output.{Output}

-- a writer that held the first bytes holds the second now: all of the text was written, or a prefix
-- of it
pub record IsWritten (before now : Option (List ℕ)) (text : List ℕ) (all : Bool) : Type 0 where
  pub written : List ℕ
  pub appended : Appends before now written
  pub reported : MatchBool all (text ≡ written) (Begins written text)

-- since the writer held the first bytes this text was printed: it was written except for what is
-- buffered, or, once a write failed, a prefix of it was written
pub record IsPrinted (before now : Option (List ℕ)) (output : Output) (text : List ℕ)
    : Type 0 where
  pub written : List ℕ
  pub appended : Appends before now written
  pub reported : MatchBool output.has_failed (Begins written text)
      (text ≡ written ++ output.waiting.items)

-- the text was printed after whatever was printed before
abbrev pub Puts : Output → (held : Option (List ℕ)) → Output → (holds : Option (List ℕ))
    → (text : List ℕ) → Type 0
Puts old held new holds text =
    (before : Option (List ℕ)) (printed : List ℕ) → IsPrinted before held old printed
    → IsPrinted before holds new (printed ++ text)

-- some text with this property was printed after whatever was printed before
abbrev pub PutsSome : (List ℕ → Type 0) → Output → (held : Option (List ℕ)) → Output
    → (holds : Option (List ℕ)) → Type 0
PutsSome Is old held new holds = (text : List ℕ) × Is text × Puts old held new holds text
