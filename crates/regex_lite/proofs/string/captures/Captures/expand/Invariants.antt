use Rattle.regex_lite.proofs.Common.{◌≡◌, ℕ, List, ◌++◌, length, string_bytes, IsInterpolation}
use Rattle.regex_lite.proofs.Common.{texts_of}
use denote.Shadow.{shadow}
use denote.Text.{Utf8}
use Rattle.regex_lite.proofs.string.captures.Captures.expand.Given as goal

abbrev pub invariant-pieces : goal.invariant-pieces
invariant-pieces l = record {
  text : shadow (Utf8 l.rest);
  so_far : (written : List ℕ) × (string_bytes l.dst ≡ string_bytes l.initial.dst ++ written)
      × ((more : List ℕ) → IsInterpolation (texts_of l.self) l.rest more
      → IsInterpolation (texts_of l.self) l.template (written ++ more));
}

abbrev pub decreases-pieces : goal.decreases-pieces
decreases-pieces l = length l.rest
