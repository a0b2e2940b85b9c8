-- What a prefilter says of the bytes at which a match can begin.
use Rattle.std.specs.Prelude.{◌≡◌, ◌+◌, ◌<◌, ℕ, Bool, true, false, ◌&&◌}
use Rattle.std.specs.Prelude.{nat_eq, nat_le, List, length, slice_index}
use Rattle.std.specs.List.{list_any}
use Rattle.regex_lite_syntax.specs.declared.prefilter.prefixes.PrefixSets.{PrefixSets}
use Rattle.regex_lite_syntax.specs.declared.prefilter.Prefilter.{Prefilter}
use Rattle.regex_lite_syntax.specs.declared.prefilter.Prefilter.TheVariants.{Pair, Four, Eight}
use Rattle.regex_lite_syntax.specs.declared.prefilter.Prefilter.TheVariants.{Range}
use Rattle.regex_lite_syntax.specs.declared.prefilter.first_set.FirstSet.{FirstSet}
use Rattle.regex_lite_syntax.specs.Prefilter.PrefixSets.{IsPassed}
use Rattle.regex_lite_syntax.specs.Prefilter.FirstSet.{stops_at}

-- the byte is one of these
abbrev pub is_among : List ℕ → ℕ → Bool
is_among bytes byte = list_any (λ own. nat_eq byte own) bytes

-- a match may begin with this byte, where that one stands after it
abbrev pub suits : Prefilter → (byte after : ℕ) → Bool
suits (Pair firsts seconds) byte after = is_among firsts byte && is_among seconds after
suits (Four bytes) byte after = is_among bytes byte
suits (Eight bytes) byte after = is_among bytes byte
suits (Range low high) byte after = nat_le low byte && nat_le byte high

-- the byte is one of the first of these
abbrev pub StandsBelow : List ℕ → (len byte : ℕ) → Type 0
StandsBelow bytes len byte = (i : ℕ) × (i < len) × (slice_index bytes i ≡ byte)

-- the bytes with which a match can begin are all ASCII, and among these
pub record AreAllBytes (starts : FirstSet) (bytes : List ℕ) : Type 0 where
  pub ascii : (byte : ℕ) → stops_at starts byte ≡ true → byte < 128
  pub among : (byte : ℕ) → stops_at starts byte ≡ true → is_among bytes byte ≡ true

-- the prefix sets rule out each byte that doesn't suit, unless it is the last one
abbrev pub IsPrefilterOf : PrefixSets → Prefilter → Type 0
IsPrefilterOf prefixes filter =
    (bytes : List ℕ) (k : ℕ) → k + 1 < length bytes
    → suits filter (slice_index bytes k) (slice_index bytes (k + 1)) ≡ false
    → IsPassed prefixes bytes k
