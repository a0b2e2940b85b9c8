-- The word of a slot, and the offset that it stands for.
use Rattle.std.specs.Prelude.{◌≡◌, ℕ, zero, suc, refl, Option, Some, None}

-- none, or the offset below it
abbrev pub held_in : (word : ℕ) → Option ℕ
held_in zero = None
held_in (suc at) = Some at

abbrev pub word_of : Option ℕ → ℕ
word_of None = 0
word_of (Some at) = suc at

-- the word again
pub word_back : (word : ℕ) → word_of (held_in word) ≡ word
word_back zero = refl
word_back (suc at) = refl
