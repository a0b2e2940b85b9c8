-- Where a word stands, letter by letter.
use Rattle.regex_lite_syntax.proofs.Common.{ℕ, zero, suc, ◌+◌, ◌<◌, ◌≤◌, List, [], ◌∷◌, ◌++◌}
use Rattle.regex_lite_syntax.proofs.Common.{length, get_or, drop, arith, subst, sym, get_or-drop}
use Rattle.regex_lite_syntax.proofs.Common.{length-drop, IsLetter, Letter}
use Rattle.regex_lite_syntax.specs.Prefilter.Words.{StartsWith}

-- bytes that begin with a word are as many at least
pub start_length : (word : List Letter) (bytes : List ℕ) → StartsWith word bytes
    → length word ≤ length bytes
start_length [] bytes begins = omega arith
start_length (letter ∷ word) [] begins = absurd begins
start_length (letter ∷ word) (byte ∷ bytes) begins =
    omega (arith, start_length word bytes begins.1)

-- each of them is its letter, whatever stands for letters past the word's end
pub start_letter : (word : List Letter) (bytes : List ℕ) (past : Letter) → StartsWith word bytes
    → (k : ℕ) → k < length word → IsLetter (get_or word k past) (get_or bytes k 0)
start_letter [] bytes past begins k below = absurd (omega arith)
start_letter (letter ∷ word) [] past begins k below = absurd begins
start_letter (letter ∷ word) (byte ∷ bytes) past begins zero below = begins.0
start_letter (letter ∷ word) (byte ∷ bytes) past begins (suc k) below =
    start_letter word bytes past begins.1 k (omega arith)

-- where each byte is its letter, they begin with the word
pub starts_by_letters : (word : List Letter) (bytes : List ℕ) (past : Letter)
    → length word ≤ length bytes
    → ((k : ℕ) → k < length word → IsLetter (get_or word k past) (get_or bytes k 0))
    → StartsWith word bytes
starts_by_letters [] bytes past fits each = tt
starts_by_letters (letter ∷ word) [] past fits each = absurd (omega arith)
starts_by_letters (letter ∷ word) (byte ∷ bytes) past fits each = (
  each 0 (omega arith),
  starts_by_letters word bytes past (omega arith) (λ k below. each (suc k) (omega arith)),
)

-- a word that stands at an offset ends within the bytes
pub stands_inside : (word : List Letter) (bytes : List ℕ) (at : ℕ) → at ≤ length bytes
    → StartsWith word (drop at bytes) → at + length word ≤ length bytes
stands_inside word bytes at within stands =
    omega (arith, start_length word (drop at bytes) stands, length-drop at bytes)

-- and each byte from there on is its letter
pub stands_letter : (word : List Letter) (bytes : List ℕ) (at : ℕ) (past : Letter)
    → StartsWith word (drop at bytes) → (k : ℕ) → k < length word
    → IsLetter (get_or word k past) (get_or bytes (at + k) 0)
stands_letter word bytes at past stands k below =
    subst (λ byte. IsLetter (get_or word k past) byte) (get_or-drop at bytes k 0)
    (start_letter word (drop at bytes) past stands k below)

-- where each byte from an offset on is its letter, the word stands there
pub stands_by_letters : (word : List Letter) (bytes : List ℕ) (at : ℕ) (past : Letter)
    → at + length word ≤ length bytes
    → ((k : ℕ) → k < length word → IsLetter (get_or word k past) (get_or bytes (at + k) 0))
    → StartsWith word (drop at bytes)
stands_by_letters word bytes at past fits each =
    starts_by_letters word (drop at bytes) past (omega (arith, length-drop at bytes))
    (λ k below. subst (λ byte. IsLetter (get_or word k past) byte) (sym (get_or-drop at bytes k 0))
    (each k below))

-- what begins with a word begins with its first part
pub starts_with_front : (front back : List Letter) (bytes : List ℕ)
    → StartsWith (front ++ back) bytes → StartsWith front bytes
starts_with_front [] back bytes begins = tt
starts_with_front (letter ∷ front) back [] begins = absurd begins
starts_with_front (letter ∷ front) back (byte ∷ bytes) begins =
    (begins.0, starts_with_front front back bytes begins.1)

-- and the rest of it stands after that part
pub back_stands : (front back : List Letter) (bytes : List ℕ)
    → StartsWith (front ++ back) bytes → StartsWith back (drop (length front) bytes)
back_stands [] back bytes begins = begins
back_stands (letter ∷ front) back [] begins = absurd begins
back_stands (letter ∷ front) back (byte ∷ bytes) begins = back_stands front back bytes begins.1

-- where one word stands, and another after it, both stand as one
pub starts_with_both : (front back : List Letter) (bytes : List ℕ) → StartsWith front bytes
    → StartsWith back (drop (length front) bytes) → StartsWith (front ++ back) bytes
starts_with_both [] back bytes begins goes_on = goes_on
starts_with_both (letter ∷ front) back [] begins goes_on = absurd begins
starts_with_both (letter ∷ front) back (byte ∷ bytes) begins goes_on =
    (begins.0, starts_with_both front back bytes begins.1 goes_on)

-- what more follows the bytes doesn't matter
pub starts_before : (word : List Letter) (bytes more : List ℕ) → StartsWith word bytes
    → StartsWith word (bytes ++ more)
starts_before [] bytes more begins = tt
starts_before (letter ∷ word) [] more begins = absurd begins
starts_before (letter ∷ word) (byte ∷ bytes) more begins =
    (begins.0, starts_before word bytes more begins.1)
