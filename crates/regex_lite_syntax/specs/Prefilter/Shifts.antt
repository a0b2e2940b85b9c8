-- How far a search for several words may shift from a pair of bytes, and how it comes to the words
-- that may stand where it can't.
use Rattle.std.specs.Prelude.{◌≡◌, ◌⊎◌, ◌≤◌, ◌<◌, ◌+◌, ◌-◌, ◌*◌, ◌/◌, ◌%◌, ◌^◌, ℕ, List, bit_and}
use Rattle.std.specs.Prelude.{bit_xor, length, slice_index, take}
use Rattle.std.specs.List.{fold}
use Rattle.regex_lite_syntax.specs.declared.prefilter.words.letter.Letter.{Letter}
use Rattle.regex_lite_syntax.specs.Prefilter.Words.{StartsWith, WordStandsAt, word_at}

-- the key of a pair of bytes, which is the same for a letter in both cases
unfoldable pub key_of : (first second : ℕ) → ℕ
key_of first second = first % 32 * 32 + second % 32

-- wherever the word stands, the shift from a pair of its bytes that ends within the reach doesn't
-- pass the place where it begins
abbrev pub NeverPasses : (reach : ℕ) → (shifts : List ℕ) → (word : List Letter) → Type 0
NeverPasses reach shifts word =
    (bytes : List ℕ) (k : ℕ) → StartsWith word bytes → k + 2 ≤ reach
    → slice_index shifts (key_of (slice_index bytes k) (slice_index bytes (k + 1))) + k + 2 ≤ reach

-- the shifts for each key, none of which passes a word
pub record AreShifts (words : List (List Letter)) (reach : ℕ) (shifts : List ℕ) : Type 0 where
  pub keys : length shifts ≡ 1024
  pub below : (key : ℕ) → slice_index shifts key < reach
  pub near : (number : ℕ) → number < length words
      → NeverPasses reach shifts (word_at words number)

-- the hash of bytes, with one more
unfoldable pub mixed : (hash byte : ℕ) → ℕ
mixed hash byte = (hash * 47 % 2 ^ 64 + byte % 32) % 2 ^ 64

-- a number that depends on the bytes and their order, and not on the case of letters
unfoldable pub hash_of : List ℕ → ℕ
hash_of bytes = fold mixed 0 bytes

-- the bucket of this hash
unfoldable pub bucket_at : (hash buckets : ℕ) → ℕ
bucket_at hash buckets = bit_and (bit_xor hash (hash / 128)) (buckets - 1)

-- the bucket of the bytes, which depends on this many of them
abbrev pub bucket_of : (hashed buckets : ℕ) → (bytes : List ℕ) → ℕ
bucket_of hashed buckets bytes = bucket_at (hash_of (take hashed bytes)) buckets

-- The word is reached from the link. A link is 0 or the number of a word and one more, and from
-- there one goes on to the next link of that word.
pub data IsLinked (next : List ℕ) (number : ℕ) : (link : ℕ) → Type 0 where
  here : {link : ℕ} → link ≡ number + 1 → IsLinked next number link
  further : {link : ℕ} → 0 < link → link ≤ number
      → IsLinked next number (slice_index next (link - 1)) → IsLinked next number link

-- each word is reached from the first link of the bucket of the bytes at which it stands, and links
-- lead to words only, in the order of their numbers
pub record AreLinks (words : List (List Letter)) (hashed : ℕ) (first next : List ℕ) : Type 0 where
  pub buckets : 0 < length first
  pub numbers : length next ≡ length words
  pub first_inside : (bucket : ℕ) → slice_index first bucket ≤ length words
  pub next_inside : (number : ℕ) → slice_index next number ≤ length words
  pub rise : (number : ℕ) → (slice_index next number ≡ 0) ⊎ (number + 1 < slice_index next number)
  pub reached : (number : ℕ) (bytes : List ℕ) → number < length words
      → StartsWith (word_at words number) bytes
      → IsLinked next number (slice_index first (bucket_of hashed (length first) bytes))

-- each word that stands at the offset is reached from the link
pub record LeadsToAllAt (words : List (List Letter)) (next bytes : List ℕ) (at link : ℕ) : Type 0
  where
    pub inside : link ≤ length words
    pub reached : (number : ℕ) → number < length words → WordStandsAt words bytes number at
        → IsLinked next number link
