-- The bytes of characters that may stand before a word, and where they lead to it.
use Rattle.regex_lite_syntax.proofs.Common.{◌≡◌, ℕ, zero, suc, ◌+◌, ◌-◌, ◌<◌, ◌≤◌, List}
use Rattle.regex_lite_syntax.proofs.Common.{[], ◌∷◌, ◌++◌, length, drop, Text, inl, inr}
use Rattle.regex_lite_syntax.proofs.Common.{sym, refl, ap, ◌∙◌, subst, arith, true, false, Some}
use Rattle.regex_lite_syntax.proofs.Common.{None, Letter, length-drop}
use Rattle.regex_lite_syntax.proofs.Common.{slice_get, slice_index, FirstSet, begins_with, cases_lt}
use Rattle.std.specs.Char.{encode_utf8}
use Rattle.std.proofs.Common.{encode_utf8_all}
use Rattle.std.proofs.Math.ListN.{get_or-append}
use Rattle.std.proofs.Math.Seq.{drop-append_seam, get_or-append_right}
use Rattle.std.proofs.lemmas.Bool.{cond-false, cond-true}
use Rattle.std.proofs.Common.{le-ltb, lt-ltb}
use Rattle.std.proofs.lemmas.List.{drop-drop}
use Rattle.std.proofs.lemmas.Str.{encode_ascii, len_utf8_bounds, length-encode}
use Rattle.regex_lite_syntax.specs.Prefilter.Needed.{IsNextReach, NeededWords, Reaches}
use Rattle.regex_lite_syntax.specs.Prefilter.NeededWalk.{AreAmong}
use Rattle.regex_lite_syntax.specs.Prefilter.FirstSet.{AreBetween}
use Rattle.regex_lite_syntax.specs.Prefilter.Words.{AnyStandsAt, NoneStands}
use Rattle.std.proofs.lemmas.Bool.{true≢false}
use Rattle.regex_lite_syntax.proofs.prefilter.first_set.StartLemmas.{begins_as_one}
use Rattle.regex_lite_syntax.proofs.prefilter.words.NextLemmas.{only_stands}
use Rattle.regex_lite_syntax.proofs.prefilter.words.StandLemmas.{start_length}

abbrev AllHigh : List ℕ → Type 0
AllHigh [] = Unit {0}
AllHigh (byte ∷ bytes) = (128 ≤ byte) × AllHigh bytes

-- a character that is not ASCII has no byte that is
all_high : (c : ℕ) → 128 ≤ c → AllHigh (encode_utf8 c)
unfolding encode_utf8
all_high c high = elim (cases_lt c 2048) [
  | inl two ↦
      subst AllHigh (sym (cond-false _ _ _ (le-ltb c 128 high)
      ∙ cond-true _ _ _ (lt-ltb c 2048 two)))
      (omega arith, (omega arith, tt))
  | inr more ↦ elim (cases_lt c 65536) [
    | inl three ↦
        subst AllHigh (sym (cond-false _ _ _ (le-ltb c 128 high)
        ∙ cond-false _ _ _ (le-ltb c 2048 more) ∙ cond-true _ _ _ (lt-ltb c 65536 three)))
        (omega arith, (omega arith, (omega arith, tt)))
    | inr four ↦
        subst AllHigh (sym (cond-false _ _ _ (le-ltb c 128 high)
        ∙ cond-false _ _ _ (le-ltb c 2048 more) ∙ cond-false _ _ _ (le-ltb c 65536 four)))
        (omega arith, (omega arith, (omega arith, (omega arith, tt))))
  ]
]

high_at : (bytes : List ℕ) (k : ℕ) → AllHigh bytes → k < length bytes
    → 128 ≤ slice_index bytes k
high_at [] k high lt = absurd (omega (arith, lt))
high_at (byte ∷ bytes) zero high lt = high.0
high_at (byte ∷ bytes) (suc k) high lt = high_at bytes k high.1 (omega (arith, lt))

-- the bytes of a character are among those among which the character is
pub byte_among : (s : FirstSet) (c : ℕ) → begins_with s c ≡ true
    → AreAmong s (encode_utf8 c) (length (encode_utf8 c))
byte_among s c own k lt = elim (cases_lt c 128) [
  | inl ascii ↦
      let is = encode_ascii c ascii in
      let one : k ≡ 0 = omega (arith, lt, ap length is) in
      ap (λ n. begins_with s (slice_index (encode_utf8 c) n)) one
      ∙ ap (λ b. begins_with s (slice_index b 0)) is ∙ own
  | inr high ↦
      begins_as_one s _ (high_at (encode_utf8 c) k (all_high c high) lt)
      ∙ sym (begins_as_one s c high) ∙ own
]

-- a character is among those among which its bytes are
pub char_among : (s : FirstSet) (c : ℕ) → AreAmong s (encode_utf8 c) (length (encode_utf8 c))
    → begins_with s c ≡ true
char_among s c among = elim (cases_lt c 128) [
  | inl ascii ↦
      sym (ap (λ b. begins_with s (slice_index b 0)) (encode_ascii c ascii)) ∙ among 0 some
  | inr high ↦
      begins_as_one s c high
      ∙ sym (begins_as_one s _ (high_at (encode_utf8 c) 0 (all_high c high) some)) ∙ among 0 some
]
  where
    some : 0 < length (encode_utf8 c)
    some = omega (arith, length-encode c, (len_utf8_bounds c).0)

-- the bytes of the first characters, as many as that, and those after them
bytes_after : (s : FirstSet) (n : ℕ) (text : Text) → AreBetween s text 0 n
    → (m : ℕ) × (encode_utf8_all (drop n text) ≡ drop m (encode_utf8_all text))
    × AreAmong s (encode_utf8_all text) m
bytes_after s zero text all = (0, refl, λ k lt. absurd (omega (arith, lt)))
bytes_after s (suc n) [] all = (0, refl, λ k lt. absurd (omega (arith, lt)))
bytes_after s (suc n) (c ∷ text) all =
    let (m, is, among) = bytes_after s n text
    (λ k d low high there. all (suc k) d (omega arith) (omega (arith, high)) there) in
    let first = encode_utf8 c in (
      length first + m,
      is ∙ ap (drop m) (sym (drop-append_seam first (encode_utf8_all text)))
          ∙ drop-drop m (length first) (first ++ encode_utf8_all text),
      λ k lt. elim (cases_lt k (length first)) [
        | inl before ↦
            ap (begins_with s) (get_or-append first (encode_utf8_all text) 0 k before)
            ∙ byte_among s c (all 0 c (omega arith) (omega arith) refl) k before
        | inr later ↦
            ap (begins_with s) (get_or-append_right first (encode_utf8_all text) k 0 later)
            ∙ among (k - length first) (omega (arith, lt, later))
      ],
    )

get_after : (i k : ℕ) (h : Text) → slice_get (drop i h) k ≡ slice_get h (i + k)
get_after zero k h = let same : k ≡ 0 + k = omega arith in ap (slice_get h) same
get_after (suc i) k [] = refl
get_after (suc i) k (c ∷ h) =
    let same : suc (i + k) ≡ suc i + k = omega arith in
    get_after i k h ∙ ap (slice_get (c ∷ h)) same

-- those from a later position on are among those from an earlier one on
pub bytes_later : (s : FirstSet) (h : Text) (i j : ℕ) → i ≤ j → AreBetween s h i j
    → (m : ℕ) × (encode_utf8_all (drop j h) ≡ drop m (encode_utf8_all (drop i h)))
    × AreAmong s (encode_utf8_all (drop i h)) m
bytes_later s h i j le all =
    let (m, is, among) = bytes_after s (j - i) (drop i h) (λ k c low high there.
    all (i + k) c (omega arith) (omega (arith, high, le)) (sym (get_after i k h) ∙ there)) in
    let same : i + (j - i) ≡ j = omega (arith, le) in (
      m,
      ap (λ n. encode_utf8_all (drop n h)) (sym same)
          ∙ ap encode_utf8_all (sym (drop-drop (j - i) i h)) ∙ is,
      among,
    )

-- where only such characters lead back from the word to an offset, and no further, it is the next
-- one from which the word is reached
pub next_reached : (needed : NeededWords) (bytes : List ℕ) (from start word : ℕ) → from ≤ start
    → start ≤ word → NoneStands needed.words bytes from word
    → AnyStandsAt needed.words bytes word
    → ((k : ℕ) → start ≤ k → k < word → begins_with needed.lead (slice_index bytes k) ≡ true)
    → (from < start → begins_with needed.lead (slice_index bytes (start - 1)) ≡ false)
    → IsNextReach needed bytes from (Some (record { from = start; word = word }))
next_reached needed bytes from start word low high none stands led stops =
    (low, (high, stands, led), none, before)
  where
    before : (k : ℕ) → from ≤ k → k < start → ¬ Reaches needed bytes k
    before k later less (at, (le, there, ahead)) = elim (cases_lt at word) [
      | inl lt ↦ none at (omega (arith, later, le)) lt there
      | inr ge ↦
          let is = ahead (start - 1) (omega (arith, less)) (omega (arith, less, high, ge)) in
          let off = stops (omega (arith, later, less)) in
          true≢false (sym is ∙ off)
    ]

pub never_reached : (needed : NeededWords) (bytes : List ℕ) (from : ℕ)
    → ((at : ℕ) → from ≤ at → ¬ AnyStandsAt needed.words bytes at)
    → IsNextReach needed bytes from None
never_reached needed bytes from none k later (at, (le, there, ahead)) =
    none at (omega (arith, later, le)) there

-- a word that has letters stands before the end
pub word_inside : (word : List Letter) (bytes : List ℕ) (at : ℕ) → 0 < length word
    → AnyStandsAt (word ∷ []) bytes at → at < length bytes
word_inside word bytes at some stands =
    let long = start_length word (drop at bytes) (only_stands word bytes at stands) in
    omega (arith, long, some, length-drop at bytes)
