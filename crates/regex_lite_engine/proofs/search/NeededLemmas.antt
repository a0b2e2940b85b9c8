-- Positions from which a word that each match needs isn't reached.
use Rattle.regex_lite_engine.proofs.Common.{◌≡◌, ℕ, ◌+◌, ◌-◌, ◌<◌, ◌≤◌, List, [], ◌∷◌, drop, IsUtf8}
use Rattle.regex_lite_engine.proofs.Common.{chars, encodes-chars, length, slice_index, sym, ap, ◌∙◌}
use Rattle.regex_lite_engine.proofs.Common.{offset, subst, arith, cases_lt, inl, inr, true, Some}
use Rattle.regex_lite_engine.proofs.Common.{None, Option, Text}
use Rattle.std.proofs.Common.{MatchOption, encode_utf8_all}
use Rattle.std.proofs.Math.ListN.{drop_of_length-le}
use Rattle.std.proofs.lemmas.List.{drop-drop, get_or-drop}
use Rattle.regex_lite_syntax.specs.Prefilter.Needed.{IsNextReach, IsOutOfReach, NeededWords, Reaches}
use Rattle.regex_lite_syntax.specs.Prefilter.StartFacts.{NeverStarts, StartFacts}
use Rattle.regex_lite_syntax.specs.Prefilter.FirstSet.{begins_with}
use Rattle.regex_lite_syntax.specs.Prefilter.Words.{AnyStandsAt, NoneStands, StartsWith, word_at}
use Rattle.regex_lite_syntax.specs.declared.prefilter.words.needed.Reach.{Reach}
use Rattle.regex_lite_syntax.specs.declared.prefilter.words.letter.Letter.{Letter}
use Rattle.regex_lite_engine.proofs.OffsetLemmas.{rest_at}
use Rattle.regex_lite_engine.proofs.search.SkipLemmas.{AllBetween}

-- it isn't reached from a position if it isn't from its offset
pub out_of_reach : (needed : NeededWords) (bs : List ℕ) → IsUtf8 bs → (i : ℕ)
    → ¬ Reaches needed bs (offset (chars bs) i) → IsOutOfReach needed (chars bs) i
out_of_reach needed bs utf8 i never (k, (low, (number, inside, stands), led)) =
    never (off + k, (omega arith, (number, inside, subst (StartsWith word) same stands), leads))
  where
    off : ℕ
    off = offset (chars bs) i

    word : List Letter
    word = word_at needed.words number

    rest : encode_utf8_all (drop i (chars bs)) ≡ drop off bs
    rest = sym (ap (drop off) (sym (encodes-chars bs utf8)) ∙ rest_at (chars bs) i)

    same : drop k (encode_utf8_all (drop i (chars bs))) ≡ drop (off + k) bs
    same = ap (drop k) rest ∙ drop-drop k off bs

    leads : (n : ℕ) → off ≤ n → n < off + k
        → begins_with needed.lead (slice_index bs n) ≡ true
    leads n from below =
        let there : off + (n - off) ≡ n = omega (arith, from) in
        let byte : slice_index (encode_utf8_all (drop i (chars bs))) (n - off) ≡ slice_index bs n
        = ap (λ z. slice_index z (n - off)) rest ∙ get_or-drop off bs (n - off) 0
        ∙ ap (slice_index bs) there in
        sym (ap (begins_with needed.lead) byte) ∙ led (n - off) (omega arith)
        (omega (arith, from, below))

-- the first of these words stands no later than the bytes end
pub stands_inside : (words : List (List Letter)) (bs : List ℕ) (from at : ℕ) → from ≤ length bs
    → AnyStandsAt words bs at → NoneStands words bs from at → at ≤ length bs
stands_inside words bs from at inside (number, small, stands) none =
    elim (cases_lt (length bs) at) [
      | inl past ↦
          let same : drop at bs ≡ drop (length bs) bs
          = drop_of_length-le bs (omega (arith, past))
          ∙ sym (drop_of_length-le bs (omega arith)) in
          absurd (none (length bs) inside past
          (number, small, subst (StartsWith (word_at words number)) same stands))
      | inr le ↦ le
    ]

-- where the word is reached next, it stands inside, and it is reached from nowhere before
pub next_inside : (needed : NeededWords) (bs : List ℕ) (from : ℕ) (next : Option Reach)
    → from ≤ length bs → IsNextReach needed bs from next → MatchOption next
    ((k : ℕ) → from ≤ k → ¬ Reaches needed bs k)
    (λ reach. (from ≤ reach.from) × (reach.from ≤ reach.word) × (reach.from ≤ length bs)
    × ((k : ℕ) → from ≤ k → k < reach.from → ¬ Reaches needed bs k))
next_inside needed bs from None inside none = none
next_inside needed bs from (Some reach) inside (low, (order, there, led), first, none) =
    let last = stands_inside needed.words bs from reach.word inside there first in
    (low, order, omega (arith, order, last), none)

-- what a search has passed over by a word that each match needs, where none begins from which it
-- isn't reached
module _ (Never : Text → ℕ → Type 0) (needed : NeededWords)
    (out : (haystack : Text) (i : ℕ) → IsOutOfReach needed haystack i → Never haystack i)
    (bs : List ℕ) (utf8 : IsUtf8 bs) where
  -- up to this offset, to the next from which it may be reached, and to where a match can begin
  pub passed_on : (low at from to : ℕ)
      → AllBetween (Never (chars bs)) (chars bs) low at
      → ((k : ℕ) → at ≤ k → k < from → ¬ Reaches needed bs k)
      → AllBetween (Never (chars bs)) (chars bs) from to
      → AllBetween (Never (chars bs)) (chars bs) low to
  passed_on low at from to before never begins i inside above below =
      elim (cases_lt (offset (chars bs) i) at) [
        | inl lt ↦ before i inside above lt
        | inr ge ↦
            elim (cases_lt (offset (chars bs) i) from) [
              | inl lt ↦
                  out (chars bs) i (out_of_reach needed bs utf8 i
                  (never (offset (chars bs) i) ge lt))
              | inr ge ↦ begins i inside ge below
            ]
      ]

  -- and up to the end where it is reached no more
  pub passed_all : (low at : ℕ)
      → AllBetween (Never (chars bs)) (chars bs) low at
      → ((k : ℕ) → at ≤ k → ¬ Reaches needed bs k)
      → AllBetween (Never (chars bs)) (chars bs) low (length bs)
  passed_all low at before never =
      passed_on low at (length bs) (length bs) before (λ k from below. never k from)
      (λ i inside above below. absurd (omega (arith, above, below)))
