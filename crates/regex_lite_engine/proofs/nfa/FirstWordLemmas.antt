-- Of the words that stand at an offset one is the first.
use Rattle.regex_lite_engine.proofs.Common.{ℕ, zero, suc, ◌<◌, ◌⊎◌, List, [], ◌∷◌}
use Rattle.regex_lite_engine.proofs.Common.{length, drop, arith, subst, sym, inl, inr, cases_eq}
use Rattle.regex_lite_syntax.specs.Prefilter.Words.{IsFirstAt, IsLetter, StartsWith, WordStandsAt}
use Rattle.regex_lite_syntax.specs.Prefilter.Words.{word_at}
use Rattle.regex_lite_syntax.specs.declared.prefilter.words.letter.Letter.{Letter}

-- a byte is a letter or not
letter_or_not : (letter : Letter) (byte : ℕ) → IsLetter letter byte ⊎ (¬ IsLetter letter byte)
letter_or_not letter byte = elim (cases_eq byte letter.byte) [
  | inl one ↦ inl (inl one)
  | inr apart ↦ elim (cases_eq byte letter.other) [
    | inl other ↦ inl (inr other)
    | inr neither ↦ inr (λ is. elim is [
      | inl one ↦ apart one
      | inr other ↦ neither other
    ])
  ]
]

-- bytes begin with the word or not
starts_or_not : (word : List Letter) (bytes : List ℕ)
    → StartsWith word bytes ⊎ (¬ StartsWith word bytes)
starts_or_not [] bytes = inl tt
starts_or_not (letter ∷ word) [] = inr (λ starts. starts)
starts_or_not (letter ∷ word) (byte ∷ bytes) = elim (letter_or_not letter byte) [
  | inr other ↦ inr (λ starts. other starts.0)
  | inl is ↦ elim (starts_or_not word bytes) [
    | inl rest ↦ inl (is, rest)
    | inr other ↦ inr (λ starts. other starts.1)
  ]
]

module _ (words : List (List Letter)) (bytes : List ℕ) (at : ℕ) where
  -- it is the first that stands there, whether the list has it or not
  abbrev IsFirst : ℕ → Type 0
  IsFirst number =
      WordStandsAt words bytes number at
      × ((other : ℕ) → other < number → ¬ WordStandsAt words bytes other at)

  -- one of these is the first, or none stands
  first_below : (count : ℕ) → ((number : ℕ) × (number < count) × IsFirst number)
      ⊎ ((number : ℕ) → number < count → ¬ WordStandsAt words bytes number at)
  first_below zero = inr (λ number below. absurd (omega (arith, below)))
  first_below (suc count) = elim (first_below count) [
    | inl found ↦ inl (found.0, omega (arith, found.1), found.2)
    | inr none ↦ elim (starts_or_not (word_at words count) (drop at bytes)) [
      | inl stands ↦ inl (count, omega arith, (stands, none))
      | inr not_it ↦ inr (λ number below. elim (cases_eq number count) [
        | inl same ↦ subst (λ n. ¬ WordStandsAt words bytes n at) (sym same) not_it
        | inr apart ↦ none number (omega (arith, below, apart))
      ])
    ]
  ]

  pub first_standing : (number : ℕ) → number < length words → WordStandsAt words bytes number at
      → (first : ℕ) × IsFirstAt words bytes at first
  first_standing number inside stands = elim (first_below number) [
    | inl found ↦ (
      found.0,
      record {
        inside = omega (arith, found.1, inside);
        stands = found.2.0;
        first = found.2.1;
      },
    )
    | inr none ↦ (number, record { inside = inside; stands = stands; first = none })
  ]
