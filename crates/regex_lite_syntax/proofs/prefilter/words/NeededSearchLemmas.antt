-- How the first of several words is found that stands in some bytes.
use Rattle.regex_lite_syntax.proofs.Common.{◌≡◌, ◌⊎◌, ℕ, ◌+◌, ◌<◌, ◌≤◌, List, [], ◌∷◌, Option}
use Rattle.regex_lite_syntax.proofs.Common.{Some, None, IfSome, length, take, drop, arith, subst}
use Rattle.regex_lite_syntax.proofs.Common.{sym, refl, inl, inr, cases_eq, Letter, NoneStands}
use Rattle.regex_lite_syntax.proofs.Common.{StartsWith, length-drop, true, false, false≢true}
use Rattle.std.proofs.Common.{is_some, length-take}
use Rattle.std.proofs.lemmas.List.{get_or-take, take_all}
use Rattle.regex_lite_syntax.specs.declared.prefilter.words.pair.Pair.{Pair}
use Rattle.regex_lite_syntax.specs.Prefilter.Needed.{HavePairs, IsNextBelow, IsNextOf}
use Rattle.regex_lite_syntax.specs.Prefilter.Words.{AnyStandsAt, word_at}
use Rattle.regex_lite_syntax.proofs.prefilter.words.NextLemmas.{any_stands, none_joined, only_stands}
use Rattle.regex_lite_syntax.proofs.prefilter.words.StandLemmas.{start_length}

-- of the first words, as many as that, this is the first that stands before the limit, or none
-- stands before it
pub record LooksFor (words : List (List Letter)) (count : ℕ) (bytes : List ℕ) (from limit : ℕ)
    (found : Option ℕ) (end : ℕ) : Type 0 where
  pub low : from ≤ end
  pub high : end ≤ limit
  pub none : NoneStands (take count words) bytes from end
  pub nowhere : found ≡ None → end ≡ limit
  pub stands : IfSome found (λ at. (at ≡ end) × AnyStandsAt words bytes at)

pub looks_for_none : (words : List (List Letter)) (bytes : List ℕ) (from limit : ℕ) → from ≤ limit
    → LooksFor words 0 bytes from limit None limit
looks_for_none words bytes from limit order = record {
  low = order;
  high = omega arith;
  none = λ at low high (number, inside, stands). omega (arith, inside);
  nowhere = λ _. refl;
  stands = tt;
}

-- one of some words and one more stands
one_more : (words : List (List Letter)) (bytes : List ℕ) (k at : ℕ)
    → AnyStandsAt (take (k + 1) words) bytes at
    → AnyStandsAt (take k words) bytes at ⊎ StartsWith (word_at words k) (drop at bytes)
one_more words bytes k at (number, inside, stands) = elim (cases_eq number k) [
  | inl same ↦ inr (subst (λ n. StartsWith (word_at words n) (drop at bytes)) same there)
  | inr other ↦ inl (
    number,
    omega (arith, inside, other, length-take (k + 1) words, length-take k words),
    subst (λ word. StartsWith word (drop at bytes))
        (sym (get_or-take k words number [] (omega (arith, below, other)))) there,
  )
]
  where
    below : number < k + 1
    below = omega (arith, inside, length-take (k + 1) words)

    there : StartsWith (word_at words number) (drop at bytes)
    there = subst (λ word. StartsWith word (drop at bytes))
        (get_or-take (k + 1) words number [] below) stands

-- the next word stands before all others
pub one_found : (words : List (List Letter)) (word : List Letter) (bytes : List ℕ)
    (from limit k end at : ℕ) (found : Option ℕ) → k < length words → word ≡ word_at words k
    → at < end → LooksFor words k bytes from limit found end
    → (from ≤ at) × NoneStands (word ∷ []) bytes from at × AnyStandsAt (word ∷ []) bytes at
    → LooksFor words (k + 1) bytes from limit (Some at) at
one_found words word bytes from limit k end at found inside is before looks (low, none, stands) =
    record {
      low = low;
      high = let high = looks.high in omega (arith, before, high);
      none = λ here low high any. elim (one_more words bytes k here any) [
        | inl first ↦ looks.none here low (omega (arith, high, before)) first
        | inr own ↦ none here low high (any_stands word bytes here
            (subst (λ word. StartsWith word (drop here bytes)) (sym is) own))
      ];
      nowhere = λ never. absurd cc;
      stands = (
        refl,
        (
          k,
          inside,
          subst (λ word. StartsWith word (drop at bytes)) is
              (only_stands word bytes at stands),
        ),
      );
    }

-- or it doesn't stand before them
pub one_not_found : (words : List (List Letter)) (word : List Letter) (bytes : List ℕ)
    (from limit k end : ℕ) (found : Option ℕ) → word ≡ word_at words k
    → LooksFor words k bytes from limit found end → NoneStands (word ∷ []) bytes from end
    → LooksFor words (k + 1) bytes from limit found end
one_not_found words word bytes from limit k end found is looks none = record {
  low = looks.low;
  high = looks.high;
  none = λ here low high any. elim (one_more words bytes k here any) [
    | inl first ↦ looks.none here low high first
    | inr own ↦ none here low high (any_stands word bytes here
        (subst (λ word. StartsWith word (drop here bytes)) (sym is) own))
  ];
  nowhere = looks.nowhere;
  stands = looks.stands;
}

-- all words were looked for
pub all_looked_for : (words : List (List Letter)) (bytes : List ℕ) (from limit k end : ℕ)
    (found : Option ℕ) → length words ≤ k → LooksFor words k bytes from limit found end
    → IsNextBelow words bytes from limit found
all_looked_for words bytes from limit k end None all looks =
    subst (λ words. NoneStands words bytes from limit) (take_all k words all)
    (subst (NoneStands (take k words) bytes from) (looks.nowhere refl) looks.none)
all_looked_for words bytes from limit k end (Some at) all looks =
    let low = looks.low in (
      omega (arith, low, looks.stands.0),
      subst (λ words. NoneStands words bytes from at) (take_all k words all)
          (subst (NoneStands (take k words) bytes from) (sym looks.stands.0) looks.none),
      looks.stands.1,
    )

-- what is found before a limit is the next, if nothing stands before those that were asked about
pub next_found : (words : List (List Letter)) (bytes : List ℕ) (from middle limit : ℕ)
    (found : Option ℕ) → is_some found ≡ true → from ≤ middle
    → NoneStands words bytes from middle → IsNextBelow words bytes middle limit found
    → IsNextOf words bytes from found
next_found words bytes from middle limit None is order front none = absurd (false≢true is)
next_found words bytes from middle limit (Some at) is order front (low, back, stands) =
    (omega (arith, order, low), none_joined words bytes from middle at front back, stands)

-- and where none is found, none stands up to there
pub next_not_found : (words : List (List Letter)) (bytes : List ℕ) (from middle limit : ℕ)
    (found : Option ℕ) → is_some found ≡ false → NoneStands words bytes from middle
    → IsNextBelow words bytes middle limit found → NoneStands words bytes from limit
next_not_found words bytes from middle limit None is front none =
    none_joined words bytes from middle limit front none
next_not_found words bytes from middle limit (Some at) is front found =
    absurd (false≢true (sym is))

-- words that have letters stand before the end
stands_inside : (words : List (List Letter)) (bytes : List ℕ) (at : ℕ)
    → ((k : ℕ) → k < length words → 0 < length (word_at words k)) → AnyStandsAt words bytes at
    → at < length bytes
stands_inside words bytes at some (number, inside, stands) =
    let long = start_length (word_at words number) (drop at bytes) stands in
    omega (arith, long, some number inside, length-drop at bytes)

pub next_inside : (words : List (List Letter)) (bytes : List ℕ) (from : ℕ) (found : Option ℕ)
    → ((k : ℕ) → k < length words → 0 < length (word_at words k))
    → IsNextOf words bytes from found → IfSome found (λ at. at < length bytes)
next_inside words bytes from None some none = tt
next_inside words bytes from (Some at) some (low, none, stands) =
    stands_inside words bytes at some stands

-- so none of them stands after it
pub none_at_end : (words : List (List Letter)) (bytes : List ℕ) (at : ℕ)
    → ((k : ℕ) → k < length words → 0 < length (word_at words k)) → length bytes ≤ at
    → ¬ AnyStandsAt words bytes at
none_at_end words bytes at some end stands =
    let within = stands_inside words bytes at some stands in omega (arith, within, end)

-- words of which each has a pair of its letters have letters
pub with_pairs : (inner words : List (List Letter)) (pairs : List Pair) → inner ≡ words
    → HavePairs inner (length inner) pairs
    → (k : ℕ) → k < length words → 0 < length (word_at words k)
with_pairs inner words pairs same have k lt =
    subst (λ words. (k : ℕ) → k < length words → 0 < length (word_at words k)) same
    (λ k lt. let first = (have k lt).0 in omega (arith, first)) k lt
