-- Where words may stand that share a letter.
use Rattle.regex_lite_syntax.proofs.Common.{◌≡◌, ℕ, ◌+◌, ◌-◌, ◌≤◌, max, List, [], ◌∷◌, drop, arith}
use Rattle.regex_lite_syntax.proofs.Common.{◌<◌, ◌∙◌, ap, get_or, get_or-drop, length, length-drop}
use Rattle.regex_lite_syntax.proofs.Common.{subst, sym, IsLetter, Letter, NoneStands, StartsWith}
use Rattle.std.proofs.Common.{⊎_elim}
use Rattle.std.proofs.lemmas.List.{drop-drop}
use Rattle.regex_lite_syntax.specs.Prefilter.Finders.{IsSharedBy}
use Rattle.regex_lite_syntax.specs.Prefilter.Words.{AnyStandsAt}
use Rattle.regex_lite_syntax.specs.declared.prefilter.words.shifts.shared_letter.SharedLetter.{
  SharedLetter,
}
use Rattle.regex_lite_syntax.proofs.prefilter.words.NextLemmas.{any_stands, only_stands}
use Rattle.regex_lite_syntax.proofs.prefilter.words.StandLemmas.{start_length, start_letter}
use Rattle.regex_lite_syntax.proofs.prefilter.words.StandLemmas.{starts_by_letters}

-- where a word begins that has no letter but this one at a place, it stands there
pub starts_with_letter : (word : List Letter) (bytes : List ℕ) (letter one : Letter) (k : ℕ)
    → k < length word → one ≡ get_or word k one
    → IsLetter letter one.byte → IsLetter letter one.other → StartsWith word bytes
    → StartsWith (letter ∷ []) (drop k bytes)
starts_with_letter word bytes letter one k inside is is_byte is_other starts =
    starts_by_letters (letter ∷ []) (drop k bytes) letter
    (omega (arith, start_length word bytes starts, length-drop k bytes, inside))
    (λ n below.
    let first : n ≡ 0 = omega (arith, below) in
    let here : get_or (drop k bytes) n 0 ≡ get_or bytes k 0 =
    get_or-drop k bytes n 0 ∙ ap (λ i. get_or bytes i 0) (omega (arith, first)) in
    subst (λ i. IsLetter (get_or (letter ∷ []) i letter) (get_or (drop k bytes) n 0)) (sym first)
    (subst (IsLetter letter) (sym here)
    (⊎_elim (λ own. subst (IsLetter letter) (sym own) is_byte)
    (λ own. subst (IsLetter letter) (sym own) is_other)
    (subst (λ l. IsLetter l (get_or bytes k 0)) (sym is)
    (start_letter word bytes one starts k inside)))))

-- where a word stands, the letter stands at most as far behind as its offset
letter_near : (words : List (List Letter)) (shared : SharedLetter) (bytes : List ℕ) (at : ℕ)
    → IsSharedBy words shared → AnyStandsAt words bytes at
    → (k : ℕ) × (k ≤ shared.offset) × AnyStandsAt ((shared.letter ∷ []) ∷ []) bytes (at + k)
letter_near words shared bytes at is (number, inside, stands) =
    let (k, near, there) = is number (drop at bytes) inside stands in (
      k,
      near,
      any_stands (shared.letter ∷ []) bytes (at + k)
          (subst (StartsWith (shared.letter ∷ [])) (drop-drop k at bytes) there),
    )

-- where the letter stands no more, no word does
pub none_without : (words : List (List Letter)) (shared : SharedLetter) (bytes : List ℕ) (from : ℕ)
    → IsSharedBy words shared
    → ((at : ℕ) → from ≤ at → ¬ AnyStandsAt ((shared.letter ∷ []) ∷ []) bytes at)
    → (at : ℕ) → from ≤ at → ¬ AnyStandsAt words bytes at
none_without words shared bytes from is none at low stands =
    let (k, near, there) = letter_near words shared bytes at is stands in
    none (at + k) (omega (arith, low)) there

-- and where it stands first, no word does up to as far before it as its offset
pub none_up_to : (words : List (List Letter)) (shared : SharedLetter) (bytes : List ℕ)
    (from at start : ℕ) → IsSharedBy words shared
    → NoneStands ((shared.letter ∷ []) ∷ []) bytes from at → start ≡ max (at - shared.offset) from
    → NoneStands words bytes from start
none_up_to words shared bytes from at start is none begins k low high stands =
    let (n, near, there) = letter_near words shared bytes k is stands in
    none (k + n) (omega (arith, low)) (omega (arith, near, low, high, begins)) there

-- where the letter stands there is a byte
pub letter_inside : (letter : Letter) (bytes : List ℕ) (at : ℕ)
    → AnyStandsAt ((letter ∷ []) ∷ []) bytes at → at < length bytes
letter_inside letter bytes at stands =
    let long = start_length (letter ∷ []) (drop at bytes)
    (only_stands (letter ∷ []) bytes at stands) in
    omega (arith, long, length-drop at bytes)
