-- Where none of some words stands, and the one word of a list.
use Rattle.regex_lite_syntax.proofs.Common.{◌≡◌, ℕ, zero, suc, ◌+◌, ◌-◌, ◌<◌, ◌≤◌, List, [], ◌∷◌}
use Rattle.regex_lite_syntax.proofs.Common.{length, drop, arith, subst, sym, cases_lt, cases_eq}
use Rattle.regex_lite_syntax.proofs.Common.{Option, Some, None, false, refl, false≢true}
use Rattle.regex_lite_syntax.proofs.Common.{length-drop, MatchOption, IfSome, IsCharBoundary}
use Rattle.regex_lite_syntax.proofs.Common.{get_or, ap, ◌∙◌, NoneStands, Letter, min, inl, inr}
use Rattle.std.proofs.Common.{⊎_elim, is_some, drop-cons}
use Rattle.regex_lite_syntax.specs.Prefilter.Words.{AreSuited, IsFirstAt, IsNextWord, IsSuited}
use Rattle.regex_lite_syntax.specs.Prefilter.Words.{word_at, AnyStandsAt, StartsWith}
use Rattle.regex_lite_syntax.proofs.prefilter.words.StandLemmas.{start_length}

-- none stands in an empty range
pub none_at_first : (words : List (List Letter)) (bytes : List ℕ) (from : ℕ)
    → NoneStands words bytes from from
none_at_first words bytes from at low high stands = omega arith

-- none from one offset up to the next, and from there up to a third
pub none_joined : (words : List (List Letter)) (bytes : List ℕ) (from middle to : ℕ)
    → NoneStands words bytes from middle → NoneStands words bytes middle to
    → NoneStands words bytes from to
none_joined words bytes from middle to front back at low high =
    ⊎_elim (λ below. front at low below) (λ above. back at above high) (cases_lt at middle)

-- none up to an offset and none there
pub none_and_here : (words : List (List Letter)) (bytes : List ℕ) (from here : ℕ)
    → NoneStands words bytes from here → ¬ AnyStandsAt words bytes here
    → NoneStands words bytes from (here + 1)
none_and_here words bytes from here front none at low high =
    ⊎_elim (λ same. subst (λ x. ¬ AnyStandsAt words bytes x) (sym same) none)
    (λ other. front at low (omega arith)) (cases_eq at here)

-- the one word stands where any does
pub only_stands : (word : List Letter) (bytes : List ℕ) (at : ℕ)
    → AnyStandsAt (word ∷ []) bytes at → StartsWith word (drop at bytes)
only_stands word bytes at (zero, below, stands) = stands
only_stands word bytes at (suc number, below, stands) = absurd (omega arith)

-- and any where it does
pub any_stands : (word : List Letter) (bytes : List ℕ) (at : ℕ)
    → StartsWith word (drop at bytes) → AnyStandsAt (word ∷ []) bytes at
any_stands word bytes at stands = (0, omega arith, stands)

-- where too few bytes are left, it stands no more
pub none_past_end : (word : List Letter) (bytes : List ℕ) (from to : ℕ)
    → length bytes - to < length word → NoneStands (word ∷ []) bytes from to
    → (at : ℕ) → from ≤ at → ¬ AnyStandsAt (word ∷ []) bytes at
none_past_end word bytes from to few none at low stands =
    ⊎_elim (λ below. none at low below stands)
    (λ above. let long = start_length word (drop at bytes) (only_stands word bytes at stands) in
    omega (arith, long, length-drop at bytes, above, few)) (cases_lt at to)

-- what is found from a further offset on is the next from the first one on
pub next_from : {Nowhere : Type 0} (word : List Letter) (bytes : List ℕ) (from middle to : ℕ)
    (found : Option ℕ) → from ≤ middle → NoneStands (word ∷ []) bytes from middle
    → MatchOption found (NoneStands (word ∷ []) bytes middle to)
    (λ at. (middle ≤ at) × NoneStands (word ∷ []) bytes middle at
    × AnyStandsAt (word ∷ []) bytes at)
    → (is_some found ≡ false → NoneStands (word ∷ []) bytes from to → Nowhere)
    → MatchOption found Nowhere
    (λ at. (from ≤ at) × NoneStands (word ∷ []) bytes from at
    × AnyStandsAt (word ∷ []) bytes at)
next_from word bytes from middle to None order front none nowhere =
    nowhere refl (none_joined (word ∷ []) bytes from middle to front none)
next_from word bytes from middle to (Some at) order front (low, back, stands) nowhere =
    (omega arith, none_joined (word ∷ []) bytes from middle at front back, stands)

-- what is found among the offsets behind which as many bytes are left, up to a limit, is the next
-- up to there
pub next_to_limit : (word : List Letter) (bytes : List ℕ) (from limit end : ℕ) (found : Option ℕ)
    → 0 < length word → length word ≤ length bytes
    → end ≡ min (length bytes - length word + 1) limit
    → MatchOption found (NoneStands (word ∷ []) bytes from end)
    (λ at. (from ≤ at) × NoneStands (word ∷ []) bytes from at
    × AnyStandsAt (word ∷ []) bytes at)
    → MatchOption found (NoneStands (word ∷ []) bytes from limit)
    (λ at. (from ≤ at) × NoneStands (word ∷ []) bytes from at
    × AnyStandsAt (word ∷ []) bytes at)
next_to_limit word bytes from limit end None some room is none = λ at low high stands.
    elim (cases_lt at end) [
      | inl below ↦ none at low below stands
      | inr above ↦
          none_past_end word bytes (length bytes - length word + 1)
          (length bytes - length word + 1) (omega (arith, some, room))
          (none_at_first (word ∷ []) bytes (length bytes - length word + 1)) at
          (omega (arith, above, high, is)) stands
    ]
next_to_limit word bytes from limit end (Some at) some room is found = found

-- what is found up to the end is the next at all
pub next_at_all : (word : List Letter) (bytes : List ℕ) (from : ℕ) (found : Option ℕ)
    → 0 < length word
    → MatchOption found (NoneStands (word ∷ []) bytes from (length bytes))
    (λ at. (from ≤ at) × NoneStands (word ∷ []) bytes from at
    × AnyStandsAt (word ∷ []) bytes at)
    → MatchOption found ((at : ℕ) → from ≤ at → ¬ AnyStandsAt (word ∷ []) bytes at)
    (λ at. (from ≤ at) × NoneStands (word ∷ []) bytes from at
    × AnyStandsAt (word ∷ []) bytes at)
next_at_all word bytes from None some none =
    none_past_end word bytes from (length bytes) (omega (arith, some)) none
next_at_all word bytes from (Some at) some found = found

-- where none is found, none stands
pub none_found : (word : List Letter) (bytes : List ℕ) (from to : ℕ) (found : Option ℕ)
    → is_some found ≡ false
    → MatchOption found (NoneStands (word ∷ []) bytes from to)
    (λ at. (from ≤ at) × NoneStands (word ∷ []) bytes from at
    × AnyStandsAt (word ∷ []) bytes at)
    → NoneStands (word ∷ []) bytes from to
none_found word bytes from to None is none = none
none_found word bytes from to (Some at) is found = absurd (false≢true (sym is))

-- the one word is the first that stands where it does
pub first_of_one : (word : List Letter) (bytes : List ℕ) (at : ℕ)
    → AnyStandsAt (word ∷ []) bytes at → IsFirstAt (word ∷ []) bytes at 0
first_of_one word bytes at stands = record {
  inside = omega arith;
  stands = only_stands word bytes at stands;
  first = λ other below _. absurd (omega arith);
}

-- a list of one word has no more
pub only_word : (words : List (List Letter)) → length words ≡ 1 → word_at words 0 ∷ [] ≡ words
only_word [] one = absurd (omega arith)
only_word (word ∷ []) one = refl
only_word (word ∷ (other ∷ words)) one = absurd (omega arith)

-- so where it doesn't stand, none of them does
pub none_of_one : (words : List (List Letter)) (word : List Letter) (bytes : List ℕ) (from : ℕ)
    → length words ≡ 1 → word ≡ word_at words 0
    → ((at : ℕ) → from ≤ at → ¬ AnyStandsAt (word ∷ []) bytes at)
    → IsNextWord words bytes from None
none_of_one words word bytes from one same none =
    subst (λ words. IsNextWord words bytes from None)
    (ap (λ word. word ∷ []) same ∙ only_word words one) none

-- and where it stands next, it is the next of them
pub next_of_one : (words : List (List Letter)) (word : List Letter) (bytes : List ℕ) (from at : ℕ)
    → length words ≡ 1 → word ≡ word_at words 0
    → (from ≤ at) × NoneStands (word ∷ []) bytes from at × AnyStandsAt (word ∷ []) bytes at
    → IsNextWord words bytes from (Some (at, 0))
next_of_one words word bytes from at one same (low, none, stands) =
    subst (λ words. IsNextWord words bytes from (Some (at, 0)))
    (ap (λ word. word ∷ []) same ∙ only_word words one)
    (low, none, first_of_one word bytes at stands)

-- a character begins where a word stands that begins with a first byte of one
pub suited_boundary : (word : List Letter) (bytes : List ℕ) (at : ℕ) → IsSuited word
    → StartsWith word (drop at bytes) → IsCharBoundary bytes at
suited_boundary word bytes at suited stands =
    let long = start_length word (drop at bytes) stands in
    let inside : at < length bytes = omega (arith, long, length-drop at bytes, suited.some) in
    let begins : StartsWith word (get_or bytes at 0 ∷ drop (suc at) bytes) =
    subst (λ rest. StartsWith word rest) (drop-cons bytes at 0 inside) stands in (
      omega arith,
      λ _ high. ⊎_elim (λ low. absurd (omega arith)) (λ lead. lead)
          (suited.lead (get_or bytes at 0) (drop (suc at) bytes) begins),
    )

-- so it does where the next word stands
pub next_boundary : (words : List (List Letter)) (bytes : List ℕ) (from : ℕ)
    (next : Option (ℕ × ℕ)) → AreSuited words → IsNextWord words bytes from next
    → IfSome next (λ next. IsCharBoundary bytes next.0)
next_boundary words bytes from None suited is = tt
next_boundary words bytes from (Some next) suited is =
    suited_boundary (word_at words next.1) bytes next.0 (suited next.1 is.2.inside) is.2.stands
