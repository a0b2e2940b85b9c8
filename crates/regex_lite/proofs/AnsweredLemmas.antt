-- Whether anything is ahead of a whole haystack.
use Rattle.regex_lite.proofs.Common.{◌≡◌, ℕ, zero, suc, ◌≢◌, List, [], ◌++◌, length, drop, IfOk}
use Rattle.regex_lite.proofs.Common.{Some, None, Ok, Err, Option, Result, chars, unwrap_or, sym, ap}
use Rattle.regex_lite.proofs.Common.{◌∙◌, subst, inl, inr, arith, IfOk-weaker, IsOwnedStr, Text}
use Rattle.regex_lite.proofs.Common.{HasMatchFrom, Found, search_start, Ahead, IsOver, Passes}
use Rattle.regex_lite.proofs.Common.{AreLawful, Expression, IsAnswerOf, MatchesFrom}
use Rattle.std.proofs.Common.{MatchOption}
use Rattle.std.specs.Cow.{cow_str_bytes}
use Rattle.std.specs.declared.borrow.CowStr.{CowStr}
use Rattle.std.proofs.lemmas.Str.{chars-nil}
use Rattle.regex_lite_syntax.proofs.OptionLemmas.{not_there}
use Rattle.regex_lite.specs.Ahead.{AheadOf, NoneIsAhead, PassesAnswer, whole}
use Rattle.regex_lite.specs.Replacements.{limit_of}
use Rattle.regex_lite.proofs.string.LawfulLemmas.{regex_lawful}
use Rattle.regex_lite.proofs.string.ListLemmas.{one_next}
use Rattle.regex_lite.proofs.OneTreeLemmas.{one_tree}

-- a haystack of which a match was passed wasn't over
pub not_over : {S A : Type 0} (found_of : A → Found)
    (IsAnswerTo : S → Text → (s : ℕ) → Option A → Type 0) (start : AheadOf S)
    (lawful : AreLawful found_of (chars start.haystack)
    (IsAnswerTo start.sought (chars start.haystack)))
    (answer : A) (new : AheadOf S) → PassesAnswer found_of IsAnswerTo start answer new
    → NoneIsAhead found_of IsAnswerTo start → ⊥
not_over found_of IsAnswerTo start lawful answer new passes (inl none_left) =
    passes.may_come none_left
not_over found_of IsAnswerTo start lawful answer new passes (inr none) =
    not_there (one_next found_of (chars start.haystack)
    (IsAnswerTo start.sought (chars start.haystack)) lawful start.ended None (Some answer) none
    passes.comes)

-- a replacement either passed a match, or nothing was made and all is still ahead
abbrev pub IsBegun : (start a : Ahead) → (made : List ℕ) → (ended : Option ℕ) → Type 0
IsBegun start a made ended =
    MatchOption ended ((a ≡ start) × (made ≡ [])) (λ _. IsOver start → ⊥)

pub begun_on : (start old new : Ahead) (made more : List ℕ) (ended now : Option ℕ) (end : ℕ)
    (found : Found) → start.ended ≡ None → IsBegun start old made ended → Passes old found new
    → now ≡ Some end → IsBegun start new more now
begun_on start old new made more (Some e) now end found begins begun passes is =
    subst (IsBegun start new more) (sym is) begun
begun_on start old new made more None now end found begins begun passes is =
    subst (IsBegun start new more) (sym is)
    (not_over (λ own. own) IsAnswerOf start (regex_lawful start.sought (chars start.haystack)) found
    new (subst (λ a. Passes a found new) begun.0 passes))

-- the new text: the haystack itself where nothing was passed, and else the text that was made with
-- the rest of the haystack
abbrev pub IsFinished : {Z : Type 0} → (same : CowStr Z) → (made : List ℕ) → (ended : Option ℕ)
    → (new : CowStr Z) → Type 0
IsFinished same made ended new =
    MatchOption ended (new ≡ same)
    (λ from. IsOwnedStr new × (cow_str_bytes new ≡ made ++ drop from (cow_str_bytes same)))

module _ {Z : Type 0} (start a : Ahead) (same : CowStr Z) (made : List ℕ) where
  text_finished : (ended : Option ℕ) → cow_str_bytes same ≡ start.haystack
      → IsBegun start a made ended → (new : CowStr Z) → IsFinished same made ended new
      → cow_str_bytes new ≡ made ++ drop (unwrap_or ended 0) start.haystack
  text_finished None is begun new finished =
      ap cow_str_bytes finished ∙ is ∙ ap (λ text. text ++ start.haystack) (sym begun.1)
  text_finished (Some from) is begun new finished =
      finished.1 ∙ ap (λ bytes. made ++ drop from bytes) is

  borrowed_finished : (ended : Option ℕ) → IsBegun start a made ended → (new : CowStr Z)
      → IsFinished same made ended new → IsOver start → new ≡ same
  borrowed_finished None begun new finished over = finished
  borrowed_finished (Some from) begun new finished over = absurd (begun over)

  owned_finished : (ended : Option ℕ) → IsBegun start a made ended → IsOver a → (new : CowStr Z)
      → IsFinished same made ended new → (IsOver start → ⊥) → IsOwnedStr new
  owned_finished None begun over new finished some = absurd (some (subst IsOver begun.0 over))
  owned_finished (Some from) begun over new finished some = finished.0

  -- so what holds of what was made with the rest of the haystack holds of the new text
  pub so_finished : {E : Type 0} (ended : Option ℕ) (result : Result (CowStr Z × ℕ) E)
      (P : List ℕ → Type 0)
      → IfOk result (λ reported. IsFinished same made ended reported.0)
      → cow_str_bytes same ≡ start.haystack
      → IsBegun start a made ended → P (made ++ drop (unwrap_or ended 0) start.haystack)
      → IfOk result (λ reported. P (cow_str_bytes reported.0))
  so_finished ended result P finished is begun holds =
      IfOk-weaker result (λ reported. IsFinished same made ended reported.0)
      (λ reported. P (cow_str_bytes reported.0))
      (λ reported h. subst P (sym (text_finished ended is begun reported.0 h)) holds) finished

  -- where none was ahead it is the haystack itself
  pub borrowed_where_over : {E : Type 0} (ended : Option ℕ) (result : Result (CowStr Z × ℕ) E)
      (other : CowStr Z) → IfOk result (λ reported. IsFinished same made ended reported.0) → same
      ≡ other → IsBegun start a made ended → IfOk result
      (λ reported. IsOver start → reported.0 ≡ other)
  borrowed_where_over ended result other finished is begun =
      IfOk-weaker result (λ reported. IsFinished same made ended reported.0)
      (λ reported. IsOver start → reported.0 ≡ other)
      (λ reported h over. borrowed_finished ended begun reported.0 h over ∙ is) finished

  -- and else one of its own
  pub owned_where_some : {E : Type 0} (ended : Option ℕ) (result : Result (CowStr Z × ℕ) E)
      → IfOk result (λ reported. IsFinished same made ended reported.0) → IsBegun start a made ended
      → IsOver a → IfOk result (λ reported. (IsOver start → ⊥) → IsOwnedStr reported.0)
  owned_where_some ended result finished begun over =
      IfOk-weaker result (λ reported. IsFinished same made ended reported.0)
      (λ reported. (IsOver start → ⊥) → IsOwnedStr reported.0)
      (λ reported h. owned_finished ended begun over reported.0 h) finished

pub from_start : (haystack : List ℕ) → search_start haystack 0 ≡ 0
from_start haystack = omega (arith, ap length chars-nil)

-- where the pattern matches, and the limit isn't 0, some match is ahead
some_ahead : (re : Expression) (haystack : List ℕ) (limit : Option ℕ) → limit ≢ Some 0
    → MatchesFrom re haystack 0 → IsOver (whole re haystack limit) → ⊥
some_ahead re haystack limit may matches (inl none_left) = may none_left
some_ahead re haystack limit may (tree, given, has) (inr (other, given_too, none)) =
    none (subst (HasMatchFrom other (chars haystack)) (from_start haystack)
    (subst (λ t. HasMatchFrom t (chars haystack) (search_start haystack 0))
    (one_tree re.flags (chars re.pattern) tree other given given_too) has))

limit_left : (limit : ℕ) → limit_of limit ≢ Some 0
limit_left zero = λ same. cc
limit_left (suc k) = λ same. cc

-- what is so where some match is ahead is so where the pattern matches
pub where_it_matches : {T E : Type 0} (re : Expression) (haystack : List ℕ) (n : ℕ)
    (limit : Option ℕ) (P : T → Type 0) (result : Result T E) → limit ≡ limit_of n
    → IfOk result (λ x. (IsOver (whole re haystack limit) → ⊥) → P x)
    → IfOk result (λ x. MatchesFrom re haystack 0 → P x)
where_it_matches re haystack n limit P (Err e) is so = tt
where_it_matches re haystack n limit P (Ok x) is so = λ matches.
    so (some_ahead re haystack limit (subst (λ own. own ≢ Some 0) (sym is) (limit_left n)) matches)
