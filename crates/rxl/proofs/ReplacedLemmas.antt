-- Whether the pattern matches, as the new text shows.
use Rattle.std.proofs.Common.{◌≡◌, ◌⊎◌, ◌↔◌, inl, inr, refl, sym, ap, subst, ℕ, Bool}
use Rattle.std.proofs.Common.{true, false, IsTrue, List, [], ◌∷◌, Some, None, chars}
use Rattle.std.specs.Borrow.{Bor}
use Rattle.std.specs.Cow.{IsOwnedStr, cow_str_bytes}
use Rattle.std.specs.declared.borrow.CowStr.{CowStr}
use Rattle.std.specs.declared.borrow.CowStr.TheVariants.{Borrowed}
use Rattle.std.proofs.lemmas.Bool.{false≢true}
use Rattle.regex_lite.specs.Ahead.{AreAhead, whole}
use Rattle.regex_lite.specs.Expression.{Expression}
use Rattle.regex_lite.specs.MatchList.{IsAnswerOf}
use Rattle.regex_lite.specs.Search.Answer.{Found, IsFound}
use Rattle.regex_lite.specs.Searches.{MatchesFrom}
use Rattle.regex_lite.proofs.AgreementLemmas.{answer_reported}
use Rattle.regex_lite.proofs.AnsweredLemmas.{from_start}
use Rattle.rxl.specs.declared.command.Question.TheVariants.{Replace}
use Rattle.rxl.specs.Printed.{IsReplacedText, Prints}

-- the list of the matches shows whether there is one
first_shows : (re : Expression) (haystack : List ℕ) (matches : List Found)
    → AreAhead (whole re haystack None) matches
    → IsAnswerOf re (chars haystack) 0 None ⊎ MatchesFrom re haystack 0
first_shows re haystack [] none = inl none
first_shows re haystack (found ∷ list) ((tree, given, is), others) =
    inr ((answer_reported re haystack 0 (λ own first reported. Unit {0}) (Some (tt {0})) (
      tree,
      given,
      (
        found,
        subst (λ s. IsFound tree (chars haystack) s found) (sym (from_start haystack)) is,
        tt {0},
      ),
    )).0 refl)

-- so does a text that is the haystack with its matches replaced
replaced_shows : (re : Expression) (template : Bor (List ℕ)) (haystack text : List ℕ)
    → IsReplacedText re template haystack text
    → IsAnswerOf re (chars haystack) 0 None ⊎ MatchesFrom re haystack 0
replaced_shows re template haystack text (last, (Some fixed, same, is, (new, left))) =
    first_shows re haystack new.found new.are_ahead
replaced_shows re template haystack text (last, (None, same, is, new)) =
    first_shows re haystack new.found new.are_ahead

-- a text that is owned exactly where there is a match is what is printed
pub replaced_prints : {Z : Type 0} (re : Expression) (template lent : Bor (List ℕ))
    (text : CowStr Z) (found : Bool) → IsReplacedText re template lent.now (cow_str_bytes text)
    → (IsAnswerOf re (chars lent.now) 0 None → text ≡ Borrowed lent)
    → (MatchesFrom re lent.now 0 → IsOwnedStr text) → (IsTrue found ↔ IsOwnedStr text)
    → Prints (Replace template) re lent.now found (cow_str_bytes text)
replaced_prints re template lent text true replaced borrowed owned shown = (
  (
    λ is. elim (replaced_shows re template lent.now (cow_str_bytes text) replaced) [
      | inl none ↦ absurd (subst IsOwnedStr (borrowed none) (shown.0 refl))
      | inr matches ↦ matches
    ],
    λ matches. refl,
  ),
  replaced,
)
replaced_prints re template lent text false replaced borrowed owned shown = (
  (
    λ is. absurd (false≢true is),
    λ matches. shown.1 (owned matches),
  ),
  elim (replaced_shows re template lent.now (cow_str_bytes text) replaced) [
    | inl none ↦ ap cow_str_bytes (borrowed none)
    | inr matches ↦ absurd (false≢true (shown.1 (owned matches)))
  ],
)
