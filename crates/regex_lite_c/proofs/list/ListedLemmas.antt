-- One pattern of a list, by its number: what a search for it returns is said of the pattern that
-- has this number.
use Rattle.regex_lite_c.proofs.Common.{◌≡◌, ℕ, ◌<◌, List, length, slice_get, Some, None, sym}
use Rattle.regex_lite_c.proofs.Common.{◌∙◌, subst, inl, inr, arith, Expression, Span}
use Rattle.std.proofs.lemmas.Option.{same_Some, slice_get_cases}
use Rattle.std.specs.Prelude.{MatchOption}
use Rattle.regex_lite.specs.ListedPattern.{OfPattern}
use Rattle.regex_lite.specs.Searches.{TellsGroups}
use Rattle.regex_lite_c.specs.Answers.{IsSearchAnswer}
use Rattle.regex_lite_c.specs.GroupAnswers.{IsGroupsAnswer, IsGroupsAnswerOf}
use Rattle.regex_lite_c.specs.Spans.{AreFirstGroups}

-- the list has one pattern with this number, so what is said of some such pattern is said of it
pub of_one : (list : List Expression) (number : ℕ) (Says : Expression → Type 0) (re : Expression)
    → slice_get list number ≡ Some re → OfPattern list number Says → Says re
of_one list number Says re is (own, there, says) =
    subst Says (same_Some own re (sym there ∙ is)) says

module _ (list : List Expression) (number : ℕ) (within : number < length list) where
  -- the list has a pattern with this number
  at_number : (Says : Expression → Type 0) (other : Type 0)
      → ((re : Expression) → slice_get list number ≡ Some re → Says re)
      → MatchOption (slice_get list number) other Says
  at_number Says other each = elim (slice_get_cases list number).1 [
    | inl there ↦
        subst (λ own. MatchOption own other Says) (sym there.2) (each there.0 there.2)
    | inr past ↦ absurd (omega (arith, within, past.0))
  ]

  -- what a search for that pattern returns
  pub listed_answer : {yes no : Type 0} (Yes No : Expression → Type 0) (other : Type 0)
      (bytes : List ℕ) (start answer : ℕ)
      → ((re : Expression) → slice_get list number ≡ Some re → yes → Yes re)
      → ((re : Expression) → slice_get list number ≡ Some re → no → No re)
      → IsSearchAnswer bytes start answer yes no
      → MatchOption (slice_get list number) other
      (λ re. IsSearchAnswer bytes start answer (Yes re) (No re))
  listed_answer Yes No other bytes start answer found none so =
      at_number (λ re. IsSearchAnswer bytes start answer (Yes re) (No re)) other (λ re is.
      record {
        found = λ one. found re is (so.found one);
        none = λ zero. none re is (so.none zero);
        refused = so.refused;
        one_of = so.one_of;
      })

  -- and what one for its groups returns
  pub listed_groups : (other : Type 0) (bytes : List ℕ) (start : ℕ) (old new : List Span)
      (old_count count answer : ℕ)
      → IsGroupsAnswerOf
      (λ many groups. OfPattern list number (λ re. AreFirstGroups re bytes start many groups))
      (OfPattern list number (λ re. TellsGroups re bytes start None))
      bytes start old new old_count count answer
      → MatchOption (slice_get list number) other
      (λ re. IsGroupsAnswer re bytes start old new old_count count answer)
  listed_groups other bytes start old new old_count count answer so =
      at_number (λ re. IsGroupsAnswer re bytes start old new old_count count answer) other (λ re is.
      record {
        found = λ one. let own = so.found one in (
          own.0,
          of_one list number (λ re. AreFirstGroups re bytes start count own.0) re is own.1,
          own.2,
        );
        no_room = λ full. let own = so.no_room full in (
          own.0,
          of_one list number (λ re. AreFirstGroups re bytes start count own.0) re is own.1,
          own.2,
        );
        none = λ zero. of_one list number (λ re. TellsGroups re bytes start None) re is
            (so.none zero);
        same = so.same;
        same_reported = so.same_reported;
        refused = so.refused;
        one_of = so.one_of;
      })
