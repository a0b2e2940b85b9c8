-- What a call returns of a text that can be searched.
use Rattle.regex_lite_c.proofs.Common.{◌≡◌, ℕ, ◌<◌, ◌≤◌, ◌⊎◌, List, IsUtf8}
use Rattle.regex_lite_c.proofs.Common.{IsCharBoundary, length, inl, inr, arith, cases_lt, NO_ROOM}
use Rattle.regex_lite_c.proofs.Common.{refl, NO, OUT_OF_MEMORY, YES, Groups, AreWritten, Span}
use Rattle.std.proofs.Common.{◌≢◌}
use Rattle.regex_lite_c.specs.Answers.{IsOfFound, RefusesText}
use Rattle.regex_lite_c.specs.GroupAnswers.{IsGroupsAnswerOf}
use Rattle.regex_lite_c.specs.declared.answer.TheConstants.{NOT_TEXT, BAD_OFFSET}

-- no answer of a text that can be searched is a refusal of the text
not_refused : (answer : ℕ) → IsOfFound answer → (answer ≡ NOT_TEXT → ⊥) × (answer ≡ BAD_OFFSET → ⊥)
not_refused answer (inl few) = (λ is. omega (arith, few, is), λ is. omega (arith, few, is))
not_refused answer (inr (inl memory)) =
    (λ is. omega (arith, memory, is), λ is. omega (arith, memory, is))
not_refused answer (inr (inr buffer)) =
    (λ is. omega (arith, buffer, is), λ is. omega (arith, buffer, is))

-- and none is due
pub nothing_refused : (bytes : List ℕ) (start answer : ℕ) → IsUtf8 bytes
    → IsCharBoundary bytes start → IsOfFound answer → RefusesText bytes start answer
nothing_refused bytes start answer utf8 boundary is =
    let not = not_refused answer is in
    record {
      not_text = (λ wrong. absurd (not.0 wrong), λ wrong. absurd (wrong utf8));
      bad_offset = (λ wrong. absurd (not.1 wrong), λ wrong. absurd (wrong.1 boundary));
    }

-- they are some of those that a call returns
pub one_of_more : (answer : ℕ) → IsOfFound answer
    → (answer ≤ YES) ⊎ ((answer ≡ NOT_TEXT) ⊎ ((answer ≡ BAD_OFFSET)
    ⊎ ((answer ≡ OUT_OF_MEMORY) ⊎ (answer ≡ NO_ROOM))))
one_of_more answer (inl few) = inl few
one_of_more answer (inr rest) = inr (inr (inr rest))

-- where there is room it is yes, and else that there is too little
pub yes_or_no_room : {Written Same : Type 0} (buffer count answer : ℕ)
    → (count ≤ buffer → (answer ≡ YES) × Written) → (buffer < count → (answer ≡ NO_ROOM) × Same)
    → IsOfFound answer × (answer ≡ YES → Written)
    × (answer ≢ YES → (answer ≡ NO_ROOM) × (buffer < count) × Same)
yes_or_no_room buffer count answer written no_room = elim (cases_lt buffer count) [
  | inr within ↦
      let own = written within in
      (inl (omega (arith, own.0)), λ _. own.1, λ wrong. absurd (wrong own.0))
  | inl above ↦
      let own = no_room above in (
        inr (inr own.0),
        λ wrong. absurd (omega (arith, own.0, wrong)),
        λ _. (own.0, above, own.1),
      )
]

-- what a search for groups returns where these are found, of which this is reported, and are
-- written if there is room for them
pub groups_found : {T : Type 0} (AreFirst : T → Groups → Type 0) (are_none : Type 0)
    (bytes : List ℕ) (start : ℕ) (old new : List Span) (old_reported reported : T) (answer : ℕ)
    (groups : Groups) → IsUtf8 bytes → IsCharBoundary bytes start → AreFirst reported groups
    → (length groups.spans ≤ length old → (answer ≡ YES) × AreWritten groups.spans old new)
    → (length old < length groups.spans → (answer ≡ NO_ROOM) × (new ≡ old))
    → IsGroupsAnswerOf AreFirst are_none bytes start old new old_reported reported answer
groups_found AreFirst are_none bytes start old new old_reported reported answer groups utf8 boundary
    are written no_room =
    let own = yes_or_no_room (length old) (length groups.spans) answer written no_room in
    record {
      found = λ yes. (groups, are, own.1 yes);
      no_room = λ full. (groups, are, (own.2 (λ yes. omega (arith, full, yes))).1);
      none = λ no. let full = (own.2 (λ yes. omega (arith, no, yes))).0 in
          absurd (omega (arith, no, full));
      same = λ other. (own.2 other).2;
      same_reported = λ other more. absurd (more (own.2 other).0);
      refused = nothing_refused bytes start answer utf8 boundary own.0;
      one_of = one_of_more answer own.0;
    }

-- and where none are found
pub no_groups_found : {T : Type 0} (AreFirst : T → Groups → Type 0) (are_none : Type 0)
    (bytes : List ℕ) (start : ℕ) (spans : List Span) (reported : T) → IsUtf8 bytes
    → IsCharBoundary bytes start → are_none
    → IsGroupsAnswerOf AreFirst are_none bytes start spans spans reported reported NO
no_groups_found AreFirst are_none bytes start spans reported utf8 boundary given = record {
  found = λ is_yes. absurd (omega (arith, is_yes));
  no_room = λ full. absurd (omega (arith, full));
  none = λ _. given;
  same = λ _. refl;
  same_reported = λ _ _. refl;
  refused = nothing_refused bytes start NO utf8 boundary (inl (omega arith));
  one_of = inl (omega arith);
}
