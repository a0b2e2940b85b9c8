-- What is returned where a walk has written the groups of matches, as long as there was room.
use Rattle.regex_lite_c.proofs.Common.{◌≡◌, ℕ, zero, suc, ◌+◌, ◌<◌, ◌⊎◌, List, [], ◌∷◌, ◌++◌}
use Rattle.regex_lite_c.proofs.Common.{map, length, Some, None, Option, chars, unwrap_or}
use Rattle.regex_lite_c.proofs.Common.{sym, refl, ap, subst, inl, inr, arith, cases_lt}
use Rattle.regex_lite_c.proofs.Common.{map-append, Groups, span_of, Span}
use Rattle.regex_lite_c.proofs.Common.{NO, NO_ROOM, OUT_OF_MEMORY, YES}
use Rattle.std.proofs.Common.{IsSome, cond}
use Rattle.regex_lite.specs.Ahead.{AnswerComesNext, NoneIsAhead}
use Rattle.regex_lite.specs.Groups.{span_at}
use Rattle.regex_lite.specs.MatchList.{IsNextAnswer}
use Rattle.regex_lite_c.specs.GroupWalks.{AreFirstAnswered, AreGroupsListed, AreItsGroups, IsFilled}
use Rattle.regex_lite_c.specs.GroupWalks.{IsFull, IsWithoutBuffer, NoMoreFit}
use Rattle.regex_lite_c.specs.Kinds.{Kind}
use Rattle.regex_lite_c.specs.Walks.{NoneComes}
use Rattle.regex_lite_c.proofs.group_walk.StageLemmas.{AreSoFar, Stage}
use Rattle.regex_lite_c.proofs.walk.WalkLemmas.{AreFirstOf, lists_all, lists_to_end}

module _ {S X T : Type 0} {kind : Kind S X T} {start now : Stage S T}
    (so : AreSoFar kind start now) where
  -- the buffers are as long as they were
  abbrev pub AreAsLong : Type 0
  AreAsLong =
      (length now.to.reported ≡ length start.to.reported)
      × (length now.to.buffer ≡ length start.to.buffer)

  one_left : now.count + suc zero ≡ length so.list + 1
  one_left = omega (arith, so.number)

  -- if none is left, those that were written are all
  first_to_end : NoneIsAhead kind.found_of kind.IsAnswerTo now.ahead
      → AreFirstAnswered kind start.ahead (length so.list + 1) so.list
  first_to_end over =
      subst (λ n. AreFirstAnswered kind start.ahead n so.list) one_left
      (lists_to_end kind.found_of kind.IsAnswerTo start.ahead now.ahead (now.count + suc zero)
      (suc zero) (map (λ own. own.0) so.list) (so.lists (suc zero)) over)

  -- and else the next comes after them
  first_with_next : (next : kind.Answer × Groups)
      → AnswerComesNext kind.found_of kind.IsAnswerTo now.ahead (Some next.0)
      → AreFirstAnswered kind start.ahead (length so.list + 1) (so.list ++ (next ∷ []))
  first_with_next next comes =
      let lists = so.lists (suc zero) in
      let Next : S → List ℕ → Type 0 =
      λ sought bytes. IsNextAnswer kind.found_of (kind.IsAnswerTo sought (chars bytes))
      now.ahead.ended (Some next.0) in
      let here : Next start.ahead.sought start.ahead.haystack =
      subst (λ sought. Next sought start.ahead.haystack) lists.sought
      (subst (λ bytes. Next now.ahead.sought bytes) lists.haystack comes) in
      subst (λ n. AreFirstAnswered kind start.ahead n (so.list ++ (next ∷ []))) one_left
      (subst (AreFirstOf kind.found_of kind.IsAnswerTo start.ahead.sought
      (chars start.ahead.haystack) (now.count + suc zero) start.ahead.ended)
      (sym (map-append (λ own. own.0) so.list (next ∷ []))) (lists.on (next.0 ∷ []) (here, refl)))

  -- the groups of a match that is ahead are those of a match ahead at the start
  found_at_start : (own : kind.Answer × Groups) → AreItsGroups kind now.ahead own
      → AreItsGroups kind start.ahead own
  found_at_start own are =
      let lists = so.lists (suc zero) in
      subst (λ sought. kind.AreGroups sought start.ahead.haystack own.0 own.1) lists.sought
      (subst (λ bytes. kind.AreGroups now.ahead.sought bytes own.0 own.1) lists.haystack are)

  -- those that were written are the first of those ahead
  unfoldable listed : 0 < now.count → AreGroupsListed kind start.ahead start.to now.to now.count
  listed some =
      let ends = so.some some in
      let zero_more : now.count + 0 ≡ now.count = omega arith in
      record {
        list = so.list;
        are_first = subst (λ n. AreFirstAnswered kind start.ahead n so.list) zero_more
            (lists_all kind.found_of kind.IsAnswerTo start.ahead now.ahead (now.count + 0)
            (map (λ own. own.0) so.list) (so.lists 0));
        number = sym so.number;
        each = so.each;
        reported = so.reported;
        written = so.written;
        front = ends.front;
        last = ends.last;
        ends = ends.is;
        end = ends.end;
      }

  -- the groups of the next match need more room than is left, and this number is to be written
  abbrev pub IsEndOfBuffer : (number : ℕ) → Type 0
  IsEndOfBuffer number =
      (next : kind.Answer × Groups)
      × AnswerComesNext kind.found_of kind.IsAnswerTo now.ahead (Some next.0)
      × AreItsGroups kind now.ahead next × (number ≡ cond kind.is_reported (length next.1.spans) 0)
      × (IsFull kind now.to.reported now.count
      ⊎ (length now.to.buffer < now.used + length next.1.spans))

  -- why a walk ends here, with this answer and this number: none is left, or there is too little
  -- room
  abbrev pub IsEnd : ℕ × ℕ → Type 0
  IsEnd own =
      ((own.0 ≡ NO) × (own.1 ≡ 0) × NoneComes kind now.ahead)
      ⊎ ((own.0 ≡ NO_ROOM) × IsEndOfBuffer own.1)

  -- so no more matches fit
  no_more : (own : ℕ × ℕ) → AreAsLong → IsEnd own → NoMoreFit kind start.ahead start.to so.list
  no_more own len (inl over) = inl (first_to_end (inr over.2))
  no_more own len (inr (no_room, full)) = inr (
    full.0,
    first_with_next full.0 full.1,
    found_at_start full.0 full.2,
    elim full.4 [
      | inl reported ↦ inl (reported.0, omega (arith, reported.1, len.0, so.number))
      | inr spans ↦ inr (omega (arith, spans, len.1, so.used_is))
    ],
  )

  -- nothing was written, since there is too little room
  none_fits : (number : ℕ) → AreAsLong → now.count ≡ 0 → IsEndOfBuffer number
      → IsWithoutBuffer kind start.ahead start.to number
  none_fits number len few full =
      let same = so.none few in
      subst (λ a. IsWithoutBuffer kind a start.to number) same.0 (
        full.0,
        full.1,
        full.2,
        full.3,
        elim full.4 [
          | inl reported ↦ inl (reported.0, omega (arith, reported.1, len.0, few))
          | inr spans ↦ inr (omega (arith, spans, len.1, same.2))
        ],
      )

  -- what is returned where a walk that began there ends here
  abbrev pub IsAnswer : ℕ × ℕ → Type 0
  IsAnswer own = IsFilled kind start.ahead start.to now.to own.1 own.0

  -- the answer is yes where there are some, and else says why the walk ends
  pub filled : (own none : ℕ × ℕ) → AreAsLong → (0 < now.count → own ≡ (YES, now.count))
      → (now.count ≡ 0 → own ≡ none) → IsEnd none → IsAnswer own
  unfolding listed
  filled own none len some few ends = elim (cases_lt 0 now.count) [
    | inl more ↦ subst IsAnswer (sym (some more)) (record {
      found = λ _. (record { listed = listed more; no_more = no_more none len ends }, more);
      none = λ wrong. absurd (omega (arith, wrong));
      no_room = λ wrong. absurd (omega (arith, wrong));
      part = λ wrong. absurd (omega (arith, wrong));
      no_count = λ wrong. absurd (wrong refl);
      same = λ none. elim none [
        | inl wrong ↦ absurd (omega (arith, wrong))
        | inr few ↦ absurd (omega (arith, few, more))
      ];
    })
    | inr at_most ↦
        let no_count : now.count ≡ 0 = omega (arith, at_most) in
        let same = so.none no_count in
        subst IsAnswer (sym (few no_count)) (elim ends [
          | inl over ↦ record {
            found = λ wrong. absurd (omega (arith, over.0, wrong));
            none = λ _. subst (NoneComes kind) same.0 over.2;
            no_room = λ wrong. absurd (omega (arith, over.0, wrong));
            part = λ wrong. absurd (omega (arith, over.0, wrong));
            no_count = λ _ _ _. over.1;
            same = λ _. same.1;
          }
          | inr full ↦ record {
            found = λ wrong. absurd (omega (arith, full.0, wrong));
            none = λ wrong. absurd (omega (arith, full.0, wrong));
            no_room = λ _. none_fits none.1 len no_count full.1;
            part = λ wrong. absurd (omega (arith, full.0, wrong));
            no_count = λ _ wrong. absurd (wrong full.0);
            same = λ _. same.1;
          }
        ])
  ]

  -- where memory runs out, what was written stays
  pub cut_off : IsAnswer (OUT_OF_MEMORY, now.count)
  cut_off = record {
    found = λ wrong. absurd (omega (arith, wrong));
    none = λ wrong. absurd (omega (arith, wrong));
    no_room = λ wrong. absurd (omega (arith, wrong));
    part = λ _ more. listed more;
    no_count = λ _ _ wrong. absurd (wrong refl);
    same = λ none. elim none [
      | inl wrong ↦ absurd (omega (arith, wrong))
      | inr few ↦ (so.none few).1
    ];
  }

-- a match whose whole span is known has a group
pub some_groups : (spans : List (Option (ℕ × ℕ))) → IsSome (span_at spans 0) → 0 < length spans
some_groups [] some = absurd cc
some_groups (span ∷ spans) some = omega arith

-- a span that stands for a part ends where the part does
pub end_of_span : (s : Span) (part : Option (ℕ × ℕ)) → s ≡ span_of part → IsSome part
    → s.end ≡ (unwrap_or part (0, 0)).1
end_of_span s (Some part) is some = ap (λ own. own.end) is
end_of_span s None is some = absurd cc
