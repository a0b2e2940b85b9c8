-- What a search returns that goes on after a match.
use Rattle.regex_lite.proofs.Common.{◌≡◌, ℕ, suc, ◌<◌, ◌≤◌, Bool, true, false, ◌⊎◌, List, Some}
use Rattle.regex_lite.proofs.Common.{None, IsUtf8, MatchBool, Option, option_map, chars, unwrap_or}
use Rattle.regex_lite.proofs.Common.{sym, refl, ap, ◌∙◌, subst, inl, inr, arith, cases_order}
use Rattle.regex_lite.proofs.Common.{nat_tests, Text, Found, offset, position_at, search_start}
use Rattle.regex_lite.proofs.Common.{IsOnward, IsWithin, AreLawful, IsEmptyAnswerFrom, LiesIn}
use Rattle.regex_lite.proofs.Common.{IsNextAnswer, haystack_of_match, span_of_match, IsNextOffset}
use Rattle.regex_lite.proofs.Common.{offsets, Match}
use Rattle.std.specs.Prelude.{IsCharBoundary}
use Rattle.regex_lite_engine.proofs.OffsetLemmas.{offset_less}
use Rattle.regex_lite_engine.proofs.PositionLemmas.{first_position, position_is}
use Rattle.regex_lite_engine.proofs.PositionLemmas.{position_of, start_position}
use Rattle.regex_lite.specs.Answers.{TellsOfAnswer}
use Rattle.regex_lite.specs.MatchList.{is_empty_answer}
use Rattle.regex_lite.specs.NextMatch.{TellsNextMatch}
use Rattle.regex_lite.specs.Scanning.{IsMatchWithSlots, IsSpanWithSlots}
use Rattle.regex_lite.proofs.string.FoundLemmas.{positions_lie}

-- what is found, as offsets
abbrev pub span_of_found : Text → Found → ℕ × ℕ
span_of_found haystack found = offsets haystack (found.start, found.end)

module _ {A N : Type 0} (found_of : A → Found) (number_of : A → N) (bytes : List ℕ)
    (Answers : (s : ℕ) → Option A → Type 0) (lawful : AreLawful found_of (chars bytes) Answers)
    (slots : List (Option ℕ)) (utf8 : IsUtf8 bytes) where
  abbrev Reported : (s : ℕ) → Option (N × Match) → Type 0
  Reported s reported = TellsOfAnswer Answers (IsMatchWithSlots found_of number_of bytes slots) s
      reported

  abbrev Next : (ended : Option ℕ) → Option A → Type 0
  Next ended answer = IsNextAnswer found_of Answers (option_map (position_at bytes) ended) answer

  abbrev Tells : (ended : Option ℕ) → Option (N × Match) → Type 0
  Tells ended reported = TellsNextMatch found_of number_of Answers bytes ended slots reported

  abbrev Empty : (at : ℕ) → Type 0
  Empty at = IsEmptyAnswerFrom found_of Answers bytes at

  -- what is returned lies in the haystack
  pub span_lies : (s : ℕ) (reported : N × (ℕ × ℕ))
      → TellsOfAnswer Answers (IsSpanWithSlots found_of number_of bytes slots) s (Some reported)
      → LiesIn bytes reported.1
  span_lies s reported (answer, is, of) =
      let within = lawful.within s answer is in
      subst (LiesIn bytes) (sym of.span)
      (positions_lie bytes (found_of answer).start (found_of answer).end utf8 within.ordered
      within.inside)

  -- and the match there is returned
  pub match_reported : (s : ℕ) (reported : N × (ℕ × ℕ)) (m : Match)
      → TellsOfAnswer Answers (IsSpanWithSlots found_of number_of bytes slots) s (Some reported)
      → haystack_of_match m ≡ bytes → span_of_match m ≡ reported.1 → Reported s
      (Some (reported.0, m))
  match_reported s reported m (answer, is, of) haystack span = (
    answer,
    is,
    record {
      number = of.number;
      is_match = record { haystack = haystack; span = span ∙ of.span };
      has_slots = of.has_slots;
    },
  )

  -- the answer of a search is what comes next, where it is returned
  reported_next : (s : ℕ) (ended : Option ℕ) (reported : Option (N × Match)) → Reported s reported
      → ((answer : Option A) → Answers s answer → Next ended answer)
      → ((found : Found) → IsWithin (chars bytes) s found
      → IsOnward ended (span_of_found (chars bytes) found))
      → Tells ended reported
  reported_next s ended None none next onward = next None none
  reported_next s ended (Some reported) (answer, is, of) next onward =
      let same = of.is_match.span in
      let within = lawful.within s answer is in
      let end : ℕ = (found_of answer).end in
      let end_is = position_of bytes utf8 end (offset (chars bytes) end) (within.inside, refl) in (
        answer,
        next (Some answer) is,
        of,
        ap (λ (own : ℕ × ℕ). position_at bytes own.1) same ∙ end_is,
        subst (IsOnward ended) (sym same) (onward (found_of answer) within),
      )

  at_start : (at : ℕ) (reported : Option (N × Match)) → IsCharBoundary bytes at
      → Reported (search_start bytes at) reported → Reported (position_at bytes at) reported
  at_start at reported edge tells = subst (λ s. Reported s reported) (start_position bytes at edge)
      tells

  -- the first match
  pub first_reported : (reported : Option (N × Match)) → IsCharBoundary bytes 0
      → Reported (search_start bytes 0) reported → Tells None reported
  first_reported reported edge tells = reported_next 0 None reported
      (subst (λ s. Reported s reported) (first_position bytes) (at_start 0 reported edge tells))
      (λ answer is. is) (λ found within. tt)

  module _ (at : ℕ) (edge : IsCharBoundary bytes at) where
    abbrev p : ℕ
    p = position_at bytes at

    starts_after : (found : Found) → IsWithin (chars bytes) p found
        → at ≤ offset (chars bytes) found.start
    starts_after found within =
        let lie = positions_lie bytes p found.start utf8 within.from
        (omega (arith, within.ordered, within.inside)) in
        let same = (position_is bytes at utf8 edge).1 in
        omega (arith, same, lie.ordered)

    -- it is empty there exactly where it ends no later
    ends_later : (answer : A) → at < offset (chars bytes) (found_of answer).end
        → is_empty_answer found_of p (Some answer) ≡ false
    ends_later answer later =
        let apart : (found_of answer).end ≡ p → ⊥ =
        λ e. let same = (position_is bytes at utf8 edge).1 in
        absurd (omega (arith, same, ap (offset (chars bytes)) e, later)) in
        grind (arith, nat_tests, apart)

    ends_there : (answer : A) → IsWithin (chars bytes) p (found_of answer)
        → offset (chars bytes) (found_of answer).end ≤ at
        → is_empty_answer found_of p (Some answer) ≡ true
    ends_there answer within early = each (cases_order p (found_of answer).end)
      where
        each : (p ≡ (found_of answer).end)
            ⊎ ((p < (found_of answer).end) ⊎ ((found_of answer).end < p))
            → is_empty_answer found_of p (Some answer) ≡ true
        each (inl same) = grind (arith, nat_tests, same, within.from, within.ordered)
        each (inr (inl less)) =
            let same = (position_is bytes at utf8 edge).1 in
            let below = offset_less (chars bytes) p (found_of answer).end less within.inside in
            absurd (omega (arith, same, below, early))
        each (inr (inr more)) = absurd (omega (arith, within.from, within.ordered, more))

    pub none_reported : Reported (search_start bytes at) None → Tells (Some at) None
    none_reported tells = (None, at_start at None edge tells, refl)

    -- a match that ends later comes next
    pub later_reported : (reported : N × Match) → Reported (search_start bytes at) (Some reported)
        → at < (span_of_match reported.1).1 → Tells (Some at) (Some reported)
    later_reported reported tells later = each (at_start at (Some reported) edge tells)
      where
        each : Reported p (Some reported) → Tells (Some at) (Some reported)
        each (answer, is, of) =
            let same = of.is_match.span in
            let within = lawful.within p answer is in
            let to : ℕ = (found_of answer).end in
            let end = ap (λ (own : ℕ × ℕ). own.1) same in
            let from = starts_after (found_of answer) within in
            let kept = ends_later answer (omega (arith, end, later)) in (
              answer,
              (
                Some answer,
                is,
                subst (λ empty. MatchBool empty (Answers (suc p) (Some answer))
                    (Some answer ≡ Some answer)) (sym kept) refl,
              ),
              of,
              ap (position_at bytes) end
                  ∙ position_of bytes utf8 to (offset (chars bytes) to) (within.inside, refl),
              (omega (arith, ap (λ (own : ℕ × ℕ). own.0) same, from), later),
            )

    -- one that ends no later is empty there
    pub empty_reported : (reported : N × Match) → Reported (search_start bytes at) (Some reported)
        → (span_of_match reported.1).1 ≤ at → Empty at
    empty_reported reported tells early = each (at_start at (Some reported) edge tells)
      where
        each : Reported p (Some reported) → Empty at
        each (answer, is, of) =
            let end = ap (λ (own : ℕ × ℕ). own.1) of.is_match.span in
            (answer, is, ends_there answer (lawful.within p answer is) (omega (arith, end, early)))

    -- and passed over
    passed : (answer : Option A) → Empty at → Answers (suc p) answer → Next (Some at) answer
    passed answer (own, there, empty) after_it = (
      Some own,
      there,
      subst (λ e. MatchBool e (Answers (suc p) answer) (answer ≡ Some own)) (sym empty) after_it,
    )

    -- then the search goes on from the next position
    pub after_reported : (next : ℕ) (further : Option (N × Match)) → Empty at
        → IsNextOffset bytes at next → Reported (search_start bytes next) further
        → Tells (Some at) further
    after_reported next further empty goes_on tells_further = reported_next (suc p) (Some at)
        further (subst (λ s. Reported s further) goes_on.starts tells_further)
        (λ answer is. passed answer empty is) onward
      where
        onward : (found : Found) → IsWithin (chars bytes) (suc p) found
            → IsOnward (Some at) (span_of_found (chars bytes) found)
        onward found within =
            let own = (position_is bytes at utf8 edge).1 in
            let later = offset_less (chars bytes) p found.start (omega (arith, within.from))
            (omega (arith, within.ordered, within.inside)) in
            let last =
            positions_lie bytes found.start found.end utf8 within.ordered within.inside in
            (omega (arith, own, later), omega (arith, own, later, last.ordered))

-- what comes next is the answer of a search from there or later
module _ {A : Type 0} (found_of : A → Found) (Answers : (s : ℕ) → Option A → Type 0) where
  answer_after : (e : ℕ) (answer : A) (from_end : Option A) (empty : Bool) → Answers e from_end
      → MatchBool empty (Answers (suc e) (Some answer)) (Some answer ≡ from_end)
      → (s : ℕ) × Answers s (Some answer) × (e ≤ s)
  answer_after e answer from_end true there next = (suc e, next, omega arith)
  answer_after e answer from_end false there next =
      (e, subst (Answers e) (sym next) there, omega arith)

  pub next_answer : (ended : Option ℕ) (answer : A)
      → IsNextAnswer found_of Answers ended (Some answer)
      → (s : ℕ) × Answers s (Some answer) × (unwrap_or ended 0 ≤ s)
  next_answer None answer is = (0, is, omega arith)
  next_answer (Some e) answer (from_end, there, next) =
      answer_after e answer from_end (is_empty_answer found_of e from_end) there next
