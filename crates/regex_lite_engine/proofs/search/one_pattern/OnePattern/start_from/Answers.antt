use Rattle.regex_lite_engine.proofs.Common.{◌<◌, ◌≤◌, ◌⊎◌, [], ◌∷◌, chars, refl, subst, inl, inr}
use Rattle.regex_lite_engine.proofs.Common.{arith, cases_lt, places_of, AreDeadAt, IsDeadAt}
use Rattle.regex_lite_engine.proofs.backtrack.RunLemmas.{over_here}
use Rattle.regex_lite_engine.proofs.search.SkipLemmas.{passes_as}
use Rattle.regex_lite_engine.proofs.search.one_pattern.OnePattern.start_from.Goals as goal

pub returns-then-self-clause-none : goal.returns-then-self-clause-none
returns-then-self-clause-none c = λ p is same i low high.
    let one = c.args.self.now in
    let text = chars c.args.haystack.now in
    let w = c.pass_over-first.ensures p is in
    let last = over_here text w.q c.pass_over-first.result w.is c.if-is_none.ensures in
    let by_order : (i < w.q) ⊎ (w.q ≤ i) → IsDeadAt (places_of one.table.now) text one.entry i
    = λ order. elim order [
      | inl before ↦ w.passed i low before 0 one.entry refl
      | inr past ↦
          subst (IsDeadAt (places_of one.table.now) text one.entry)
          (omega (arith, last, past, high)) (one.ends c.if-self.true text)
    ] in
    by_order (cases_lt i w.q)

pub returns-clause-first : goal.returns-clause-first
returns-clause-first c = λ p is.
    let one = c.args.self.now in
    let text = chars c.args.haystack.now in
    let table = places_of one.table.now in
    passes_as (AreDeadAt table text (one.entry ∷ [])) (IsDeadAt table text one.entry) text p
    c.pass_over-first.result (λ i dead. dead 0 one.entry refl) (c.pass_over-first.ensures p is)
