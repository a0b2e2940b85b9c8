-- The passes of a repetition that stands in a graph are walks through it.
use Rattle.regex_lite_engine.proofs.Common.{◌≡◌, ℕ, zero, suc, ◌+◌, ◌-◌, ◌≤◌, Bool, true, false}
use Rattle.regex_lite_engine.proofs.Common.{Some, None, Option, refl, subst, arith, Text, AtMost}
use Rattle.regex_lite_engine.proofs.Common.{choice}
use Rattle.regex_lite_syntax.specs.Tree.Matches.{Passes}
use Rattle.regex_lite_engine.specs.Graph.Places.{Place}
use Rattle.regex_lite_engine.proofs.laws.IsHereLemmas.{InRow, InChoices, IsNullableStar}
use Rattle.regex_lite_engine.proofs.laws.IsHereLemmas.{IsAtLeast, IsBetween, IsBounded}
use Rattle.regex_lite_engine.proofs.laws.IsHereLemmas.{IsRepetition}
use Rattle.regex_lite_engine.proofs.laws.WalkLemmas.{Walk, walk_on, no_arrow}
use Rattle.regex_lite_engine.proofs.laws.WalkLemmas.{by_go, into_body, past_body}

-- the first passes, and the others
split_passes : (Pass : ℕ → ℕ → Type 0) (first others n i j : ℕ) → n ≡ first + others
    → Passes Pass n i j → (k : ℕ) × Passes Pass first i k × Passes Pass others k j
split_passes Pass zero others n i j e passes =
    let all : n ≡ others = omega (arith, e) in
    (i, refl, subst (λ z. Passes Pass z i j) all passes)
split_passes Pass (suc first) others zero i j e passes = absurd (omega (arith, e))
split_passes Pass (suc first) others (suc n) i j e (via, pass, passes) =
    let parts = split_passes Pass first others n via j (omega (arith, e)) passes in
    (parts.0, (via, pass, parts.1), parts.2)

module _ {haystack : Text} {A : Type 0} {place : A → Place A} (greedy : Bool)
    (Pass : ℕ → ℕ → Type 0) (Body : A → A → Type 0)
    (walk : (enter exit : A) (i j : ℕ) → Body enter exit → Pass i j
    → Walk haystack place enter i exit j) where
  in_row : (n : ℕ) {enter exit : A} {i j : ℕ} → InRow Body n enter exit → Passes Pass n i j
      → Walk haystack place enter i exit j
  in_row zero e f = no_arrow e f
  in_row (suc n) {enter} {i = i} (next, body, row) (via, pass, passes) =
      walk_on (walk enter next i via body pass) (in_row n row passes)

  -- a choice whose body leads back to it
  in_loop : (n : ℕ) {turn body exit : A} {i j : ℕ} → place turn ≡ choice greedy body exit
      → Body body turn → Passes Pass n i j → Walk haystack place turn i exit j
  in_loop zero {turn} {body} {exit} {i} chosen stands e =
      subst (λ k. Walk haystack place turn i exit k) e (past_body greedy body exit chosen)
  in_loop (suc n) {turn} {body} {exit} {i} chosen stands (via, pass, passes) =
      let first = walk_on (into_body greedy body exit chosen) (walk body turn i via stands pass) in
      walk_on first (in_loop n chosen stands passes)

  in_nullable_star : (n : ℕ) {enter exit : A} {i j : ℕ}
      → IsNullableStar place greedy Body enter exit → Passes Pass n i j
      → Walk haystack place enter i exit j
  in_nullable_star zero {enter} {exit} {i} (body, plus, join, chosen, stands, again, joined) e =
      let past = walk_on (past_body greedy body join chosen) (by_go joined) in
      subst (λ k. Walk haystack place enter i exit k) e past
  in_nullable_star (suc n) {i = i} (body, plus, join, chosen, stands, again, joined) passes =
      let pass = walk body plus i passes.0 stands passes.1 in
      let first = walk_on (into_body greedy body join chosen) pass in
      walk_on first (walk_on (in_loop n again stands passes.2) (by_go joined))

  in_choices : (d n : ℕ) {join enter : A} {i j : ℕ} → n ≤ d
      → InChoices place greedy Body d join enter → Passes Pass n i j
      → Walk haystack place enter i join j
  in_choices zero zero few e f = no_arrow e f
  in_choices zero (suc n) few e passes = absurd (omega (arith, few))
  in_choices (suc d) zero {join} {enter} {i} few (body, next, chosen, stands, later) e =
      subst (λ k. Walk haystack place enter i join k) e (past_body greedy body join chosen)
  in_choices (suc d) (suc n) {join} {i = i} few (body, next, chosen, stands, later) passes =
      let pass = walk body next i passes.0 stands passes.1 in
      let first = walk_on (into_body greedy body join chosen) pass in
      walk_on first (in_choices d n (omega (arith, few)) later passes.2)

  in_at_least : (least n : ℕ) {enter exit : A} {i j : ℕ} (via : ℕ)
      → IsAtLeast place greedy Body least enter exit → Passes Pass least i via
      → Passes Pass (suc n) via j → Walk haystack place enter i exit j
  in_at_least least n via (body, turn, row, stands, chosen) first (next, pass, passes) =
      let last = walk body turn via next stands pass in
      walk_on (in_row least row first) (walk_on last (in_loop n chosen stands passes))

  in_between : (least above n : ℕ) {enter exit : A} {i j : ℕ} (via : ℕ) → n ≤ above
      → IsBetween place greedy Body least above enter exit → Passes Pass least i via
      → Passes Pass n via j → Walk haystack place enter i exit j
  in_between least above n via few (turn, join, row, choices, joined) first passes =
      let others = in_choices above n few choices passes in
      walk_on (in_row least row first) (walk_on others (by_go joined))

  in_bounded : (least above n : ℕ) {enter exit : A} {i j : ℕ} → least ≤ n → n ≤ least + above
      → IsBounded place greedy Body least above enter exit → Passes Pass n i j
      → Walk haystack place enter i exit j
  in_bounded zero zero n {enter} {exit} {i} {j} low high joined passes =
      let none_left : n ≡ zero = omega (arith, low, high) in
      let e : i ≡ j = subst (λ z. Passes Pass z i j) none_left passes in
      subst (λ k. Walk haystack place enter i exit k) e (by_go joined)
  in_bounded (suc m) zero n {i = i} {j} low high row passes =
      let all : n ≡ suc m = omega (arith, low, high) in
      in_row (suc m) row (subst (λ z. Passes Pass z i j) all passes)
  in_bounded zero (suc zero) n {i = i} low high stands passes =
      in_between zero (suc zero) n i (omega (arith, high)) stands refl passes
  in_bounded zero (suc (suc d)) n {i = i} low high (turn, entered, stands) passes =
      let few : n ≤ suc (suc d) = omega (arith, high) in
      walk_on (by_go entered) (in_between zero (suc (suc d)) n i few stands refl passes)
  in_bounded (suc m) (suc d) n {i = i} {j} low high stands passes =
      let parts = split_passes Pass (suc m) (n - suc m) n i j (omega (arith, low)) passes in
      let few : n - suc m ≤ suc d = omega (arith, low, high) in
      in_between (suc m) (suc d) (n - suc m) parts.0 few stands parts.1 parts.2

  pub in_repetition : (least : ℕ) (most : Option ℕ) (nullable_body : Bool) (n : ℕ) {enter exit : A}
      {i j : ℕ} → IsRepetition place greedy Body least most nullable_body enter exit
      → least ≤ n → AtMost n most → Passes Pass n i j → Walk haystack place enter i exit j
  in_repetition zero None true n stands low high passes = in_nullable_star n stands passes
  in_repetition zero None false n (body, chosen, stands) low high passes =
      in_loop n chosen stands passes
  in_repetition (suc m) None nullable_body zero stands low high passes =
      absurd (omega (arith, low))
  in_repetition (suc m) None nullable_body (suc n) {i = i} {j} stands low high passes =
      let parts = split_passes Pass m (suc (n - m)) (suc n) i j (omega (arith, low)) passes in
      in_at_least m (n - m) parts.0 stands parts.1 parts.2
  in_repetition zero (Some most) nullable_body n stands low high passes =
      in_bounded zero (most - zero) n low (omega (arith, high)) stands passes
  in_repetition (suc m) (Some most) nullable_body n stands low high passes =
      in_bounded (suc m) (most - suc m) n low (omega (arith, low, high)) stands passes
