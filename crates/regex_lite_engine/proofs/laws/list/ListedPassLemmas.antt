-- What is listed where a repetition stands whose body reads, if it has no limit.
use Rattle.regex_lite_engine.proofs.Common.{◌≡◌, ℕ, zero, suc, ◌+◌, ◌-◌, ◌≤◌, Bool, true, false}
use Rattle.regex_lite_engine.proofs.Common.{List, [], ◌++◌, length, if◌then◌else◌, Some, None}
use Rattle.regex_lite_engine.proofs.Common.{Option, sym, refl, ap, ◌∙◌, subst, append-nil, arith}
use Rattle.regex_lite_engine.proofs.Common.{Text, AtMost, choice, Entry, onward, stop}
use Rattle.regex_lite_syntax.specs.Tree.Matches.{Passes}
use Rattle.regex_lite_syntax.specs.Tree.Regular.{InOrder}
use Rattle.regex_lite_engine.specs.Graph.Places.{Place}
use Rattle.regex_lite_engine.proofs.laws.IsHereLemmas.{InRow, InChoices, IsBetween}
use Rattle.regex_lite_engine.proofs.laws.IsHereLemmas.{IsBounded, IsRepetition}
use Rattle.regex_lite_engine.specs.Search.PreferenceList.{passes, up_to, further}
use Rattle.regex_lite_engine.proofs.laws.list.EntryLemmas.{onward_append, onward_assoc}
use Rattle.regex_lite_engine.proofs.laws.list.EntryLemmas.{onward_stop, onward_nothing}
use Rattle.regex_lite_engine.proofs.laws.list.ReadingLemmas.{Reads}
use Rattle.regex_lite_engine.proofs.laws.list.ListedLemmas.{Listed, as_listed, by_go, by_choice}

both_passes : (Pass : ℕ → ℕ → Type 0) (m n i k j : ℕ) → Passes Pass m i k → Passes Pass n k j
    → Passes Pass (m + n) i j
both_passes Pass zero n i k j e passes =
    let all : n ≡ zero + n = omega arith in
    subst (λ z. Passes Pass z i j) all (subst (λ z. Passes Pass n z j) (sym e) passes)
both_passes Pass (suc m) n i k j (via, pass, first) passes =
    let all : suc (m + n) ≡ suc m + n = omega arith in
    let others = both_passes Pass m n via k j first passes in
    subst (λ z. Passes Pass z i j) all (via, pass, others)

module _ (body : ℕ → List Entry) where
  -- what follows the passes goes on
  onward_passes : (n : ℕ) (i : ℕ) (next on : ℕ → List Entry)
      → onward (passes n body next i) on ≡ passes n body (λ j. onward (next j) on) i
  onward_passes zero i next on = refl
  onward_passes (suc n) i next on =
      onward_assoc (body i) (passes n body next) on
      ∙ ap (onward (body i)) (λ t j. onward_passes n j next on t)

  -- the last pass apart
  passes_last : (n : ℕ) (i : ℕ) (next : ℕ → List Entry)
      → passes (suc n) body next i ≡ passes n body (λ j. onward (body j) next) i
  passes_last zero i next = refl
  passes_last (suc n) i next = ap (onward (body i)) (λ t j. passes_last n j next t)

  no_more_passes : (n : ℕ) (i : ℕ) (next : ℕ → List Entry)
      → passes n body (λ j. onward (stop j) next) i ≡ passes n body next i
  no_more_passes n i next = ap (λ on. passes n body on i) (λ t j. onward_stop j next t)

  -- one pass more, or none
  one_more : (n : ℕ) (greedy : Bool) (i : ℕ) (next : ℕ → List Entry)
      → (if greedy then onward (body i) (λ j. onward (up_to n greedy body j) next) ++ next i
      else next i ++ onward (body i) (λ j. onward (up_to n greedy body j) next))
      ≡ onward (up_to (suc n) greedy body i) next
  one_more n true i next =
      let more = onward_assoc (body i) (up_to n true body) next in
      let all = onward_append (onward (body i) (up_to n true body)) (stop i) next in
      sym (all ∙ ap (λ xs. xs ++ onward (stop i) next) more
      ∙ ap (λ xs. onward (body i) (λ j. onward (up_to n true body j) next) ++ xs)
      (onward_stop i next))
  one_more n false i next =
      let more = onward_assoc (body i) (up_to n false body) next in
      let all = onward_append (stop i) (onward (body i) (up_to n false body)) next in
      sym (all ∙ ap (λ xs. onward (stop i) next ++ xs) more
      ∙ ap (λ xs. xs ++ onward (body i) (λ j. onward (up_to n false body j) next))
      (onward_stop i next))

  none_more : (greedy : Bool) (i : ℕ) (next : ℕ → List Entry)
      → (if greedy then onward (body i) (λ j. []) ++ next i
      else next i ++ onward (body i) (λ j. []))
      ≡ onward (stop i) next
  none_more true i next =
      ap (λ xs. xs ++ next i) (onward_nothing (body i)) ∙ sym (onward_stop i next)
  none_more false i next =
      ap (λ xs. next i ++ xs) (onward_nothing (body i)) ∙ append-nil (next i)
      ∙ sym (onward_stop i next)

-- where there is no limit, each pass reads
abbrev pub LoopReads : Text → (Pass : ℕ → ℕ → Type 0) → (most : Option ℕ) → (nullable_body : Bool)
    → Type 0
LoopReads haystack Pass None nullable_body =
    (nullable_body ≡ false) × ((i j : ℕ) → Pass i j → Reads haystack i j)
LoopReads haystack Pass (Some most) nullable_body = Unit {0}

module _ {A : Type 0} {haystack : Text} {place : A → Place A} {end : A} (greedy : Bool)
    (Pass : ℕ → ℕ → Type 0) (Body : A → A → Type 0) (body : ℕ → List Entry)
    (inside : (enter exit : A) (i : ℕ) (next : ℕ → List Entry) → Body enter exit
    → ((j : ℕ) → Pass i j → Listed haystack place end exit j (next j))
    → Listed haystack place end enter i (onward (body i) next)) where
  in_row : (n : ℕ) {enter exit : A} (i : ℕ) (next : ℕ → List Entry) → InRow Body n enter exit
      → ((j : ℕ) → Passes Pass n i j → Listed haystack place end exit j (next j))
      → Listed haystack place end enter i (passes n body next i)
  in_row zero i next e follows =
      subst (λ a. Listed haystack place end a i (next i)) (sym e) (follows i refl)
  in_row (suc n) {enter} i next (via, stands, row) follows =
      inside enter via i (passes n body next) stands
      (λ k pass. in_row n k next row (λ j later. follows j (k, pass, later)))

  in_choices : (d : ℕ) {join enter : A} (i : ℕ) (next : ℕ → List Entry)
      → InChoices place greedy Body d join enter
      → ((j n : ℕ) → n ≤ d → Passes Pass n i j → Listed haystack place end join j (next j))
      → Listed haystack place end enter i (onward (up_to d greedy body i) next)
  in_choices zero i next e follows =
      let here = subst (λ a. Listed haystack place end a i (next i)) (sym e)
      (follows i 0 (omega arith) refl) in
      as_listed (sym (onward_stop i next)) here
  in_choices (suc d) {join} i next (first, via, chosen, stands, later) follows =
      let stopped = follows i 0 (omega arith) refl in
      let on = λ (j : ℕ). onward (up_to d greedy body j) next in
      let pass = inside first via i on stands (λ k p. in_choices d k next later
      (λ j n few others. follows j (suc n) (omega (arith, few)) (k, p, others))) in
      let turn = by_choice greedy first join (onward (body i) on) (next i) chosen pass stopped in
      as_listed (one_more body d greedy i next) turn

  in_loop : (n : ℕ) {turn first exit : A} (i : ℕ) (next : ℕ → List Entry)
      → ((i j : ℕ) → Pass i j → Reads haystack i j)
      → length haystack ≤ i + n → place turn ≡ choice greedy first exit → Body first turn
      → ((j n : ℕ) → Passes Pass n i j → Listed haystack place end exit j (next j))
      → Listed haystack place end turn i (onward (up_to n greedy body i) next)
  in_loop zero {turn} {first} {exit} i next reading few chosen stands follows =
      let pass = inside first turn i (λ j. []) stands (λ k p. absurd (
      let read = reading i k p in omega (arith, few, read.0, read.1))) in
      let both = by_choice greedy first exit (onward (body i) (λ j. [])) (next i) chosen pass
      (follows i 0 refl) in
      as_listed (none_more body greedy i next) both
  in_loop (suc n) {turn} {first} {exit} i next reading few chosen stands follows =
      let on = λ (j : ℕ). onward (up_to n greedy body j) next in
      let pass = inside first turn i on stands (λ k p. (
      let read = reading i k p in
      in_loop n k next reading (omega (arith, few, read.0)) chosen stands
      (λ j m others. follows j (suc m) (k, p, others)))) in
      let both = by_choice greedy first exit (onward (body i) on) (next i) chosen pass
      (follows i 0 refl) in
      as_listed (one_more body n greedy i next) both

  in_between : (least above : ℕ) {enter exit : A} (i : ℕ) (next : ℕ → List Entry)
      → IsBetween place greedy Body least above enter exit
      → ((j n : ℕ) → least ≤ n → n ≤ least + above → Passes Pass n i j
      → Listed haystack place end exit j (next j))
      → Listed haystack place end enter i
      (onward (passes least body (up_to above greedy body) i) next)
  in_between least above i next (turn, join, row, choices, joined) follows =
      let on = λ (j : ℕ). onward (up_to above greedy body j) next in
      let all = in_row least i on row (λ k first. in_choices above k next choices
      (λ j n few others. by_go joined (follows j (least + n) (omega arith) (omega (arith, few))
      (both_passes Pass least n i k j first others)))) in
      as_listed (sym (onward_passes body least i (up_to above greedy body) next)) all

  in_bounded : (least above : ℕ) {enter exit : A} (i : ℕ) (next : ℕ → List Entry)
      → IsBounded place greedy Body least above enter exit
      → ((j n : ℕ) → least ≤ n → n ≤ least + above → Passes Pass n i j
      → Listed haystack place end exit j (next j))
      → Listed haystack place end enter i
      (onward (passes least body (up_to above greedy body) i) next)
  in_bounded zero zero i next joined follows =
      let here = by_go joined (follows i 0 (omega arith) (omega arith) refl) in
      as_listed (sym (onward_stop i next)) here
  in_bounded (suc m) zero i next row follows =
      let all = in_row (suc m) i next row
      (λ j made. follows j (suc m) (omega arith) (omega arith) made) in
      let plain = no_more_passes body (suc m) i next in
      as_listed (sym (onward_passes body (suc m) i stop next ∙ plain)) all
  in_bounded zero (suc zero) i next stands follows =
      in_between zero (suc zero) i next stands follows
  in_bounded zero (suc (suc d)) i next (turn, entered, stands) follows =
      by_go entered (in_between zero (suc (suc d)) i next stands follows)
  in_bounded (suc m) (suc d) i next stands follows =
      in_between (suc m) (suc d) i next stands follows

  pub in_repetition : (least : ℕ) (most : Option ℕ) (nullable_body : Bool) {enter exit : A} (i : ℕ)
      (next : ℕ → List Entry) → InOrder least most → LoopReads haystack Pass most nullable_body
      → IsRepetition place greedy Body least most nullable_body enter exit
      → ((j n : ℕ) → least ≤ n → AtMost n most → Passes Pass n i j
      → Listed haystack place end exit j (next j))
      → Listed haystack place end enter i
      (onward (passes least body (further haystack least most greedy body) i) next)
  in_repetition zero None true i next order (e, reading) stands follows = absurd cc
  in_repetition zero None false i next order (e, reading) (first, chosen, stands) follows =
      in_loop (length haystack - i) i next reading (omega arith) chosen stands
      (λ j n made. follows j n (omega arith) tt made)
  in_repetition (suc m) None nullable_body {enter} {exit} i next order (e, reading)
      (first, turn, row, stands, chosen) follows =
      let loop = λ (j : ℕ). onward (up_to (length haystack - j) greedy body j) next in
      let last = λ (j : ℕ). onward (body j) loop in
      let all = in_row m i last row (λ k made. inside first turn k loop stands (λ l pass.
      in_loop (length haystack - l) l next reading (omega arith) chosen stands
      (λ j n others. follows j (m + suc n) (omega arith) tt
      (both_passes Pass m (suc n) i k j made (l, pass, others))))) in
      let on = onward_passes body (suc m) i (further haystack (suc m) None greedy body) next in
      as_listed (sym (on ∙ passes_last body m i loop)) all
  in_repetition zero (Some most) nullable_body i next order reading stands follows =
      in_bounded zero (most - zero) i next stands
      (λ j n low high made. follows j n low (omega (arith, high)) made)
  in_repetition (suc m) (Some most) nullable_body i next order reading stands follows =
      in_bounded (suc m) (most - suc m) i next stands
      (λ j n low high made. follows j n low (omega (arith, high, order)) made)
