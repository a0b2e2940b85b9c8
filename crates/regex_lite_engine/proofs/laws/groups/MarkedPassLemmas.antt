-- What walks mark where a repetition stands.
use Rattle.regex_lite_engine.proofs.Common.{◌≡◌, ℕ, zero, suc, ◌+◌, ◌-◌, ◌≤◌, Bool, true, false}
use Rattle.regex_lite_engine.proofs.Common.{Some, None, Option, sym, refl, ap, ◌∙◌, subst, arith}
use Rattle.regex_lite_engine.proofs.Common.{Text, AtMost, complete, choice, Marks, no_marks, over}
use Rattle.regex_lite_syntax.specs.Tree.Regular.{InOrder}
use Rattle.regex_lite_engine.specs.Graph.Places.{Place}
use Rattle.regex_lite_engine.proofs.laws.IsHereLemmas.{InRow, InChoices, IsNullableStar}
use Rattle.regex_lite_engine.proofs.laws.IsHereLemmas.{IsBetween, IsBounded, IsRepetition}
use Rattle.regex_lite_engine.proofs.laws.list.EntryLemmas.{over_assoc, over_none}
use Rattle.regex_lite_engine.proofs.laws.groups.MarkingLemmas.{MarkedPasses}
use Rattle.regex_lite_engine.proofs.laws.groups.MarkedWalkLemmas.{Each, fewer, no_walk}
use Rattle.regex_lite_engine.proofs.laws.groups.MarkedWalkLemmas.{weaken, by_go, by_choice}

-- the property of marks that are laid over these
abbrev pub Over : (Marks → ℕ → Type 0) → Marks → Marks → ℕ → Type 0
Over P first later j = P (over later first) j

both_passes : (Pass : ℕ → ℕ → Marks → Type 0) (m n i k j : ℕ) (first later : Marks)
    → MarkedPasses Pass m i k first → MarkedPasses Pass n k j later
    → MarkedPasses Pass (m + n) i j (over later first)
both_passes Pass zero n i k j first later (e, none) others =
    let all : n ≡ zero + n = omega arith in
    let moved = subst (λ z. MarkedPasses Pass n z j later) (sym e) others in
    let same : later ≡ over later first = sym (ap (λ m. over later m) none ∙ over_none later) in
    subst (λ m. MarkedPasses Pass (zero + n) i j m) same
    (subst (λ z. MarkedPasses Pass z i j later) all moved)
both_passes Pass (suc m) n i k j first later (via, a, b, pass, made, e) others =
    let all : suc (m + n) ≡ suc m + n = omega arith in
    let rest = both_passes Pass m n via k j b later made others in
    let same = ap (λ z. over later z) e ∙ sym (over_assoc later b a) in
    subst (λ z. MarkedPasses Pass z i j (over later first)) all
    (via, a, over later b, pass, rest, same)

module _ {A : Type 0} {haystack : Text} {place : A → Place A} {end : A}
    (final : place end ≡ complete) where
  pub plain : {n : ℕ} {a : A} {i : ℕ} (P : Marks → ℕ → Type 0)
      → Each haystack place end n a i (Over P no_marks) → Each haystack place end n a i P
  plain {n} {a} {i} P each =
      weaken final n a i (Over P no_marks) P
      (λ marks j p. subst (λ m. P m j) (over_none marks) p) each

  pub together : {n : ℕ} {a : A} {i : ℕ} (P : Marks → ℕ → Type 0) (first later : Marks)
      → Each haystack place end n a i (Over P (over later first))
      → Each haystack place end n a i (Over (Over P first) later)
  together {n} {a} {i} P first later each =
      weaken final n a i (Over P (over later first)) (Over (Over P first) later)
      (λ marks j p. subst (λ m. P m j) (sym (over_assoc marks later first)) p) each

  module _ (greedy : Bool) (Pass : ℕ → ℕ → Marks → Type 0) (Body : A → A → Type 0)
      (inside : (enter exit : A) (i n : ℕ) (P : Marks → ℕ → Type 0) → Body enter exit
      → ((k : ℕ) (marks : Marks) → Pass i k marks
      → Each haystack place end n exit k (Over P marks))
      → Each haystack place end n enter i P) where
    in_row : (m : ℕ) {enter exit : A} (i n : ℕ) (P : Marks → ℕ → Type 0)
        → InRow Body m enter exit
        → ((k : ℕ) (marks : Marks) → MarkedPasses Pass m i k marks
        → Each haystack place end n exit k (Over P marks))
        → Each haystack place end n enter i P
    in_row zero i n P e follows =
        subst (λ a. Each haystack place end n a i P) (sym e)
        (plain P (follows i no_marks (refl, refl)))
    in_row (suc m) {enter} i n P (via, stands, row) follows =
        inside enter via i n P stands (λ k first pass. in_row m k n (Over P first) row
        (λ l later made. together P first later
        (follows l (over later first) (k, first, later, pass, made, refl))))

    in_loop : (n : ℕ) {turn first exit : A} (i : ℕ) (P : Marks → ℕ → Type 0)
        → place turn ≡ choice greedy first exit → Body first turn
        → ((k : ℕ) (marks : Marks) (count : ℕ) → MarkedPasses Pass count i k marks
        → Each haystack place end n exit k (Over P marks))
        → Each haystack place end n turn i P
    in_loop zero {turn} i P chosen stands follows = no_walk final turn i P
    in_loop (suc n) {turn} {first} {exit} i P chosen stands follows =
        let stopped = fewer final n exit i P (plain P (follows i no_marks 0 (refl, refl))) in
        let pass =
        inside first turn i n P stands (λ k m made. in_loop n k (Over P m) chosen stands
        (λ l later count others. fewer final n exit l (Over (Over P m) later)
        (together P m later
        (follows l (over later m) (suc count) (k, m, later, made, others, refl))))) in
        by_choice final n greedy turn first exit i P chosen pass stopped

    in_nullable_star : {enter exit : A} (i n : ℕ) (P : Marks → ℕ → Type 0)
        → IsNullableStar place greedy Body enter exit
        → ((k : ℕ) (marks : Marks) (count : ℕ) → MarkedPasses Pass count i k marks
        → Each haystack place end n exit k (Over P marks))
        → Each haystack place end n enter i P
    in_nullable_star {enter} {exit} i n P (first, plus, join, chosen, stands, again, joined)
        follows =
        let stopped = by_go final n join exit i P joined
        (plain P (follows i no_marks 0 (refl, refl))) in
        let pass = inside first plus i n P stands (λ k m made. in_loop n k (Over P m) again stands
        (λ l later count others. by_go final n join exit l (Over (Over P m) later) joined
        (together P m later
        (follows l (over later m) (suc count) (k, m, later, made, others, refl))))) in
        fewer final n enter i P (by_choice final n greedy enter first join i P chosen pass stopped)

    in_choices : (d : ℕ) {join enter : A} (i n : ℕ) (P : Marks → ℕ → Type 0)
        → InChoices place greedy Body d join enter
        → ((k : ℕ) (marks : Marks) (count : ℕ) → count ≤ d → MarkedPasses Pass count i k marks
        → Each haystack place end n join k (Over P marks))
        → Each haystack place end n enter i P
    in_choices zero i n P e follows =
        subst (λ a. Each haystack place end n a i P) (sym e)
        (plain P (follows i no_marks 0 (omega arith) (refl, refl)))
    in_choices (suc d) {join} {enter} i n P (first, via, chosen, stands, later_choices) follows =
        let stopped = plain P (follows i no_marks 0 (omega arith) (refl, refl)) in
        let pass = inside first via i n P stands (λ k m made.
        in_choices d k n (Over P m) later_choices
        (λ l later count few others. together P m later
        (follows l (over later m) (suc count) (omega (arith, few))
        (k, m, later, made, others, refl)))) in
        fewer final n enter i P (by_choice final n greedy enter first join i P chosen pass stopped)

    in_between : (least above : ℕ) {enter exit : A} (i n : ℕ) (P : Marks → ℕ → Type 0)
        → IsBetween place greedy Body least above enter exit
        → ((k : ℕ) (marks : Marks) (count : ℕ) → least ≤ count → count ≤ least + above
        → MarkedPasses Pass count i k marks
        → Each haystack place end n exit k (Over P marks))
        → Each haystack place end n enter i P
    in_between least above {enter} {exit} i n P (turn, join, row, choices, joined) follows =
        in_row least i n P row (λ k first made. in_choices above k n (Over P first) choices
        (λ l later count few others.
        by_go final n join exit l (Over (Over P first) later) joined (together P first later
        (follows l (over later first) (least + count) (omega arith) (omega (arith, few))
        (both_passes Pass least count i k l first later made others)))))

    in_bounded : (least above : ℕ) {enter exit : A} (i n : ℕ) (P : Marks → ℕ → Type 0)
        → IsBounded place greedy Body least above enter exit
        → ((k : ℕ) (marks : Marks) (count : ℕ) → least ≤ count → count ≤ least + above
        → MarkedPasses Pass count i k marks
        → Each haystack place end n exit k (Over P marks))
        → Each haystack place end n enter i P
    in_bounded zero zero {enter} {exit} i n P joined follows =
        by_go final n enter exit i P joined
        (plain P (follows i no_marks 0 (omega arith) (omega arith) (refl, refl)))
    in_bounded (suc m) zero i n P row follows =
        in_row (suc m) i n P row
        (λ k marks made. follows k marks (suc m) (omega arith) (omega arith) made)
    in_bounded zero (suc zero) i n P stands follows =
        in_between zero (suc zero) i n P stands follows
    in_bounded zero (suc (suc d)) {enter} i n P (turn, entered, stands) follows =
        by_go final n enter turn i P entered
        (in_between zero (suc (suc d)) i n P stands follows)
    in_bounded (suc m) (suc d) i n P stands follows =
        in_between (suc m) (suc d) i n P stands follows

    pub in_repetition : (least : ℕ) (most : Option ℕ) (nullable_body : Bool) {enter exit : A}
        (i n : ℕ) (P : Marks → ℕ → Type 0) → InOrder least most
        → IsRepetition place greedy Body least most nullable_body enter exit
        → ((k : ℕ) (marks : Marks) (count : ℕ) → least ≤ count → AtMost count most
        → MarkedPasses Pass count i k marks
        → Each haystack place end n exit k (Over P marks))
        → Each haystack place end n enter i P
    in_repetition zero None true i n P order stands follows =
        in_nullable_star i n P stands
        (λ k marks count made. follows k marks count (omega arith) tt made)
    in_repetition zero None false i n P order (first, chosen, stands) follows =
        in_loop n i P chosen stands
        (λ k marks count made. follows k marks count (omega arith) tt made)
    in_repetition (suc m) None nullable_body {enter} {exit} i n P order
        (first, turn, row, stands, chosen) follows =
        in_row m i n P row (λ k a made. inside first turn k n (Over P a) stands (λ l b pass.
        in_loop n l (Over (Over P a) b) chosen stands (λ j c count others.
        together (Over P a) b c (together P a (over c b)
        (follows j (over (over c b) a) (m + suc count) (omega arith) tt
        (both_passes Pass m (suc count) i k j a (over c b) made
        (l, b, c, pass, others, refl)))))))
    in_repetition zero (Some most) nullable_body i n P order stands follows =
        in_bounded zero (most - zero) i n P stands
        (λ k marks count low high made. follows k marks count low (omega (arith, high)) made)
    in_repetition (suc m) (Some most) nullable_body i n P order stands follows =
        in_bounded (suc m) (most - suc m) i n P stands
        (λ k marks count low high made. follows k marks count low (omega (arith, high, order)) made)
