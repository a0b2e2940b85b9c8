-- The end of a search, and its counts.
use Rattle.regex_lite_engine.proofs.Common.{◌≡◌, ℕ, suc, ◌+◌, ◌-◌, ◌*◌, ◌<◌, ◌≤◌, Bool, true, false}
use Rattle.regex_lite_engine.proofs.Common.{◌⊎◌, List, [], ◌∷◌, length, if◌then◌else◌, IsTrue}
use Rattle.regex_lite_engine.proofs.Common.{slice_get, Some, None, Option, sym, refl, ap, ◌∙◌}
use Rattle.regex_lite_engine.proofs.Common.{subst, inl, inr, arith, nil_from_length}
use Rattle.regex_lite_engine.proofs.Common.{slice_get_within, Text, after, holds_between, Condition}
use Rattle.regex_lite_engine.proofs.Common.{free, holding, reading, Arrow, complete, with_arrows}
use Rattle.regex_lite_engine.proofs.Common.{read_past, taken, arrived, arrow_taken, step_from}
use Rattle.regex_lite_engine.proofs.Common.{Thread, IsComing, IsComingTo, ThreadsHold, InStep}
use Rattle.regex_lite_engine.proofs.Common.{Found, IsGrown}
use Rattle.regex_lite_engine.proofs.Common.{marks_along, place_with, numbered_step, is_wanted_end}
use Rattle.regex_lite_engine.proofs.Common.{StartsOf, Best, Node, PendingNode, StartsBelow}
use Rattle.std.proofs.Math.Nat.{mul-suc}
use Rattle.regex_lite_engine.specs.Search.NumberedAnswer.{IsNumberedFound}
use Rattle.regex_lite_engine.specs.Search.NumberedOutcomes.{IsBestOutcome, IsBestOutcomeOf}
use Rattle.regex_lite_engine.specs.Search.NumberedOutcomes.{IsBestOutcomeTo, IsWantedOutcomeTo}
use Rattle.std.specs.Option.{IsSome}
use Rattle.regex_lite_syntax.specs.Text.{before}
use Rattle.regex_lite_engine.specs.Graph.Places.{Place}
use Rattle.regex_lite_engine.specs.Pikevm.Stepping.{FromIs}
use Rattle.regex_lite_engine.specs.Pikevm.Walking.{BestHolds}
use Rattle.regex_lite_engine.proofs.laws.several.OverListLemmas.{IsOverOf, list_answer_when_over}
use Rattle.regex_lite_engine.proofs.search.OneStartLemmas.{only_entry}
use Rattle.regex_lite_engine.proofs.pikevm.WalkLemmas.{none_held}
use Rattle.regex_lite_syntax.proofs.OptionLemmas.{not_there, same_some}
use Rattle.regex_lite_engine.proofs.pikevm.InStepNextLemmas as deep

-- an arrow leads to no earlier position, and to none after the haystack
abbrev IsOnward : Text → (i j : ℕ) → Type 0
IsOnward haystack i j = (i ≤ j) × (i ≤ length haystack → j ≤ length haystack)

same_onward : (haystack : Text) {i j : ℕ} → i ≡ j → IsOnward haystack i j
same_onward haystack same = (omega (arith, same), λ le. omega (arith, le, same))

taken_onward : (haystack : Text) (a : Condition) (i j : ℕ) → taken haystack a i ≡ Some j
    → IsOnward haystack i j
taken_onward haystack free i j e = same_onward haystack (same_some e)
taken_onward haystack (holding l) i j e =
    go (holds_between l (before haystack i) (after haystack i)) e
  where
    go : (b : Bool) → (if b then Some i else None) ≡ Some j → IsOnward haystack i j
    go true e = same_onward haystack (same_some e)
    go false e = absurd (not_there e)
taken_onward haystack (reading set) i j e = go (after haystack i) refl e
  where
    go : (o : Option ℕ) → after haystack i ≡ o → read_past set i o ≡ Some j
        → IsOnward haystack i j
    go None at e = absurd (not_there e)
    go (Some c) at e = fits (set c) e
      where
        fits : (b : Bool) → (if b then Some (suc i) else None) ≡ Some j → IsOnward haystack i j
        fits true e =
            let within = slice_get_within haystack i c at in
            let same : suc i ≡ j = same_some e in
            (omega (arith, same), λ le. omega (arith, within, same))
        fits false e = absurd (not_there e)

pub step_onward : (haystack : Text) (x : Place ℕ) (i k : ℕ) (m : Node)
    → step_from haystack x i k ≡ Some m → IsOnward haystack i m.1
step_onward haystack complete i k m e = absurd (not_there e)
step_onward haystack (with_arrows arrows) i k m e = go (slice_get arrows k) e
  where
    go : (o : Option (Arrow ℕ)) → arrow_taken haystack i o ≡ Some m → IsOnward haystack i m.1
    go None e = absurd (not_there e)
    go (Some a) e = by_end (taken haystack a.condition i) refl e
      where
        by_end : (o : Option ℕ) → taken haystack a.condition i ≡ o → arrived a.to o ≡ Some m
            → IsOnward haystack i m.1
        by_end None t e = absurd (not_there e)
        by_end (Some j) t e =
            subst (IsOnward haystack i) (ap (λ (z : Node). z.1) (same_some e))
            (taken_onward haystack a.condition i j t)

module _ (table : List (Place ℕ)) (haystack : Text) (s : List ℕ) (whole : Bool) (first last : ℕ)
    (within : last ≤ length haystack) where
  nothing_beyond : (p from : ℕ) (recorded : Node → Option (List ℕ))
      (coming : List (PendingNode Node)) (way : Option (List ℕ))
      → length haystack < p →
      InStep table haystack s whole first last p from recorded coming [] way →
      ((n : Node) (v : List ℕ) → recorded n ≡ Some v → n.1 < p) → p ≡ suc (length haystack)
      → coming ≡ []
  nothing_beyond p from recorded [] way past u before at = refl
  nothing_beyond p from recorded (o ∷ os) way past u before at =
      absurd (go (u.now_grown o.0 o.1 (inl (refl, refl))) (u.now_stands o.0 o.1 (inl (refl, refl))))
    where
      go : IsGrown Node (numbered_step table haystack) (is_wanted_end table haystack whole)
          (StartsOf s first last) recorded way o.0 o.1
          → o.0.1 ≡ p → ⊥
      go (inl (i, number, entry, low, high, is, e, at')) pos =
          let same : o.0.1 ≡ i = ap (λ (z : Node). z.1) at' in
          omega (arith, high, within, past, pos, same)
      go (inr (m, v, k, r, hops, e)) pos =
          let below = before m v r in
          let le = (step_onward haystack (place_with table m.0) m.1 k o.0 hops).1
          (omega (arith, below, at)) in
          omega (arith, le, past, pos)

  explored : (q from : ℕ) (recorded : Node → Option (List ℕ)) (way : Option (List ℕ))
      → ((last < from) ⊎ ((b : List ℕ) × (way ≡ Some b))) →
      InStep table haystack s whole first last q from recorded [] [] way
      → IsOverOf table haystack s whole first last recorded way
  explored q from recorded way enough u =
      deep.in_step_over Node (numbered_step table haystack) (StartsOf s first last)
      (is_wanted_end table haystack whole) (λ x. x.1)
      (λ front n (i, number, entry, low, high, is, e, f). (i, number ∷ [], e)) (all enough) u
    where
      all : ((last < from) ⊎ ((b : List ℕ) × (way ≡ Some b)))
          → ((front : List ℕ) (n : Node) → StartsOf s first last front n
          → StartsBelow from front) ⊎ ((b : List ℕ) × (way ≡ Some b))
      all (inl past) =
          inl (λ front n (i, number, entry, low, high, is, e, f).
          subst (StartsBelow from) (sym e) (omega (arith, past, high)))
      all (inr best) = inr best

  -- a search that is over has the answer
  pub answered : (best : Best) (recorded : Node → Option (List ℕ)) (way : Option (List ℕ))
      → BestHolds table haystack s best way → IsOverOf table haystack s whole first last recorded
      way
      → IsWantedOutcomeTo table haystack s whole first last best
  answered None recorded way e over =
      list_answer_when_over table haystack s whole first last within recorded None None
      (subst (λ z. IsOverOf table haystack s whole first last recorded z) e over) refl
  answered (Some b) recorded way
      (w, e, (q, end, at_end, ends, (j, number, entry, ks, at, is, parts, along, has))) over =
      let found : Found = record {
        start = j;
        end = end;
        marks = marks_along haystack (place_with table) (Some (entry, j)) ks;
      } in (
        number,
        found,
        list_answer_when_over table haystack s whole first last within recorded (Some w)
            (Some (number, found))
            (subst (λ z. IsOverOf table haystack s whole first last recorded z) e over)
            (number, entry, found, ks, q, refl, is, parts, along, refl),
        at,
        at_end,
        has,
      )

  -- it is over at the haystack's end, or where no thread is left and no match may start further on
  pub ended_to : (p : ℕ) (cur : List Thread) (best : Best) → first ≤ p → p ≤ length haystack →
      ((p ≡ length haystack) ⊎ ((length cur ≡ 0) × ((best ≡ None → ⊥) ⊎ (last ≤ p))))
      → IsComingTo table haystack s whole first last (p + 1) cur best
      → IsWantedOutcomeTo table haystack s whole first last best
  ended_to p cur best low high over u = go over
    where
      with_none : u.coming ≡ [] → ((last < u.from) ⊎ ((b : List ℕ) × (u.way ≡ Some b)))
          → IsWantedOutcomeTo table haystack s whole first last best
      with_none e enough =
          answered best u.recorded u.way u.best_holds
          (explored (p + 1) u.from u.recorded u.way enough
          (subst (λ z. InStep table haystack s whole first last (p + 1) u.from u.recorded z []
          u.way) e
          u.in_step))

      way_of : (b : Best) → BestHolds table haystack s b u.way → (b ≡ None → ⊥)
          → (w : List ℕ) × (u.way ≡ Some w)
      way_of None e d = absurd (d refl)
      way_of (Some x) (w, e, held) d = (w, e)

      past_last : (b : Best) → BestHolds table haystack s b u.way → FromIs (p + 1) u.from b
          → last ≤ p → (last < u.from) ⊎ ((w : List ℕ) × (u.way ≡ Some w))
      past_last None e is le = inl (omega (arith, is, le))
      past_last (Some x) (w, e, held) is le = inr (w, e)

      enough : ((best ≡ None → ⊥) ⊎ (last ≤ p))
          → (last < u.from) ⊎ ((w : List ℕ) × (u.way ≡ Some w))
      enough (inl some) = inr (way_of best u.best_holds some)
      enough (inr le) = past_last best u.best_holds u.from_is le

      go : (p ≡ length haystack) ⊎ ((length cur ≡ 0) × ((best ≡ None → ⊥) ⊎ (last ≤ p)))
          → IsWantedOutcomeTo table haystack s whole first last best
      go (inl same) =
          with_none (nothing_beyond (p + 1) u.from u.recorded u.coming u.way (omega (arith, same))
          u.in_step u.before (omega (arith, same)))
          (past_last best u.best_holds u.from_is (omega (arith, same, within)))
      go (inr (empty, why)) =
          with_none
          (none_held table haystack s (p + 1) u.coming
          (subst (λ ts. ThreadsHold table haystack s (p + 1) ts u.coming)
          (nil_from_length cur empty)
          u.hold))
          (enough why)

module _ (table : List (Place ℕ)) (haystack : Text) (s : List ℕ) (first : ℕ) where
  -- where a match may start up to the haystack's end, it may start anywhere
  anywhere : (best : Best) → IsBestOutcomeTo table haystack s first (length haystack) best
      → IsBestOutcomeOf table haystack s first best
  anywhere None none = λ i k way q j m. none i k way q j m.is_match.inside m
  anywhere (Some best) (number, found, (up_to, is), reported, at, held) =
      (number, found, is, reported, at, held)

  pub ended_all : (p : ℕ) (cur : List Thread) (best : Best) → first ≤ p → p ≤ length haystack →
      ((p ≡ length haystack) ⊎ ((best ≡ None → ⊥) × (length cur ≡ 0)))
      → IsComing table haystack s first (length haystack) (p + 1) cur best
      → IsBestOutcomeOf table haystack s first best
  ended_all p cur best low high over u =
      anywhere best (ended_to table haystack s false first (length haystack) (omega arith) p cur
      best
      low high (go over) u)
    where
      go : (p ≡ length haystack) ⊎ ((best ≡ None → ⊥) × (length cur ≡ 0))
          → (p ≡ length haystack)
          ⊎ ((length cur ≡ 0) × ((best ≡ None → ⊥) ⊎ (length haystack ≤ p)))
      go (inl same) = inl same
      go (inr (some, empty)) = inr (empty, inl some)

-- of one pattern
pub one_best : (table : List (Place ℕ)) (haystack : Text) (s first : ℕ) (best : Best)
    → IsBestOutcomeOf table haystack (s ∷ []) first best → IsBestOutcome table haystack s first best
one_best table haystack s first None none = λ i q j way m.
    none i 0 way q j (record { entry = s; is_entry = refl; is_match = m })
one_best table haystack s first (Some b) (number, found, is, from, to, held) = (
  found,
  subst (λ z. IsNumberedFound table haystack z first found)
      (sym (only_entry s number is.entry is.is_entry).1) is.answer,
  from.start_reported,
  to,
  held,
)

-- one position more
pub bound_more : (a b p s : ℕ) (m : ℕ) → s ≤ p → a ≤ m * (p - s) → b ≤ a + m → b ≤ m * (p + 1 - s)
bound_more a b p s m low so_far more =
    let next : p + 1 - s ≡ suc (p - s) = omega arith in
    let e : m * (p + 1 - s) ≡ m * (p - s) + m = ap (λ z. m * z) next ∙ mul-suc m (p - s) in
    omega (arith, e, so_far, more)

pub some_after : (o : Option ℕ) (r : Bool) → r ≡ false → (o ≡ None → IsTrue r) → IsSome o
some_after None r e f = absurd (false_true r e (f refl))
  where
    false_true : (r : Bool) → r ≡ false → IsTrue r → ⊥
    false_true r e t = cc
some_after (Some c) r e f = refl
