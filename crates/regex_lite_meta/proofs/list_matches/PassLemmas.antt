-- What a pass knows of a pattern, from position to position.
use Rattle.regex_lite_engine.proofs.Common.{◌≡◌, ℕ, ◌+◌, ◌<◌, ◌≤◌, ◌⊎◌, Bool, false, List}
use Rattle.regex_lite_engine.proofs.Common.{[], ◌∷◌, ◌++◌, length, IsTrue, Some, None}
use Rattle.regex_lite_engine.proofs.Common.{Option, IsUtf8, chars, sym, refl, ap, ◌∙◌, subst, inl}
use Rattle.regex_lite_engine.proofs.Common.{inr, arith, cases_lt, Text, Leads, IsComing, InStep}
use Rattle.regex_lite_engine.proofs.Common.{IsAnswered, IsDead, numbered_step, is_end}
use Rattle.regex_lite_engine.proofs.Common.{StartsOf, IsNumberedMatch, Best, Node, position_at}
use Rattle.regex_lite_engine.proofs.Common.{ThreadsHold, IsHere, IsDeadAt, Thread}
use Rattle.regex_lite_engine.proofs.Common.{nil_from_length}
use Rattle.regex_lite_engine.specs.Graph.Places.{Place}
use Rattle.regex_lite_engine.specs.Search.NumberedAnswer.{NoneStartsBefore}
use Rattle.regex_lite_engine.specs.Search.Pending.{In}
use Rattle.regex_lite_engine.specs.Pikevm.Stepping.{FromIs}
use Rattle.regex_lite_engine.specs.Pikevm.Walking.{BestHolds}
use Rattle.regex_lite_engine.proofs.OffsetLemmas.{boundary_at}
use Rattle.regex_lite_engine.proofs.PositionLemmas.{position_of}
use Rattle.regex_lite_engine.proofs.pikevm.WalkLemmas.{none_held}
use Rattle.regex_lite_engine.proofs.search.OneStartLemmas.{only_entry}
use Rattle.regex_lite_syntax.proofs.OptionLemmas.{not_there}
use Rattle.regex_lite_meta.proofs.Common.{Here}
use Rattle.regex_lite_meta.specs.ListPass.{IsReportedFrom, StartsNoSooner, PassKnows}
use Rattle.regex_lite_meta.proofs.list_matches.ReportedLemmas.{by_least_end, from_later}
use Rattle.regex_lite_meta.specs.declared.list_matches.status.Status.{Status}
use Rattle.regex_lite_meta.specs.declared.list_matches.status.Status.TheVariants.{Known, Open}
use Rattle.regex_lite_meta.specs.declared.list_matches.status.Status.TheVariants.{Left}

-- a search without a thread and without a match
module _ (table : List (Place ℕ)) (haystack : Text) (entries : List ℕ) (s p : ℕ)
    (recorded : Node → Option (List ℕ))
    (u : InStep table haystack entries false s (length haystack) p p recorded [] [] None) where
  abbrev Answered : Node → List ℕ → Type 0
  Answered =
      IsAnswered Node (numbered_step table haystack) (is_end table haystack)
      (StartsOf entries s (length haystack)) recorded None

  -- no way leads to an end from where it came
  no_end : (ks : List ℕ) (m n : Node) (v : List ℕ) → recorded m ≡ Some v
      → Leads Node (numbered_step table haystack) m ks n → IsTrue (is_end table haystack n) → ⊥
  no_end [] m n v r e ends =
      let best = u.best_least n v ends (ap recorded (sym e) ∙ r) in not_there best.1
  no_end (k ∷ ks) m n v r (l, s, along) ends =
      by_case (λ w e. no_end ks l n w e along ends) (u.arrows m v k l r s)
    where
      by_case : ((w : List ℕ) → recorded l ≡ Some w → ⊥)
          → Answered l (v ++ k ∷ []) ⊎ (In Node l (v ++ k ∷ []) [] ⊎ ⊥) → ⊥
      by_case on (inl (inl (w, e, le))) = on w e
      by_case on (inl (inr (b, e, less))) = not_there e
      by_case on (inr (inl none)) = none
      by_case on (inr (inr none)) = none

  -- nor from an earlier start
  no_start : (i number entry : ℕ) (ks : List ℕ) (n : Node)
      → StartsOf entries s (length haystack) (i ∷ (number ∷ [])) (entry, i) → i < p
      → Leads Node (numbered_step table haystack) (entry, i) ks n
      → IsTrue (is_end table haystack n) → ⊥
  no_start i number entry ks n starts less along ends =
      by_case (u.starts (i ∷ (number ∷ [])) (entry, i) starts less)
    where
      by_case : (Answered (entry, i) (i ∷ (number ∷ []))
          ⊎ (In Node (entry, i) (i ∷ (number ∷ [])) [] ⊎ ⊥))
          ⊎ IsDead Node (numbered_step table haystack) (is_end table haystack) (entry, i) → ⊥
      by_case (inr dead) = dead ks n ends along
      by_case (inl (inl (inl (w, e, le)))) = no_end ks (entry, i) n w e along ends
      by_case (inl (inl (inr (b, e, less)))) = not_there e
      by_case (inl (inr (inl none))) = none
      by_case (inl (inr (inr none))) = none

module _ (table : List (Place ℕ)) (haystack : Text) (entry : ℕ) where
  -- where a search has neither a thread nor a match, no match starts before
  pub died : (s p : ℕ) (threads : List Thread) (best : Best) → s ≤ p → length threads ≡ 0
      → best ≡ None
      → IsComing table haystack (entry ∷ []) s (length haystack) p threads best
      → NoneStartsBefore table haystack entry s p
  died s p threads best low empty none coming = record {
    from = low;
    least = λ i q j way is. (
        let by_order : (i < p) ⊎ (p ≤ i) → p ≤ i = λ order.
        elim order [
          | inl less ↦ absurd (started i q j way is less)
          | inr later ↦ later
        ] in
        by_order (cases_lt i p));
  }
    where
      no_coming : coming.coming ≡ []
      no_coming =
          none_held table haystack (entry ∷ []) p coming.coming
          (subst (λ z. ThreadsHold table haystack (entry ∷ []) p z coming.coming)
          (nil_from_length threads empty) coming.hold)

      held : coming.way ≡ None
      held = subst (λ z. BestHolds table haystack (entry ∷ []) z coming.way) none
          coming.best_holds

      at : coming.from ≡ p
      at = subst (FromIs p coming.from) none coming.from_is

      in_step : InStep table haystack (entry ∷ []) false s (length haystack) p p coming.recorded
          [] [] None
      in_step = rw (no_coming, held, at) at coming.in_step

      started : (i q j : ℕ) (way : List ℕ) → IsNumberedMatch table haystack entry s i way q j
          → i < p → ⊥
      started i q j way is less =
          no_start table haystack (entry ∷ []) s p coming.recorded in_step i 0 entry way (q, j)
          (i, 0, entry, is.from, is.inside, refl, refl, refl) less is.leads.is_way.0 is.leads.ends

  -- nor in two spans that follow each other
  pub none_on : (s p q : ℕ) → NoneStartsBefore table haystack entry s p
      → NoneStartsBefore table haystack entry p q → NoneStartsBefore table haystack entry s q
  none_on s p q before after =
      let low = before.from in
      let high = after.from in
      record {
        from = omega (arith, low, high);
        least = λ i k j way is. after.least i k j way (record {
          from = before.least i k j way is;
          inside = is.inside;
          leads = is.leads;
        });
      }

  pub none_yet : (s : ℕ) → NoneStartsBefore table haystack entry s s
  none_yet s = record { from = omega arith; least = λ i k j way is. is.from }

  -- nor where none can
  pub none_past : (s p q : ℕ) → p ≤ q
      → ((i : ℕ) → p ≤ i → i < q → IsDeadAt table haystack entry i)
      → NoneStartsBefore table haystack entry s p → NoneStartsBefore table haystack entry s q
  none_past s p q later dead before =
      let low = before.from in
      record {
        from = omega (arith, low, later);
        least = λ i k j way is. (
            let from = before.least i k j way is in
            let by_order : (i < q) ⊎ (q ≤ i) → q ≤ i = λ order.
            elim order [
              | inl less ↦
                  absurd (dead i from less way (k, j) is.leads.ends is.leads.is_way.0)
              | inr past ↦ past
            ] in
            by_order (cases_lt i q));
      }

  -- what is so of a later position is so of this one
  pub none_so_far : (s p q : ℕ) → s ≤ p → p ≤ q → NoneStartsBefore table haystack entry s q
      → NoneStartsBefore table haystack entry s p
  none_so_far s p q low later before = record {
    from = low;
    least = λ i k j way is. (
        let from = before.least i k j way is in
        omega (arith, later, from));
  }

module _ (table : List (Place ℕ)) (bytes : List ℕ) (utf8 : IsUtf8 bytes) (entry : ℕ) where
  -- said of the offset of a position
  pub no_sooner : (s q : ℕ) (here : Here) → IsHere (chars bytes) q here
      → NoneStartsBefore table (chars bytes) entry s q
      → StartsNoSooner table bytes entry s here.at
  no_sooner s q here is none =
      let same = position_of bytes utf8 q here.at (is.inside, is.bytes) in
      record {
        boundary = boundary_at bytes q here.at utf8 (is.inside, is.bytes);
        none = subst (λ z. NoneStartsBefore table (chars bytes) entry s z) (sym same) none;
      }

  -- what is known from a later position on, before which no match starts, is known from here
  pub reported_on : (s p : ℕ) (reported : Bool) → NoneStartsBefore table (chars bytes) entry s p
      → IsReportedFrom table bytes entry p reported → IsReportedFrom table bytes entry s reported
  reported_on s p reported before after = from_later table (chars bytes) entry s p reported before
      after

  sooner_on : (s p at : ℕ) → NoneStartsBefore table (chars bytes) entry s p
      → StartsNoSooner table bytes entry p at → StartsNoSooner table bytes entry s at
  sooner_on s p at before after = record {
    boundary = after.boundary;
    none = none_on table (chars bytes) entry s p (position_at bytes at) before after.none;
  }

  pub passed_on : (s p q : ℕ) (status : Status)
      → NoneStartsBefore table (chars bytes) entry s p
      → PassKnows table bytes entry p q status → PassKnows table bytes entry s q status
  passed_on s p q (Known reported) before after = reported_on s p reported before after
  passed_on s p q (Open at) before (sooner, none) =
      (sooner_on s p at before sooner, none_on table (chars bytes) entry s p q before none)
  passed_on s p q (Left at) before after = sooner_on s p at before after

  -- a pass comes to a later position, and no match can start between
  pub passed_over : (s p q : ℕ) (status : Status) → p ≤ q
      → ((i : ℕ) → p ≤ i → i < q → IsDeadAt table (chars bytes) entry i)
      → PassKnows table bytes entry s p status → PassKnows table bytes entry s q status
  passed_over s p q (Known reported) later dead passed = passed
  passed_over s p q (Open at) later dead (sooner, none) =
      (sooner, none_past table (chars bytes) entry s p q later dead none)
  passed_over s p q (Left at) later dead passed = passed

  -- what is known at a later position is known here
  pub passed_so_far : (s p q : ℕ) (status : Status) → s ≤ p → p ≤ q
      → PassKnows table bytes entry s q status → PassKnows table bytes entry s p status
  passed_so_far s p q (Known reported) low later passed = passed
  passed_so_far s p q (Open at) low later (sooner, none) =
      (sooner, none_so_far table (chars bytes) entry s p q low later none)
  passed_so_far s p q (Left at) low later passed = passed

  -- where no match starts up to the end, there is none
  pub none_at_all : (s : ℕ)
      → NoneStartsBefore table (chars bytes) entry s (length (chars bytes) + 1)
      → IsReportedFrom table bytes entry s false
  none_at_all s none = by_least_end table (chars bytes) entry s None (λ i k way q j is.
      let (first, same) = only_entry entry k is.entry is.is_entry in
      let own = subst (λ e. IsNumberedMatch table (chars bytes) e s i way q j) (sym same)
      is.is_match in
      let late = none.least i q j way own in
      omega (arith, late, own.inside))
