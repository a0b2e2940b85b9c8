-- The first position at which a match is complete.
use Rattle.regex_lite_engine.proofs.Common.{◌≡◌, ℕ, ◌+◌, ◌<◌, ◌≤◌, Bool, false, ◌⊎◌, List, [], ◌∷◌}
use Rattle.regex_lite_engine.proofs.Common.{◌++◌, length, IsTrue, slice_get, Some, None, Option}
use Rattle.regex_lite_engine.proofs.Common.{sym, refl, ap, ◌∙◌, subst, inl, inr, arith, cases_lt}
use Rattle.regex_lite_engine.proofs.Common.{Text, after, Leads, NoneTwice, Thread, IsComing, InStep}
use Rattle.regex_lite_engine.proofs.Common.{Reported, IsDead, IsAnswered, place_with, numbered_step}
use Rattle.regex_lite_engine.proofs.Common.{is_end, is_wanted_end, IsComingTo, IsNumberedMatch}
use Rattle.regex_lite_engine.proofs.Common.{IsEntry, StartsOf}
use Rattle.regex_lite_engine.proofs.Common.{IsMatchOfAny, Best, Node, PendingNode, offset, Row}
use Rattle.regex_lite_engine.specs.Search.NumberedList.{IsWantedOfAny}
use Rattle.regex_lite_engine.specs.Search.NumberedOutcomes.{IsNumberedEndOf}
use Rattle.regex_lite_syntax.specs.Text.{before}
use Rattle.regex_lite_syntax.proofs.ListLemmas.{same_head, same_tail}
use Rattle.regex_lite_engine.specs.Graph.Places.{Place}
use Rattle.regex_lite_engine.specs.Search.Pending.{In}
use Rattle.regex_lite_engine.specs.Pikevm.Stepping.{EndsAt}
use Rattle.regex_lite_engine.specs.Pikevm.Walking.{BestHolds}
use Rattle.regex_lite_engine.proofs.laws.LeadsLemmas.{leads_to_one}
use Rattle.regex_lite_engine.proofs.laws.several.OverListLemmas.{differ}
use Rattle.regex_lite_engine.proofs.laws.search.RecordedWayLemmas.{traced, recorded_once}
use Rattle.regex_lite_engine.proofs.pikevm.EndLemmas.{step_onward}
use Rattle.regex_lite_engine.proofs.search.OneStartLemmas.{only_entry}
use Rattle.regex_lite_engine.proofs.search.OutcomeLemmas.{IsNumberedEnd}
use Rattle.regex_lite_syntax.proofs.OptionLemmas.{not_there, same_some}
use Rattle.regex_lite_engine.proofs.PositionLemmas.{same_position}

module _ (table : List (Place ℕ)) (haystack : Text) where
  -- arrows lead to no earlier position, and to none after the haystack
  leads_onward : (ks : List ℕ) (m n : Node) → Leads Node (numbered_step table haystack) m ks n
      → (m.1 ≤ n.1) × (m.1 ≤ length haystack → n.1 ≤ length haystack)
  leads_onward [] m n e =
      let same : m.1 ≡ n.1 = ap (λ (z : Node). z.1) e in
      (omega (arith, same), λ low. omega (arith, low, same))
  leads_onward (k ∷ ks) m n (l, s, along) =
      let first = step_onward haystack (place_with table m.0) m.1 k l s in
      let rest = leads_onward ks l n along in
      (omega (arith, first, rest), λ low. rest.1 (first.1 low))

  module _ (entries : List ℕ) (whole : Bool) (s last : ℕ) (within : last ≤ length haystack) where
    -- a match that is wanted, which ends at the offset
    pub record EndsWith (at : ℕ) : Type 0 where
      pub start : ℕ
      pub number : ℕ
      pub way : List ℕ
      pub place : ℕ
      pub end : ℕ
      pub up_to : start ≤ last
      pub ends_at : at ≡ offset haystack end
      pub is_match : IsWantedOfAny table haystack entries whole s start number way place end

    -- the best match is one
    pub best_matches : (p : ℕ) (threads : List Thread) (b : Reported × ℕ × Row)
        → IsComingTo table haystack entries whole s last p threads (Some b) → EndsWith b.1
    best_matches p threads b u = by_way u.best_holds
      where
        by_way : BestHolds table haystack entries (Some b) u.way → EndsWith b.1
        by_way (w, e, (q, j, at, ends, (i, number, entry, ks, from_at, is, parts, along, has))) =
            let end = u.in_step.best_ends w e in
            let starts = differ table haystack entries whole s last in
            let t = traced Node (numbered_step table haystack) (is_wanted_end table haystack whole)
            (StartsOf entries s last) u.recorded u.way u.in_step.grown end.0 w end.2 in
            by_start t.front t.start t.is_start t.arrows (sym parts ∙ t.parts)
            (recorded_once Node (numbered_step table haystack) (is_wanted_end table haystack whole)
            (StartsOf entries s last) u.recorded u.way starts
            u.in_step.grown end.0 w t.front t.arrows t.start t.is_start end.2 t.parts) end.0 end.1
            t.along
          where
            by_start : (front : List ℕ) (n : Node)
                → StartsOf entries s last front n → (arrows : List ℕ)
                → i ∷ (number ∷ ks) ≡ front ++ arrows
                → NoneTwice Node (numbered_step table haystack) n arrows → (x : Node)
                → IsTrue (is_wanted_end table haystack whole x)
                → Leads Node (numbered_step table haystack) n arrows x → EndsWith b.1
            by_start front n (i', number', entry', low, high, is', front_is, n_is) arrows all once x
                wanted reaches =
                let front_too : i ∷ (number ∷ ks) ≡ i' ∷ (number' ∷ arrows)
                = all ∙ ap (λ z. z ++ arrows) front_is in
                let same : i ≡ i' = same_head front_too in
                let rest : ks ≡ arrows = same_tail (same_tail front_too) in
                let own : entry ≡ entry' = same_some (sym is
                ∙ ap (slice_get entries) (same_head (same_tail front_too)) ∙ is') in
                let started : n ≡ (entry, i) = n_is ∙ ap (λ (z : ℕ). (z, i')) (sym own)
                ∙ ap (λ (z : ℕ). (entry, z)) (sym same) in
                let there : x ≡ (q, j) =
                leads_to_one (numbered_step table haystack) ks (entry, i) x (q, j)
                (subst (λ z. Leads Node (numbered_step table haystack) (entry, i) z x) (sym rest)
                (subst (λ z. Leads Node (numbered_step table haystack) z arrows x) started reaches))
                along in
                record {
                  start = i;
                  number = number;
                  way = ks;
                  place = q;
                  end = j;
                  up_to = omega (arith, high, same);
                  ends_at = at;
                  is_match = record {
                    entry = entry;
                    is_entry = is;
                    is_match = record {
                      from = omega (arith, low, same);
                      inside = omega (arith, high, same, within);
                      leads = record {
                        is_way = (
                          along,
                          subst (λ z. NoneTwice Node (numbered_step table haystack) z ks) started
                              (subst (λ z. NoneTwice Node (numbered_step table haystack) n z)
                              (sym rest) once),
                        );
                        ends = subst (λ m. IsTrue (is_wanted_end table haystack whole m)) there
                            wanted;
                      };
                    };
                  };
                }

  module _ (entries : List ℕ) (s : ℕ) where
    abbrev Answered : (Node → Option (List ℕ)) → Option (List ℕ) → Node → List ℕ → Type 0
    Answered recorded best =
        IsAnswered Node (numbered_step table haystack) (is_end table haystack)
        (StartsOf entries s (length haystack)) recorded best

    abbrev In_step : ℕ → ℕ → (Node → Option (List ℕ)) → List (PendingNode Node) → Option (List ℕ)
        → Type 0
    In_step p from recorded coming way =
        InStep table haystack entries false s (length haystack) p from recorded coming [] way

    abbrev Coming : ℕ → List Thread → Best → Type 0
    Coming = IsComing table haystack entries s (length haystack)

    -- while there is no match
    module _ (p from : ℕ) (recorded : Node → Option (List ℕ)) (coming : List (PendingNode Node))
        (u : In_step p from recorded coming None) where
      -- arrows from a place that was entered lead to no end before the position
      later_than_entered : (ks : List ℕ) (m n : Node) (v : List ℕ) → recorded m ≡ Some v
          → Leads Node (numbered_step table haystack) m ks n → IsTrue (is_end table haystack n)
          → p ≤ n.1
      later_than_entered [] m n v r e ends =
          let best = u.best_least n v ends (ap recorded (sym e) ∙ r) in
          absurd (not_there best.1)
      later_than_entered (k ∷ ks) m n v r (l, s, along) ends =
          by_case (λ w e. later_than_entered ks l n w e along ends) (u.arrows m v k l r s)
        where
          by_case : ((w : List ℕ) → recorded l ≡ Some w → p ≤ n.1)
              → Answered recorded None l (v ++ k ∷ [])
              ⊎ (In Node l (v ++ k ∷ []) coming ⊎ ⊥) → p ≤ n.1
          by_case on (inl (inl (w, e, le))) = on w e
          by_case on (inl (inr (b, e, less))) = absurd (not_there e)
          by_case on (inr (inr none)) = absurd none
          by_case on (inr (inl i)) =
              let at = u.now_stands l (v ++ k ∷ []) i in
              let rest = (leads_onward ks l n along).0 in
              omega (arith, at, rest)

      later_than_start : (i number entry : ℕ) (ks : List ℕ) (n : Node)
          → IsEntry entries number entry → s ≤ i → i ≤ length haystack → from ≡ p
          → Leads Node (numbered_step table haystack) (entry, i) ks n
          → IsTrue (is_end table haystack n) → p ≤ n.1
      later_than_start i number entry ks n is low high same along ends = by_from (cases_lt i from)
        where
          by_case : (Answered recorded None (entry, i) (i ∷ (number ∷ []))
              ⊎ (In Node (entry, i) (i ∷ (number ∷ [])) coming ⊎ ⊥))
              ⊎ IsDead Node (numbered_step table haystack) (is_end table haystack) (entry, i)
              → p ≤ n.1
          by_case (inr dead) = absurd (dead ks n ends along)
          by_case (inl (inl (inl (w, e, le)))) = later_than_entered ks (entry, i) n w e along ends
          by_case (inl (inl (inr (b, e, less)))) = absurd (not_there e)
          by_case (inl (inr (inr none))) = absurd none
          by_case (inl (inr (inl i'))) =
              let at = u.now_stands (entry, i) (i ∷ (number ∷ [])) i' in
              let rest = (leads_onward ks (entry, i) n along).0 in
              omega (arith, at, rest)

          by_from : (i < from) ⊎ (from ≤ i) → p ≤ n.1
          by_from (inl less) =
              by_case (u.starts (i ∷ (number ∷ [])) (entry, i)
              (i, number, entry, low, high, is, refl, refl) less)
          by_from (inr le) =
              let rest = (leads_onward ks (entry, i) n along).0 in omega (arith, le, same, rest)

    -- then each match ends at the position or later
    pub ends_later : (p : ℕ) (threads : List Thread)
        → IsComing table haystack entries s (length haystack) p threads None → (i k : ℕ)
        (way : List ℕ) (q j : ℕ) → IsMatchOfAny table haystack entries s i k way q j → p ≤ j
    ends_later p threads u i k way q j m =
        later_than_start p u.from u.recorded u.coming
        (subst (λ z. In_step p u.from u.recorded u.coming z) u.best_holds u.in_step) i k m.entry way
        (q, j) m.is_entry m.is_match.from m.is_match.inside u.from_is m.is_match.leads.is_way.0
        m.is_match.leads.ends

    -- at the first position with a match, or at the end of the haystack
    pub shortest_known : (p at : ℕ) (threads threads' : List Thread) (best best' : Best) → s ≤ p
        → p ≤ length haystack → best ≡ None → at ≡ offset haystack p → EndsAt at best best'
        → ((p ≡ length haystack) ⊎ (best' ≡ None → ⊥)) → Coming p threads best
        → Coming (p + 1) threads' best' → IsNumberedEndOf table haystack entries s best'
    shortest_known p at threads threads' best best' low high none is_at ends known before after =
        by_best best' refl
      where
        none_before : Coming p threads None
        none_before = subst (λ z. Coming p threads z) none before

        by_best : (b : Best) → best' ≡ b → IsNumberedEndOf table haystack entries s b
        by_best None e = λ i k way q j m. (
            let later = ends_later (p + 1) threads'
            (subst (λ z. Coming (p + 1) threads' z) e after) i k way q j m in
            let inside = (leads_onward way (m.entry, i) (q, j) m.is_match.leads.is_way.0).1
            m.is_match.inside in
            over known later inside)
          where
            over : {j : ℕ} → (p ≡ length haystack) ⊎ (best' ≡ None → ⊥) → p + 1 ≤ j
                → j ≤ length haystack → ⊥
            over (inl at_end) later inside = omega (arith, at_end, later, inside)
            over (inr found) later inside = found e
        by_best (Some b) e =
            let found = best_matches entries false s (length haystack) (omega arith) (p + 1)
            threads' b
            (subst (λ z. Coming (p + 1) threads' z) e after) in
            let m = found.is_match in
            let inside = (leads_onward found.way (m.entry, found.start) (found.place, found.end)
            m.is_match.leads.is_way.0).1 m.is_match.inside in
            let here : found.end ≡ p = same_position haystack found.end p inside high
            (sym found.ends_at ∙ ends_here ends ∙ is_at) in (
              found.end,
              record {
                start = found.start;
                number = found.number;
                way = found.way;
                last = found.place;
                is_match = m;
                least = λ i k way q j n. (
                    let later = ends_later p threads none_before i k way q j n in
                    omega (arith, later, here));
              },
              found.ends_at,
            )
          where
            ends_here : EndsAt at best best' → b.1 ≡ at
            ends_here (inl same) = absurd (not_there (sym none ∙ sym same ∙ e))
            ends_here (inr (i, row, f)) =
                ap (λ (z : Reported × ℕ × Row). z.1) (same_some (sym e ∙ f))

-- of one pattern
pub one_end : (table : List (Place ℕ)) (haystack : Text) (start s : ℕ) (best : Best)
    → IsNumberedEndOf table haystack (start ∷ []) s best → IsNumberedEnd table haystack start s best
one_end table haystack start s None none = λ i q j way m.
    none i 0 way q j (record { entry = start; is_entry = refl; is_match = m })
one_end table haystack start s (Some b) (end, is, at) = (
  end,
  (
    (
      is.start,
      is.last,
      is.way,
      subst (λ z. IsNumberedMatch table haystack z s is.start is.way is.last end)
          (sym (only_entry start is.number is.is_match.entry is.is_match.is_entry).1)
          is.is_match.is_match,
    ),
    λ i q j way m.
        is.least i 0 way q j (record { entry = start; is_entry = refl; is_match = m }),
  ),
  at,
)

pub not_true : (r : Bool) → r ≡ false → IsTrue r → ⊥
not_true r e t = cc
