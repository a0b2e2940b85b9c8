-- The best way of a search that is over is the first of all ways.
use Rattle.regex_lite_engine.proofs.Common.{◌≡◌, ℕ, Bool, ◌⊎◌, List, [], ◌∷◌, ◌++◌, IsTrue, Some}
use Rattle.regex_lite_engine.proofs.Common.{None, Option, sym, refl, ap, ◌∙◌, subst, inl, inr}
use Rattle.regex_lite_engine.proofs.Common.{append_assoc, append-nil, Leads, NoneTwice, NotAfter}
use Rattle.regex_lite_engine.proofs.Common.{IsDead, IsAnswered}
use Rattle.regex_lite_engine.proofs.laws.LeadsLemmas.{leads_append, leads_split, leads_to_one}
use Rattle.regex_lite_engine.proofs.laws.search.CutLemmas.{rest_of}
use Rattle.regex_lite_engine.proofs.laws.search.Explored.{StartsDiffer, IsWhole, IsFirst}
use Rattle.regex_lite_engine.proofs.laws.search.Explored.{IsExplored}
use Rattle.regex_lite_engine.proofs.laws.search.RecordedWayLemmas.{Traced, traced, recorded_once}
use Rattle.regex_lite_engine.proofs.laws.search.WayOrderLemmas.{NotAfter-trans, NotAfter-append}
use Rattle.regex_lite_engine.proofs.laws.search.WayOrderLemmas.{GoesOn, NotAfter-snoc}
use Rattle.regex_lite_syntax.proofs.OptionLemmas.{same_some}

module _ {N : Type 0} {step : N → ℕ → Option N} {is_end : N → Bool}
    {IsStart : (front : List ℕ) → N → Type 0} {recorded : N → Option (List ℕ)}
    {best : Option (List ℕ)} (differ : StartsDiffer N step is_end IsStart)
    (x : IsExplored N step is_end IsStart recorded best) where
  abbrev TracedTo : N → List ℕ → Type 0
  TracedTo = Traced N step is_end IsStart recorded best x.grown

  traced_to : (n : N) (way : List ℕ) → recorded n ≡ Some way → TracedTo n way
  traced_to = traced N step is_end IsStart recorded best x.grown

  abbrev IsBestBy : List ℕ → Type 0
  IsBestBy way = (first : List ℕ) × (best ≡ Some first) × NotAfter first way

  -- a way from a start to an end
  module _ (front ks : List ℕ) (start end : N) (is_start : IsStart front start)
      (ends : IsTrue (is_end end)) (once : NoneTwice N step start ks) where
    -- a way that this one continues comes by m only once
    no_way_on : (k : ℕ) (us vs : List ℕ) (m : N) (other : List ℕ) → ks ≡ us ++ k ∷ vs
        → Leads N step start us m → TracedTo m other → GoesOn other (front ++ us) → ⊥
    no_way_on k us vs m other e before t on =
        let tail = on.next ∷ on.rest in
        let parts = on.parts ∙ ap (λ z. z ++ tail) t.parts
        ∙ append_assoc t.front t.arrows tail in
        let same = differ front t.front us (t.arrows ++ tail) start t.start is_start t.is_start
        parts in
        let cut = rest_of front t.front us (t.arrows ++ tail) same.0 parts in
        let first = subst (λ n. Leads N step n t.arrows m) (sym same.1) t.along in
        let split = leads_split step t.arrows tail start m
        (subst (λ z. Leads N step start z m) cut before) in
        let at = leads_to_one step t.arrows start split.0 m split.1 first in
        let loop = subst (λ n. Leads N step n tail m) at split.2 in
        let all = e ∙ ap (λ z. z ++ k ∷ vs) cut ∙ append_assoc t.arrows tail (k ∷ vs) in
        let none = once t.arrows tail (k ∷ vs) m all first loop in
        absurd cc

    -- where it has come to m, no later way is recorded
    along : (vs us : List ℕ) (m : N) (other : List ℕ) → ks ≡ us ++ vs → Leads N step start us m
        → Leads N step m vs end → recorded m ≡ Some other → NotAfter other (front ++ us)
        → IsBestBy (front ++ ks)
    along [] us m other e before recorded_end r le =
        let b = x.best_least end other ends (subst (λ n. recorded n ≡ Some other) recorded_end r) in
        let all = ap (λ z. front ++ z) (e ∙ append-nil us) in
        let less = NotAfter-trans b.0 other (front ++ us) b.2 le in
        (b.0, b.1, subst (λ z. NotAfter b.0 z) (sym all) less)
    along (k ∷ vs) us m other e before (l, s, recorded_end) r le =
        by_order (λ w p q. along vs (us ++ k ∷ []) l w further there recorded_end p q)
        (NotAfter-snoc other (front ++ us) k le)
      where
        further : ks ≡ (us ++ k ∷ []) ++ vs
        further = e ∙ sym (append_assoc us (k ∷ []) vs)

        there : Leads N step start (us ++ k ∷ []) l
        there = leads_append step us (k ∷ []) start m l before (l, s, refl)

        whole : front ++ ks ≡ (front ++ (us ++ k ∷ [])) ++ vs
        whole = ap (λ z. front ++ z) further ∙ sym (append_assoc front (us ++ k ∷ []) vs)

        answered : NotAfter (other ++ k ∷ []) (front ++ (us ++ k ∷ []))
            → ((w : List ℕ) → recorded l ≡ Some w → NotAfter w (front ++ (us ++ k ∷ []))
            → IsBestBy (front ++ ks))
            → IsAnswered N step is_end IsStart recorded best l (other ++ k ∷ [])
            → IsBestBy (front ++ ks)
        answered low on (inl (w, p, q)) =
            on w p (NotAfter-trans w (other ++ k ∷ []) (front ++ (us ++ k ∷ [])) q low)
        answered low on (inr (b, p, q)) =
            let begun = front ++ (us ++ k ∷ []) in
            let to_all = subst (λ z. NotAfter begun z) (sym whole) (NotAfter-append begun vs) in
            let less = NotAfter-trans (other ++ k ∷ []) begun (front ++ ks) low to_all in
            (b, p, NotAfter-trans b (other ++ k ∷ []) (front ++ ks) (inr q) less)

        by_order : ((w : List ℕ) → recorded l ≡ Some w → NotAfter w (front ++ (us ++ k ∷ []))
            → IsBestBy (front ++ ks))
            → NotAfter (other ++ k ∷ []) ((front ++ us) ++ k ∷ []) ⊎ GoesOn other (front ++ us)
            → IsBestBy (front ++ ks)
        by_order on (inl low) =
            let moved = subst (λ z. NotAfter (other ++ k ∷ []) z)
            (append_assoc front us (k ∷ [])) low in
            answered moved on (x.arrows m other k l r s)
        by_order on (inr goes_on) =
            absurd (no_way_on k us vs m other e before (traced_to m other r) goes_on)

  best_by : (way : List ℕ) → IsWhole N step is_end IsStart way → IsBestBy way
  best_by way w = by_start (x.starts w.front w.start w.is_start)
    where
      not_after : IsBestBy (w.front ++ w.arrows) → IsBestBy way
      not_after b = (b.0, b.1, subst (λ z. NotAfter b.0 z) (sym w.parts) b.2)

      by_start : IsAnswered N step is_end IsStart recorded best w.start w.front
          ⊎ IsDead N step is_end w.start → IsBestBy way
      by_start (inr dead) = absurd (dead w.arrows w.end w.ends w.is_way.0)
      by_start (inl (inl (other, r, le))) =
          let low = subst (λ z. NotAfter other z) (sym (append-nil w.front)) le in
          not_after (along w.front w.arrows w.start w.end w.is_start w.ends w.is_way.1 w.arrows []
          w.start other refl refl w.is_way.0 r low)
      by_start (inl (inr (b, e, less))) =
          let low = NotAfter-trans b w.front (w.front ++ w.arrows) (inr less)
          (NotAfter-append w.front w.arrows) in
          not_after (b, e, low)

  best_whole : (way : List ℕ) → best ≡ Some way → IsWhole N step is_end IsStart way
  best_whole way e =
      let (n, ends, r) = x.best_ends way e in
      let t = traced_to n way r in
      record {
        front = t.front;
        arrows = t.arrows;
        parts = t.parts;
        start = t.start;
        is_start = t.is_start;
        end = n;
        ends = ends;
        is_way = (
          t.along,
          recorded_once N step is_end IsStart recorded best differ x.grown n way t.front t.arrows
              t.start t.is_start r t.parts,
        );
      }

-- the law of all searches
pub search_law : {N : Type 0} {step : N → ℕ → Option N} {is_end : N → Bool}
    {IsStart : (front : List ℕ) → N → Type 0} {recorded : N → Option (List ℕ)}
    (best : Option (List ℕ)) → StartsDiffer N step is_end IsStart
    → IsExplored N step is_end IsStart recorded best → IsFirst N step is_end IsStart best
search_law None differ x = λ way whole. (
    let b = best_by differ x way whole in
    let two : None ≡ Some b.0 = b.1 in
    absurd cc)
search_law (Some first) differ x = (
  best_whole differ x first refl,
  λ way whole. (
      let b = best_by differ x way whole in
      subst (λ z. NotAfter z way) (sym (same_some b.1)) b.2),
)
