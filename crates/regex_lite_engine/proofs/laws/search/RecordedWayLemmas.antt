-- What a search has recorded: each way begins at a start, and comes to no node twice.
use Rattle.regex_lite_engine.proofs.Common.{◌≡◌, ℕ, zero, suc, ◌<◌, Bool, ◌⊎◌, List, [], ◌∷◌, ◌++◌}
use Rattle.regex_lite_engine.proofs.Common.{length, Some, Option, sym, refl, ap, ◌∙◌, subst, inl}
use Rattle.regex_lite_engine.proofs.Common.{inr, append_assoc, append-nil, arith, length-append}
use Rattle.regex_lite_engine.proofs.Common.{Leads, NoneTwice, IsGrown}
use Rattle.regex_lite_engine.proofs.laws.LeadsLemmas.{leads_append, leads_to_one}
use Rattle.regex_lite_engine.proofs.laws.search.CutLemmas.{rest_of, same_rest, no_rest}
use Rattle.regex_lite_engine.proofs.laws.search.CutLemmas.{both_empty, cut_snoc}
use Rattle.regex_lite_engine.proofs.laws.search.Explored.{StartsDiffer}
use Rattle.regex_lite_syntax.proofs.OptionLemmas.{same_some}

module _ (N : Type 0) (step : N → ℕ → Option N) (is_end : N → Bool)
    (IsStart : (front : List ℕ) → N → Type 0) (recorded : N → Option (List ℕ))
    (best : Option (List ℕ))
    (grown : (n : N) (way : List ℕ) → recorded n ≡ Some way
    → IsGrown N step is_end IsStart recorded best n way) where
  -- a start, and arrows that lead from it
  pub record Traced (n : N) (way : List ℕ) : Type 0 where
    pub front : List ℕ
    pub arrows : List ℕ
    pub parts : way ≡ front ++ arrows
    pub start : N
    pub is_start : IsStart front start
    pub along : Leads N step start arrows n

  traced_within : (long : ℕ) (n : N) (way : List ℕ) → length way < long → recorded n ≡ Some way
      → Traced n way
  traced_within zero n way short r = absurd (omega (arith, short))
  traced_within (suc long) n way short r =
      by_last (λ m other p q. traced_within long m other p q) (grown n way r)
    where
      by_last : ((m : N) (other : List ℕ) → length other < long → recorded m ≡ Some other
          → Traced m other) → IsGrown N step is_end IsStart recorded best n way → Traced n way
      by_last earlier (inl is_start) = record {
        front = way;
        arrows = [];
        parts = sym (append-nil way);
        start = n;
        is_start = is_start;
        along = refl;
      }
      by_last earlier (inr (m, other, k, q, s, e)) =
          let longer = length-append other (k ∷ []) in
          let t = earlier m other (omega (arith, short, longer, ap length e)) q in
          record {
            front = t.front;
            arrows = t.arrows ++ k ∷ [];
            parts = e ∙ ap (λ z. z ++ k ∷ []) t.parts
                ∙ append_assoc t.front t.arrows (k ∷ []);
            start = t.start;
            is_start = t.is_start;
            along = leads_append step t.arrows (k ∷ []) t.start m n t.along (n, s, refl);
          }

  -- a recorded way is a start, and arrows that lead from it
  pub traced : (n : N) (way : List ℕ) → recorded n ≡ Some way → Traced n way
  traced n way r = traced_within (suc (length way)) n way (omega arith) r

module _ (N : Type 0) (step : N → ℕ → Option N) (is_end : N → Bool)
    (IsStart : (front : List ℕ) → N → Type 0) (recorded : N → Option (List ℕ))
    (best : Option (List ℕ)) (differ : StartsDiffer N step is_end IsStart)
    (grown : (n : N) (way : List ℕ) → recorded n ≡ Some way
    → IsGrown N step is_end IsStart recorded best n way) where
  -- recorded where these arrows lead from the start
  abbrev IsRecorded : (front arrows : List ℕ) → (start : N) → Type 0
  IsRecorded front arrows start =
      (m : N) × (recorded m ≡ Some (front ++ arrows)) × Leads N step start arrows m

  recorded_here : (n : N) (way front arrows : List ℕ) (start : N) → IsStart front start
      → recorded n ≡ Some way → way ≡ front ++ arrows → IsRecorded front arrows start
  recorded_here n way front arrows start is_start r e =
      let t = traced N step is_end IsStart recorded best grown n way r in
      let parts = sym t.parts ∙ e in
      let same = differ t.front front t.arrows arrows t.start start t.is_start is_start parts in
      let rest = rest_of t.front front t.arrows arrows same.0 parts in
      let moved = subst (λ m. Leads N step m t.arrows n) same.1 t.along in
      (n, r ∙ ap Some e, subst (λ ks. Leads N step start ks n) rest moved)

  -- a prefix of a recorded way is recorded where it leads
  abbrev HasThreadStarts : List ℕ → Type 0
  HasThreadStarts way =
      (front us vs : List ℕ) (start : N) → IsStart front start → way ≡ front ++ (us ++ vs)
      → IsRecorded front us start

  thread_start_within : (long : ℕ) (n : N) (way : List ℕ) → length way < long
      → recorded n ≡ Some way → HasThreadStarts way
  thread_start_within zero n way short r front us vs start is_start e = absurd
      (omega (arith, short))
  thread_start_within (suc long) n way short r front us vs start is_start e =
      by_last (λ m other p q. thread_start_within long m other p q) (grown n way r)
    where
      whole_way : vs ≡ [] → IsRecorded front us start
      whole_way none =
          let all = ap (λ z. us ++ z) none ∙ append-nil us in
          recorded_here n way front us start is_start r (e ∙ ap (λ z. front ++ z) all)

      by_cut : (m : N) (other : List ℕ) (k : ℕ) → way ≡ other ++ k ∷ [] → HasThreadStarts other
          → ((vs ≡ []) × (front ++ us ≡ other ++ k ∷ []))
          ⊎ ((ws : List ℕ) × (vs ≡ ws ++ k ∷ []) × ((front ++ us) ++ ws ≡ other))
          → IsRecorded front us start
      by_cut m other k f earlier (inl (none, all)) = whole_way none
      by_cut m other k f earlier (inr (ws, last, all)) =
          earlier front us ws start is_start (sym all ∙ append_assoc front us ws)

      by_last : ((m : N) (other : List ℕ) → length other < long → recorded m ≡ Some other
          → HasThreadStarts other) → IsGrown N step is_end IsStart recorded best n way
          → IsRecorded front us start
      by_last earlier (inl is_front) =
          let all = append-nil way ∙ e in
          let same = differ way front [] (us ++ vs) n start is_front is_start all in
          let none = rest_of way front [] (us ++ vs) same.0 all in
          whole_way (both_empty us vs (sym none)).1
      by_last earlier (inr (m, other, k, q, s, f)) =
          let longer = length-append other (k ∷ []) in
          let shorter : length other < long = omega (arith, short, longer, ap length f) in
          by_cut m other k f (earlier m other shorter q)
          (cut_snoc (front ++ us) vs other k (append_assoc front us vs ∙ sym e ∙ f))

  thread_start : (n : N) (way : List ℕ) → recorded n ≡ Some way → HasThreadStarts way
  thread_start n way r = thread_start_within (suc (length way)) n way (omega arith) r

  -- no recorded way comes to a node twice
  pub recorded_once : (n : N) (way front ks : List ℕ) (start : N) → IsStart front start
      → recorded n ≡ Some way → way ≡ front ++ ks → NoneTwice N step start ks
  recorded_once n way front ks start is_start r e us vs ws m f to_m loop =
      let once = ap (λ z. front ++ z) f in
      let twice = ap (λ z. front ++ z) (f ∙ sym (append_assoc us vs ws)) in
      let p = thread_start n way r front us (vs ++ ws) start is_start (e ∙ once) in
      let q = thread_start n way r front (us ++ vs) ws start is_start (e ∙ twice) in
      let at_p = leads_to_one step us start p.0 m p.2 to_m in
      let around = leads_append step us vs start m m to_m loop in
      let at_q = leads_to_one step (us ++ vs) start q.0 m q.2 around in
      let same = same_some (sym p.1 ∙ ap recorded (at_p ∙ sym at_q) ∙ q.1) in
      no_rest us vs (same_rest front us (us ++ vs) same)
