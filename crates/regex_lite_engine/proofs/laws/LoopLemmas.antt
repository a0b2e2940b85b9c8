-- Arrows that lead to a node lead there on a way too, once the loops are left out.
use Rattle.regex_lite_engine.proofs.Common.{◌≡◌, ℕ, ◌≢◌, ◌⊎◌, List, [], ◌∷◌, ◌++◌, Some, Option}
use Rattle.regex_lite_engine.proofs.Common.{sym, refl, ap, ◌∙◌, subst, inl, inr, append_assoc}
use Rattle.regex_lite_engine.proofs.Common.{Leads, NoneTwice, IsWay}
use Rattle.regex_lite_syntax.proofs.ListLemmas.{same_head, same_tail}
use Rattle.regex_lite_engine.proofs.laws.LeadsLemmas.{leads_append, leads_after}

module _ {N : Type 0} (step : N → ℕ → Option N) where
  -- the arrows lead by the node on their way
  record ComesBy (node start end : N) (ks : List ℕ) : Type 0 where
    pub before : List ℕ
    pub after : List ℕ
    pub parts : ks ≡ before ++ after
    pub there : Leads N step start before node
    pub on : Leads N step node after end

  abbrev NeverBy : (node start : N) → List ℕ → Type 0
  NeverBy node start ks = (us vs : List ℕ) → ks ≡ us ++ vs → Leads N step start us node → ⊥

  by_node_at_start : (ks : List ℕ) (node start end : N) → start ≡ node → Leads N step start ks end
      → ComesBy node start end ks
  by_node_at_start ks node start end e along = record {
    before = [];
    after = ks;
    parts = refl;
    there = e;
    on = subst (λ n. Leads N step n ks end) e along;
  }

  by_node_later : (k : ℕ) (ks : List ℕ) (node start via end : N) → step start k ≡ Some via
      → ComesBy node via end ks → ComesBy node start end (k ∷ ks)
  by_node_later k ks node start via end s by = record {
    before = k ∷ by.before;
    after = by.after;
    parts = ap (λ z. k ∷ z) by.parts;
    there = (via, s, by.there);
    on = by.on;
  }

  never_in_place : (node start : N) → start ≢ node → NeverBy node start []
  never_in_place node start apart [] vs e there = apart there
  never_in_place node start apart (u ∷ us) vs e there = absurd cc

  never_later : (k : ℕ) (ks : List ℕ) (node start via : N) → step start k ≡ Some via → start ≢ node
      → NeverBy node via ks → NeverBy node start (k ∷ ks)
  never_later k ks node start via s apart never [] vs e there = apart there
  never_later k ks node start via s apart never (u ∷ us) vs e there =
      never us vs (same_tail e) (leads_after step us start via node k u s (same_head e) there)

  once_in_place : (a : N) → NoneTwice N step a []
  once_in_place a [] [] ws m e f g = refl
  once_in_place a [] (v ∷ vs) ws m e f g = absurd cc
  once_in_place a (u ∷ us) vs ws m e f g = absurd cc

  -- what is left of a way is a way
  once_after : (us vs ks : List ℕ) (a b : N) → ks ≡ us ++ vs → Leads N step a us b
      → NoneTwice N step a ks → NoneTwice N step b vs
  once_after us vs ks a b e first once more loop rest m f g =
      let parts = e ∙ ap (λ z. us ++ z) f ∙ sym (append_assoc us more (loop ++ rest)) in
      once (us ++ more) loop rest m parts (leads_append step us more a b m first g)

  -- so is a way with an arrow before it, from a node that the way never comes by
  once_longer : (k : ℕ) (ks : List ℕ) (a b : N) → step a k ≡ Some b → NoneTwice N step b ks
      → NeverBy a b ks → NoneTwice N step a (k ∷ ks)
  once_longer k ks a b s once never [] [] rest m e first loop = refl
  once_longer k ks a b s once never [] (v ∷ vs) rest m e first loop =
      let back = subst (λ n. Leads N step n (v ∷ vs) n) (sym first) loop in
      absurd (never vs rest (same_tail e) (leads_after step vs a b a k v s (same_head e) back))
  once_longer k ks a b s once never (u ∷ us) loop rest m e first turn =
      once us loop rest m (same_tail e) (leads_after step us a b m k u s (same_head e) first) turn

  module _ (one_or_two : (a b : N) → (a ≡ b) ⊎ (a ≢ b)) where
    comes_by : (ks : List ℕ) (node start end : N) → Leads N step start ks end
        → ComesBy node start end ks ⊎ NeverBy node start ks
    comes_by [] node start end along = elim (one_or_two start node) [
      | inl e ↦ inl (by_node_at_start [] node start end e along)
      | inr apart ↦ inr (never_in_place node start apart)
    ]
    comes_by (k ∷ ks) node start end (via, s, along) = elim (one_or_two start node) [
      | inl e ↦ inl (by_node_at_start (k ∷ ks) node start end e (via, s, along))
      | inr apart ↦ elim (comes_by ks node via end along) [
        | inl by ↦ inl (by_node_later k ks node start via end s by)
        | inr never ↦ inr (never_later k ks node start via s apart never)
      ]
    ]

    pub without_loops : (ks : List ℕ) (a b : N) → Leads N step a ks b
        → (ws : List ℕ) × IsWay N step a ws b
    without_loops [] a b e = ([], (e, once_in_place a))
    without_loops (k ∷ ks) a b (via, s, along) =
        let rest = without_loops ks via b along in
        elim (comes_by rest.0 a via b rest.1.0) [
          | inl by ↦
              let once = once_after by.before by.after rest.0 via a by.parts by.there rest.1.1 in
              (by.after, (by.on, once))
          | inr never ↦
              (k ∷ rest.0, ((via, s, rest.1.0), once_longer k rest.0 a via s rest.1.1 never))
        ]
