-- Two graphs whose nodes differ in their names alone have the same ways.
use Rattle.regex_lite_engine.proofs.Common.{◌≡◌, ℕ, List, [], ◌∷◌, Some, None, Option, option_map}
use Rattle.regex_lite_engine.proofs.Common.{sym, refl, ap, ◌∙◌, subst, Leads, NoneTwice, IsWay}
use Rattle.regex_lite_syntax.proofs.OptionLemmas.{same_some}

pub mapped_back : {A B : Type 0} (f : A → B) (o : Option A) (y : B) → option_map f o ≡ Some y
    → (x : A) × (o ≡ Some x) × (f x ≡ y)
mapped_back f None y e = absurd cc
mapped_back f (Some x) y e = (x, refl, same_some e)

-- each node of the first graph that is known has a name in the second
module _ {A B : Type 0} (step_a : A → ℕ → Option A) (step_b : B → ℕ → Option B) (name : A → B)
    (Known : A → Type 0)
    (stays : (x y : A) (k : ℕ) → Known x → step_a x k ≡ Some y → Known y)
    (alike : (x : A) (k : ℕ) → Known x → step_b (name x) k ≡ option_map name (step_a x k))
    (apart : (x y : A) → Known x → Known y → name x ≡ name y → x ≡ y) where
  pub known_on : (ks : List ℕ) (x y : A) → Known x → Leads A step_a x ks y → Known y
  known_on [] x y known e = subst Known e known
  known_on (k ∷ ks) x y known (z, s, along) = known_on ks z y (stays x z k known s) along

  pub named_walk : (ks : List ℕ) (x y : A) → Known x → Leads A step_a x ks y
      → Leads B step_b (name x) ks (name y)
  named_walk [] x y known e = ap name e
  named_walk (k ∷ ks) x y known (z, s, along) = (
    name z,
    alike x k known ∙ ap (option_map name) s,
    named_walk ks z y (stays x z k known s) along,
  )

  pub unnamed_walk : (ks : List ℕ) (x : A) (b : B) → Known x → Leads B step_b (name x) ks b
      → (y : A) × (name y ≡ b) × Leads A step_a x ks y
  unnamed_walk [] x b known e = (x, e, refl)
  unnamed_walk (k ∷ ks) x b known (c, s, along) =
      let back = mapped_back name (step_a x k) c (sym (alike x k known) ∙ s) in
      let on = subst (λ z. Leads B step_b z ks b) (sym back.2) along in
      let later = unnamed_walk ks back.0 b (stays x back.0 k known back.1) on in
      (later.0, later.1, (back.0, back.1, later.2))

  pub named_way : (ks : List ℕ) (x y : A) → Known x → IsWay A step_a x ks y
      → IsWay B step_b (name x) ks (name y)
  named_way ks x y known (along, once) = (named_walk ks x y known along, named_once)
    where
      named_once : NoneTwice B step_b (name x) ks
      named_once us vs ws m e f g =
          let first = unnamed_walk us x m known f in
          let here = known_on us x first.0 known first.2 in
          let turn = subst (λ z. Leads B step_b z vs m) (sym first.1) g in
          let second = unnamed_walk vs first.0 m here turn in
          let there = known_on vs first.0 second.0 here second.2 in
          let same = apart second.0 first.0 there here (second.1 ∙ sym first.1) in
          once us vs ws first.0 e first.2 (subst (λ z. Leads A step_a first.0 vs z) same second.2)

  pub unnamed_way : (ks : List ℕ) (x y : A) → Known x → Leads A step_a x ks y
      → NoneTwice B step_b (name x) ks → IsWay A step_a x ks y
  unnamed_way ks x y known along once = (along, unnamed_once)
    where
      unnamed_once : NoneTwice A step_a x ks
      unnamed_once us vs ws m e f g =
          once us vs ws (name m) e (named_walk us x m known f)
          (named_walk vs m m (known_on us x m known f) g)
