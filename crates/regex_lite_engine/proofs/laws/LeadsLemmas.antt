-- Where arrows lead: on from where others lead, and to one node.
use Rattle.regex_lite_engine.proofs.Common.{◌≡◌, ℕ, List, [], ◌∷◌, ◌++◌, Some, Option, sym, refl}
use Rattle.regex_lite_engine.proofs.Common.{ap, ◌∙◌, subst, Leads}
use Rattle.regex_lite_syntax.proofs.OptionLemmas.{same_some}

pub leads_append : {N : Type 0} (step : N → ℕ → Option N) (us vs : List ℕ) (a b c : N)
    → Leads N step a us b → Leads N step b vs c → Leads N step a (us ++ vs) c
leads_append {N} step [] vs a b c e next = subst (λ n. Leads N step n vs c) (sym e) next
leads_append step (k ∷ us) vs a b c (via, s, first) next =
    (via, s, leads_append step us vs via b c first next)

pub leads_split : {N : Type 0} (step : N → ℕ → Option N) (us vs : List ℕ) (a c : N)
    → Leads N step a (us ++ vs) c → (b : N) × Leads N step a us b × Leads N step b vs c
leads_split step [] vs a c along = (a, refl, along)
leads_split step (k ∷ us) vs a c (via, s, along) =
    let later = leads_split step us vs via c along in
    (later.0, (via, s, later.1), later.2)

pub leads_to_one : {N : Type 0} (step : N → ℕ → Option N) (ks : List ℕ) (a b c : N)
    → Leads N step a ks b → Leads N step a ks c → b ≡ c
leads_to_one step [] a b c e f = sym e ∙ f
leads_to_one {N} step (k ∷ ks) a b c (via, s, first) (other, t, second) =
    let same : via ≡ other = same_some (sym s ∙ t) in
    leads_to_one step ks other b c (subst (λ n. Leads N step n ks b) same first) second

-- arrow k leads to `via`, and what is after it leads on from there
pub leads_after : {N : Type 0} (step : N → ℕ → Option N) (us : List ℕ) (a via b : N) (k l : ℕ)
    → step a k ≡ Some via → k ≡ l → Leads N step a (l ∷ us) b → Leads N step via us b
leads_after {N} step us a via b k l s e (next, t, along) =
    let one : next ≡ via = same_some (sym t ∙ ap (step a) (sym e) ∙ s) in
    subst (λ n. Leads N step n us b) one along
