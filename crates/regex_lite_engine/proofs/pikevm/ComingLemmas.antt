-- What is known before a position: nothing before the first one, and the same where positions are
-- passed over at which no match can start.
use Rattle.regex_lite_engine.proofs.Common.{◌≡◌, ℕ, ◌<◌, ◌≤◌, ◌⊎◌, List, [], None, Option, sym}
use Rattle.regex_lite_engine.proofs.Common.{refl, subst, inl, inr, arith, cases_lt, Text, Thread}
use Rattle.regex_lite_engine.proofs.Common.{IsComing, IsComingTo, ThreadsHold, InStep, IsDead}
use Rattle.regex_lite_engine.proofs.Common.{numbered_step, is_wanted_end, Bool, false, is_end}
use Rattle.regex_lite_engine.proofs.Common.{IsEntry, StartsOf, Node, PendingNode, StartsBelow}
use Rattle.regex_lite_engine.proofs.Common.{IsDeadAt}
use Rattle.regex_lite_engine.specs.Graph.Places.{Place}
use Rattle.regex_lite_syntax.proofs.OptionLemmas.{not_there}
use Rattle.regex_lite_engine.proofs.pikevm.InStepNextLemmas as deep
use Rattle.regex_lite_engine.proofs.pikevm.WalkLemmas.{none_held}

module _ (table : List (Place ℕ)) (haystack : Text) (s : List ℕ) (first last : ℕ) where
  abbrev In_step : ℕ → ℕ → (Node → Option (List ℕ)) → List (PendingNode Node) → List
      (PendingNode Node) → Option (List ℕ) → Type 0
  In_step p from recorded cur next way =
      InStep table haystack s false first last p from recorded cur next way

  -- before the first position
  pub none_coming : (whole : Bool) (cur : List Thread) → cur ≡ []
      → IsComingTo table haystack s whole first last first cur None
  none_coming whole cur empty = record {
    recorded = λ n. None;
    coming = [];
    way = None;
    from = first;
    in_step =
        deep.in_step_none Node (numbered_step table haystack) (StartsOf s first last)
        (is_wanted_end table haystack whole) (λ x. x.1) {recorded = λ n. None} (λ n. refl)
        (λ front n is below. none_below front n is below);
    before = λ n v r. absurd (not_there r);
    hold = subst (λ ts. ThreadsHold table haystack s first ts []) (sym empty) tt;
    best_holds = refl;
    from_is = refl;
  }
    where
      none_below : (front : List ℕ) (n : Node) → StartsOf s first last front n
          → StartsBelow first front → ⊥
      none_below front n (i, number, entry, low, high, is, e, f) below =
          let less : i < first = subst (StartsBelow first) e below in omega (arith, less, low)

  -- which start it is
  dead_start : (from from' : ℕ)
      → ((i : ℕ) → from ≤ i → i < from' → (number entry : ℕ) → IsEntry s number entry
      → IsDeadAt table haystack entry i) →
      (front : List ℕ) (n : Node) → StartsOf s first last front n → StartsBelow from' front
      → StartsBelow from front
      ⊎ IsDead Node (numbered_step table haystack) (is_end table haystack) n
  dead_start from from' dead front n (i, number, entry, low, high, is, e, f) below =
      elim (cases_lt i from) [
        | inl less ↦ inl (subst (StartsBelow from) (sym e) less)
        | inr le ↦
            inr (subst (IsDead Node (numbered_step table haystack) (is_end table haystack)) (sym f)
            (dead i le (subst (StartsBelow from') e below) number entry is))
      ]

  -- positions at which no match can start are passed over while there is no thread
  pub jumped : (p p' : ℕ) (cur : List Thread) → cur ≡ [] → p ≤ p'
      → ((i : ℕ) → p ≤ i → i < p' → (number entry : ℕ) → IsEntry s number entry
      → IsDeadAt table haystack entry i) →
      IsComing table haystack s first last p cur None
      → IsComing table haystack s first last p' cur None
  jumped p p' cur empty more dead u = record {
    recorded = u.recorded;
    coming = [];
    way = u.way;
    from = p';
    in_step =
        deep.in_step_jump Node (numbered_step table haystack) (StartsOf s first last)
        (is_end table haystack) (λ x. x.1) more
        (deep.in_step_skip Node (numbered_step table haystack) (StartsOf s first last)
        (is_end table haystack) (λ x. x.1) more (dead_start p p' dead)
        (subst (λ z. In_step p z u.recorded [] [] u.way) u.from_is
        (subst (λ z. In_step p u.from u.recorded z [] u.way) nothing u.in_step)));
    before = λ n v r. (let lt = u.before n v r in omega (arith, lt, more));
    hold = subst (λ ts. ThreadsHold table haystack s p' ts []) (sym empty) tt;
    best_holds = u.best_holds;
    from_is = refl;
  }
    where
      nothing : u.coming ≡ []
      nothing =
          none_held table haystack s p u.coming
          (subst (λ ts. ThreadsHold table haystack s p ts u.coming) empty u.hold)
