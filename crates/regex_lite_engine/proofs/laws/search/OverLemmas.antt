-- What a search over a table of numbered places has found when it is over is its answer.
use Rattle.regex_lite_engine.proofs.Common.{◌≡◌, ℕ, ◌≤◌, Bool, ◌⊎◌, List, [], ◌∷◌, ◌++◌, length}
use Rattle.regex_lite_engine.proofs.Common.{IsTrue, Some, None, Option, sym, refl, ap, ◌∙◌, subst}
use Rattle.regex_lite_engine.proofs.Common.{inl, inr, arith, Text, complete, with_arrows, step_from}
use Rattle.regex_lite_engine.proofs.Common.{step, Leads, IsWay, Found, Before, NotAfter, StartsAt}
use Rattle.regex_lite_engine.proofs.Common.{marks_along, place_with, is_complete, numbered_step}
use Rattle.regex_lite_engine.proofs.Common.{is_end, IsNumberedWay, IsNumberedMatch, IsPreferred}
use Rattle.regex_lite_engine.proofs.Common.{is_wanted_end, false}
use Rattle.regex_lite_syntax.proofs.ListLemmas.{same_head, same_tail}
use Rattle.regex_lite_engine.specs.Graph.Places.{Place}
use Rattle.regex_lite_engine.specs.Search.NumberedAnswer.{IsNumberedAnswer, IsWantedWay}
use Rattle.regex_lite_engine.proofs.laws.LeadsLemmas.{leads_to_one}
use Rattle.regex_lite_engine.proofs.laws.search.Explored.{StartsDiffer, IsWhole, IsFirst}
use Rattle.regex_lite_engine.proofs.laws.search.Explored.{IsExplored}
use Rattle.regex_lite_engine.proofs.laws.search.SearchLawLemmas.{search_law}
use Rattle.regex_lite_syntax.proofs.OptionLemmas.{same_some}

-- starts at different positions differ in them
pub starts_differ : {N : Type 0} (step : N → ℕ → Option N) (is_end : N → Bool) (start : ℕ → N)
    (first last : ℕ) → StartsDiffer N step is_end (StartsAt start first last)
starts_differ step is_end start first last a b more other n m (i, _, _, e, f) (j, _, _, g, h)
    parts =
    let all : i ∷ more ≡ j ∷ other
    = sym (ap (λ z. z ++ more) e) ∙ parts ∙ ap (λ z. z ++ other) g in
    let same = same_head all in
    (e ∙ ap (λ k. k ∷ []) same ∙ sym g, f ∙ ap start same ∙ sym h)

module _ {A : Type 0} (haystack : Text) (place : A → Place A) where
  no_arrow_on : (at : Place A) (i l : ℕ) (next : A × ℕ) → IsTrue (is_complete at)
      → step_from haystack at i l ≡ Some next → ⊥
  no_arrow_on complete i l next over s = absurd cc
  no_arrow_on (with_arrows arrows) i l next over s = absurd cc

  -- of two walks to where a match is complete, none is a prefix of the other
  pub before_preferred : (a b : List ℕ) (n x y : A × ℕ) → Before a b
      → Leads (A × ℕ) (step haystack place) n a x → IsTrue (is_complete (place x.0))
      → Leads (A × ℕ) (step haystack place) n b y → IsPreferred a b
  before_preferred a [] n x y before p over q = absurd before
  before_preferred [] (l ∷ b) n x y before p over (next, s, q) =
      let there = subst (λ (z : A × ℕ). step haystack place z l ≡ Some next) p s in
      absurd (no_arrow_on (place x.0) x.1 l next over there)
  before_preferred (k ∷ a) (l ∷ b) n x y (inl less) p over q = inl less
  before_preferred (k ∷ a) (l ∷ b) n x y (inr (e, before)) (next, s, p) over (other, t, q) =
      let one : other ≡ next = same_some (sym t ∙ ap (step haystack place n) (sym e) ∙ s) in
      let moved = subst (λ z. Leads (A × ℕ) (step haystack place) z b y) one q in
      inr (e, before_preferred a b next x y before p over moved)

-- along the arrows of a whole way one comes to where it ends
module _ (table : List (Place ℕ)) (haystack : Text) (to_end : Bool)
    {IsStart : List ℕ → ℕ × ℕ → Type 0} {w : List ℕ}
    (whole : IsWhole (ℕ × ℕ) (numbered_step table haystack)
    (is_wanted_end table haystack to_end) IsStart w)
    (entry i : ℕ) (way : List ℕ) (q j : ℕ) where
  pub along_whole : ◌≡◌ {A = ℕ × ℕ} (entry, i) whole.start → way ≡ whole.arrows
      → Leads (ℕ × ℕ) (numbered_step table haystack) (entry, i) way (q, j)
      → IsWantedWay table haystack to_end entry i way q j
  along_whole start arrows along =
      let walks = numbered_step table haystack in
      let own : IsWay (ℕ × ℕ) walks (entry, i) way whole.end =
      subst (λ n. IsWay (ℕ × ℕ) walks n way whole.end) (sym start)
      (subst (λ z. IsWay (ℕ × ℕ) walks whole.start z whole.end) (sym arrows) whole.is_way) in
      let there = leads_to_one walks way (entry, i) whole.end (q, j) own.0 along in record {
        is_way = subst (λ m. IsWay (ℕ × ℕ) walks (entry, i) way m) there own;
        ends = subst (λ m. IsTrue (is_wanted_end table haystack to_end m)) there whole.ends;
      }

-- after one start
pub after_start : (i : ℕ) (a b : List ℕ) → NotAfter (i ∷ a) (i ∷ b) → (a ≡ b) ⊎ Before a b
after_start i a b (inl e) = inl (same_tail e)
after_start i a b (inr (inl less)) = absurd (omega (arith, less))
after_start i a b (inr (inr (e, before))) = inr before

no_later_start : (i j : ℕ) (a b : List ℕ) → NotAfter (i ∷ a) (j ∷ b) → i ≤ j
no_later_start i j a b (inl e) = let same : i ≡ j = same_head e in omega (arith, same)
no_later_start i j a b (inr (inl less)) = omega (arith, less)
no_later_start i j a b (inr (inr (e, before))) = omega (arith, e)

module _ (table : List (Place ℕ)) (haystack : Text) (start s : ℕ) where
  abbrev walks : ℕ × ℕ → ℕ → Option (ℕ × ℕ)
  walks = numbered_step table haystack

  abbrev FirstSet : List ℕ → ℕ × ℕ → Type 0
  FirstSet = StartsAt (λ i. (start, i)) s (length haystack)

  abbrev Whole : List ℕ → Type 0
  Whole = IsWhole (ℕ × ℕ) walks (is_end table haystack) FirstSet

  -- a search from position s on is over
  abbrev pub SearchIsOver : (ℕ × ℕ → Option (List ℕ)) → (best : Option (List ℕ)) → Type 0
  SearchIsOver = IsExplored (ℕ × ℕ) walks (is_end table haystack) FirstSet

  -- the answer has the start, the end and the marks of this way
  abbrev pub IsOfWay : Option (List ℕ) → Option Found → Type 0
  IsOfWay None answer = answer ≡ None
  IsOfWay (Some best) answer =
      (found : Found) × (way : List ℕ) × (q : ℕ) × (answer ≡ Some found)
      × (best ≡ found.start ∷ way)
      × Leads (ℕ × ℕ) walks (start, found.start) way (q, found.end)
      × (found.marks ≡ marks_along haystack (place_with table) (Some (start, found.start)) way)

  -- a way over numbers, with its start in front
  whole_of : (i q j : ℕ) (way : List ℕ) → IsNumberedMatch table haystack start s i way q j
      → Whole (i ∷ way)
  whole_of i q j way m = record {
    front = i ∷ [];
    arrows = way;
    parts = refl;
    start = (start, i);
    is_start = (i, m.from, m.inside, refl, refl);
    end = (q, j);
    ends = m.leads.ends;
    is_way = m.leads.is_way;
  }

  -- the first of all ways has the answer's start and end, and marks what it does
  first_found : (found : Found) (way : List ℕ) (q : ℕ)
      → IsFirst (ℕ × ℕ) walks (is_end table haystack) FirstSet (Some (found.start ∷ way))
      → Leads (ℕ × ℕ) walks (start, found.start) way (q, found.end)
      → found.marks ≡ marks_along haystack (place_with table) (Some (start, found.start)) way
      → IsNumberedAnswer table haystack start s (Some found)
  first_found found way q (whole, least) along marks = record {
    from = here.from;
    inside = here.inside;
    least = λ i p j other m.
        no_later_start found.start i way other (least (i ∷ other) (whole_of i p j other m));
    way = way;
    last = q;
    is_way = here.leads;
    preferred = λ other p j m. by_order other p j m
        (after_start found.start way other
        (least (found.start ∷ other) (whole_of found.start p j other (from_here other p j m))));
    marks = marks;
  }
    where
      here : IsNumberedMatch table haystack start s found.start way q found.end
      here = by_start whole.is_start
        where
          by_start : FirstSet whole.front whole.start
              → IsNumberedMatch table haystack start s found.start way q found.end
          by_start (i, low, high, e, f) =
              let all : found.start ∷ way ≡ i ∷ whole.arrows
              = whole.parts ∙ ap (λ z. z ++ whole.arrows) e in
              let at : found.start ≡ i = same_head all in record {
                from = omega (arith, low, at);
                inside = omega (arith, high, at);
                leads = along_whole table haystack false whole start found.start way q found.end
                    (ap (λ k. (start, k)) at ∙ sym f) (same_tail all) along;
              }

      from_here : (other : List ℕ) (p j : ℕ)
          → IsNumberedWay table haystack start found.start other p j
          → IsNumberedMatch table haystack start s found.start other p j
      from_here other p j m = record { from = here.from; inside = here.inside; leads = m }

      by_order : (other : List ℕ) (p j : ℕ)
          → IsNumberedWay table haystack start found.start other p j
          → (way ≡ other) ⊎ Before way other → (way ≡ other) ⊎ IsPreferred way other
      by_order other p j m (inl e) = inl e
      by_order other p j m (inr before) =
          inr (before_preferred haystack (place_with table) way other (start, found.start)
          (q, found.end) (p, j) before along here.leads.ends m.is_way.0)

  pub answer_when_over : (recorded : ℕ × ℕ → Option (List ℕ)) (best : Option (List ℕ))
      (answer : Option Found) → SearchIsOver recorded best
      → IsOfWay best answer → IsNumberedAnswer table haystack start s answer
  answer_when_over recorded None answer x e =
      let none = search_law None
      (starts_differ walks (is_end table haystack) (λ i. (start, i)) s (length haystack)) x in
      subst (λ a. IsNumberedAnswer table haystack start s a) (sym e)
      (λ i q j way m. none (i ∷ way) (whole_of i q j way m))
  answer_when_over recorded (Some best) answer x (found, way, q, e, best_is, along, marks) =
      let first = search_law (Some best)
      (starts_differ walks (is_end table haystack) (λ i. (start, i)) s (length haystack)) x in
      let moved = subst (λ w. IsFirst (ℕ × ℕ) walks (is_end table haystack) FirstSet (Some w))
      best_is first in
      subst (λ a. IsNumberedAnswer table haystack start s a) (sym e)
      (first_found found way q moved along marks)
