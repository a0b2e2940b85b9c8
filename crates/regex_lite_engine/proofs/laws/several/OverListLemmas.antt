-- What a search for several patterns has found when it is over is its answer.
use Rattle.regex_lite_engine.proofs.Common.{◌≡◌, ℕ, ◌<◌, ◌≤◌, ◌⊎◌, List, [], ◌∷◌, ◌++◌, length}
use Rattle.regex_lite_engine.proofs.Common.{slice_get, Some, None, Option, sym, refl, ap, ◌∙◌}
use Rattle.regex_lite_engine.proofs.Common.{subst, inl, inr, arith, Text, Leads, Found, NotAfter}
use Rattle.regex_lite_engine.proofs.Common.{marks_along, place_with, numbered_step, is_wanted_end}
use Rattle.regex_lite_engine.proofs.Common.{IsEntry, StartsOf, IsPreferred, Bool, cases_lt}
use Rattle.regex_lite_engine.specs.Search.NumberedAnswer.{IsWantedFound, IsWantedMatch, IsWantedWay}
use Rattle.regex_lite_engine.specs.Search.NumberedList.{IsWantedAnswerTo, IsWantedOfAny}
use Rattle.regex_lite_syntax.proofs.ListLemmas.{same_head, same_tail}
use Rattle.regex_lite_engine.specs.Graph.Places.{Place}
use Rattle.regex_lite_engine.proofs.laws.search.Explored.{StartsDiffer, IsWhole, IsFirst}
use Rattle.regex_lite_engine.proofs.laws.search.Explored.{IsExplored}
use Rattle.regex_lite_engine.proofs.laws.search.OverLemmas.{along_whole, before_preferred}
use Rattle.regex_lite_engine.proofs.laws.search.SearchLawLemmas.{search_law}
use Rattle.regex_lite_engine.proofs.search.WantedLemmas.{complete_there}
use Rattle.regex_lite_syntax.proofs.OptionLemmas.{same_some}

-- a way after two starts that look alike
abbrev Later : (i k j l : ℕ) → (a b : List ℕ) → Type 0
Later i k j l a b = (i < j) ⊎ ((i ≡ j) × ((k < l) ⊎ ((k ≡ l) × NotAfter a b)))

later : (i k j l : ℕ) (a b : List ℕ) → NotAfter (i ∷ (k ∷ a)) (j ∷ (l ∷ b)) → Later i k j l a b
later i k j l a b (inl e) =
    inr (same_head e, inr (same_head (same_tail e), inl (same_tail (same_tail e))))
later i k j l a b (inr (inl less)) = inl less
later i k j l a b (inr (inr (e, inl less))) = inr (e, inl less)
later i k j l a b (inr (inr (e, inr (d, before)))) = inr (e, inr (d, inr before))

module _ (table : List (Place ℕ)) (haystack : Text) (entries : List ℕ) (whole : Bool)
    (s last : ℕ) where
  abbrev walks : ℕ × ℕ → ℕ → Option (ℕ × ℕ)
  walks = numbered_step table haystack

  abbrev FirstSet : List ℕ → ℕ × ℕ → Type 0
  FirstSet = StartsOf entries s last

  abbrev Whole : List ℕ → Type 0
  Whole = IsWhole (ℕ × ℕ) walks (is_wanted_end table haystack whole) FirstSet

  -- a search for matches that start from position s to `last` is over
  abbrev pub IsOverOf : (ℕ × ℕ → Option (List ℕ)) → (best : Option (List ℕ)) → Type 0
  IsOverOf = IsExplored (ℕ × ℕ) walks (is_wanted_end table haystack whole) FirstSet

  -- the answer has the number, the start, the end and the marks of this way
  abbrev pub IsOfWayOf : Option (List ℕ) → Option (ℕ × Found) → Type 0
  IsOfWayOf None answer = answer ≡ None
  IsOfWayOf (Some best) answer =
      (number : ℕ) × (entry : ℕ) × (found : Found) × (way : List ℕ) × (q : ℕ)
      × (answer ≡ Some (number, found)) × IsEntry entries number entry
      × (best ≡ found.start ∷ (number ∷ way))
      × Leads (ℕ × ℕ) walks (entry, found.start) way (q, found.end)
      × (found.marks ≡ marks_along haystack (place_with table) (Some (entry, found.start)) way)

  same_entry : (k l a b : ℕ) → k ≡ l → IsEntry entries k a → IsEntry entries l b → a ≡ b
  same_entry k l a b e p q = same_some (sym p ∙ ap (slice_get entries) e ∙ q)

  -- two starts differ in their position or their pattern
  same_front : (i j k l : ℕ) → i ≡ j → k ≡ l → i ∷ (k ∷ []) ≡ j ∷ (l ∷ [])
  same_front i j k l e f = λ t. e t ∷ (f t ∷ [])

  same_start : (x y i j : ℕ) → x ≡ y → i ≡ j → ◌≡◌ {A = ℕ × ℕ} (x, i) (y, j)
  same_start x y i j e f = λ t. (e t, f t)

  pub differ : StartsDiffer (ℕ × ℕ) walks (is_wanted_end table haystack whole) FirstSet
  differ a b more other n m (i, k, x, _, _, p, e, f) (j, l, y, _, _, q, g, h) parts =
      let all : i ∷ (k ∷ more) ≡ j ∷ (l ∷ other)
      = sym (ap (λ z. z ++ more) e) ∙ parts ∙ ap (λ z. z ++ other) g in (
        e ∙ same_front i j k l (same_head all) (same_head (same_tail all)) ∙ sym g,
        f ∙ same_start x y i j (same_entry k l x y (same_head (same_tail all)) p q) (same_head all)
            ∙ sym h,
      )

  -- a way over numbers, with its start in front
  whole_of : (i k : ℕ) (way : List ℕ) (q j : ℕ) → i ≤ last
      → IsWantedOfAny table haystack entries whole s i k way q j → Whole (i ∷ (k ∷ way))
  whole_of i k way q j up_to m = record {
    front = i ∷ (k ∷ []);
    arrows = way;
    parts = refl;
    start = (m.entry, i);
    is_start = (i, k, m.entry, m.is_match.from, up_to, m.is_entry, refl, refl);
    end = (q, j);
    ends = m.is_match.leads.ends;
    is_way = m.is_match.leads.is_way;
  }

  -- the first of all ways has the answer's number, start and end, and marks what it does
  module _ (inside : last ≤ length haystack) (number entry : ℕ) (found : Found) (way : List ℕ)
      (q : ℕ) (is_entry : IsEntry entries number entry)
      (first : IsFirst (ℕ × ℕ) walks (is_wanted_end table haystack whole) FirstSet
      (Some (found.start ∷ (number ∷ way))))
      (along : Leads (ℕ × ℕ) walks (entry, found.start) way (q, found.end))
      (marks : found.marks
      ≡ marks_along haystack (place_with table) (Some (entry, found.start)) way) where
    own_match : (found.start ≤ last)
        × IsWantedMatch table haystack whole entry s found.start way q found.end
    own_match = by_start first.0.is_start
      where
        by_start : FirstSet first.0.front first.0.start → (found.start ≤ last)
            × IsWantedMatch table haystack whole entry s found.start way q found.end
        by_start (i, k, x, low, high, p, e, f) =
            let all : found.start ∷ (number ∷ way) ≡ i ∷ (k ∷ first.0.arrows)
            = first.0.parts ∙ ap (λ z. z ++ first.0.arrows) e in
            let at : found.start ≡ i = same_head all in
            let own = same_entry number k entry x (same_head (same_tail all)) is_entry p in (
              omega (arith, high, at),
              record {
                from = omega (arith, low, at);
                inside = omega (arith, high, at, inside);
                leads = along_whole table haystack whole first.0 entry found.start way q found.end
                    (same_start entry x found.start i own at ∙ sym f) (same_tail (same_tail all))
                    along;
              },
            )

    here : IsWantedMatch table haystack whole entry s found.start way q found.end
    here = own_match.1

    compared : (i k : ℕ) (other : List ℕ) (p j : ℕ)
        → IsWantedOfAny table haystack entries whole s i k other p j
        → Later found.start number i k way other
    compared i k other p j m = elim (cases_lt last i) [
      | inl beyond ↦ inl (let up_to = own_match.0 in omega (arith, up_to, beyond))
      | inr up_to ↦
          later found.start number i k way other
          (first.1 (i ∷ (k ∷ other)) (whole_of i k other p j up_to m))
    ]

    of_own : (i : ℕ) (other : List ℕ) (p j : ℕ)
        → IsWantedMatch table haystack whole entry s i other p j
        → IsWantedOfAny table haystack entries whole s i number other p j
    of_own i other p j m = record { entry = entry; is_entry = is_entry; is_match = m }

    from_here : (other : List ℕ) (p j : ℕ)
        → IsWantedWay table haystack whole entry found.start other p j
        → IsWantedMatch table haystack whole entry s found.start other p j
    from_here other p j m = record { from = here.from; inside = here.inside; leads = m }

    not_before : (i k : ℕ) (other : List ℕ) → Later found.start number i k way other
        → (found.start < i) ⊎ ((found.start ≡ i) × (number ≤ k))
    not_before i k other (inl less) = inl less
    not_before i k other (inr (e, inl less)) = inr (e, omega (arith, less))
    not_before i k other (inr (e, inr (same, le))) = inr (e, omega (arith, same))

    least_start : (i k : ℕ) (other : List ℕ) → Later found.start number i k way other
        → found.start ≤ i
    least_start i k other (inl less) = omega (arith, less)
    least_start i k other (inr (e, later)) = omega (arith, e)

    by_order : (other : List ℕ) (p j : ℕ)
        → IsWantedWay table haystack whole entry found.start other p j
        → Later found.start number found.start number way other
        → (way ≡ other) ⊎ IsPreferred way other
    by_order other p j m (inl less) = absurd (omega (arith, less))
    by_order other p j m (inr (e, inl less)) = absurd (omega (arith, less))
    by_order other p j m (inr (e, inr (same, inl equal))) = inl equal
    by_order other p j m (inr (e, inr (same, inr before))) =
        inr (before_preferred haystack (place_with table) way other (entry, found.start)
        (q, found.end) (p, j) before along
        (complete_there table haystack whole (q, found.end) here.leads.ends) m.is_way.0)

    found_is : IsWantedFound table haystack whole entry s found
    found_is = record {
      from = here.from;
      inside = here.inside;
      least = λ i p j other m.
          least_start i number other (compared i number other p j (of_own i other p j m));
      way = way;
      last = q;
      is_way = here.leads;
      preferred = λ other p j m. by_order other p j m
          (compared found.start number other p j
          (of_own found.start other p j (from_here other p j m)));
      marks = marks;
    }

    first_found : IsWantedAnswerTo table haystack entries whole s last (Some (number, found))
    first_found = (
      own_match.0,
      record {
        entry = entry;
        is_entry = is_entry;
        answer = found_is;
        first = λ i k other p j m. not_before i k other (compared i k other p j m);
      },
    )

  pub list_answer_when_over : last ≤ length haystack → (recorded : ℕ × ℕ → Option (List ℕ))
      (best : Option (List ℕ)) (answer : Option (ℕ × Found)) → IsOverOf recorded best
      → IsOfWayOf best answer → IsWantedAnswerTo table haystack entries whole s last answer
  list_answer_when_over inside recorded None answer x e =
      let none = search_law None differ x in
      subst (λ a. IsWantedAnswerTo table haystack entries whole s last a) (sym e)
      (λ i k way q j up_to m. none (i ∷ (k ∷ way)) (whole_of i k way q j up_to m))
  list_answer_when_over inside recorded (Some best) answer x
      (number, entry, found, way, q, e, is_entry, best_is, along, marks) =
      let first = search_law (Some best) differ x in
      let moved = subst (λ w. IsFirst (ℕ × ℕ) walks (is_wanted_end table haystack whole) FirstSet
      (Some w)) best_is
      first in
      subst (λ a. IsWantedAnswerTo table haystack entries whole s last a) (sym e)
      (first_found inside number entry found way q is_entry moved along marks)
