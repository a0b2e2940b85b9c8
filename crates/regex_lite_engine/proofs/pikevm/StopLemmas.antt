-- What a search that has stopped has found, and what it did.
use Rattle.regex_lite_engine.proofs.Common.{◌≡◌, ℕ, ◌+◌, ◌≤◌, Bool, true, false, ◌⊎◌, List, length}
use Rattle.regex_lite_engine.proofs.Common.{None, refl, subst, inl, inr, arith, Text, row_of}
use Rattle.regex_lite_engine.proofs.Common.{IsOwnPart, arrows_of, IsComing}
use Rattle.regex_lite_engine.proofs.Common.{IsBoundedBy, best_of, Best, Thread, IsHere, Here}
use Rattle.regex_lite_engine.specs.declared.pikevm.cache.Cache.{Cache}
use Rattle.regex_lite_engine.specs.Graph.Places.{Place}
use Rattle.regex_lite_engine.specs.Pikevm.Passing.{IsUnderWay, Passes}
use Rattle.regex_lite_engine.specs.Pikevm.Stopping.{IsDone, Stops, StopsBefore}
use Rattle.regex_lite_engine.specs.Pikevm.Stepping.{EndsAt}
use Rattle.regex_lite_engine.specs.Search.NumberedOutcomes.{IsFoundOf}
use Rattle.regex_lite_engine.proofs.pikevm.EndLemmas.{ended_all}
use Rattle.regex_lite_engine.proofs.pikevm.PassLemmas.{bounded, bounded_within}
use Rattle.regex_lite_engine.proofs.pikevm.ShortestLemmas.{shortest_known}
use Rattle.regex_lite_engine.proofs.search.here.HereLemmas.{over_at}

module _ {table : List (Place ℕ)} {haystack : Text} {entries : List ℕ} {s p : ℕ} where
  -- a search is over after a position over which it has just gone
  pub done_after : {earliest : Bool} {before : List Thread} (threads : List Thread)
      {best best' : Best} {here : Here} → s ≤ p → IsHere haystack p here
      → IsComing table haystack entries s (length haystack) p before best
      → (earliest ≡ true → best ≡ None) → EndsAt here.at best best'
      → (here.after ≡ None)
      ⊎ ((best' ≡ None → ⊥) × (earliest ≡ false → length threads ≡ 0))
      → IsDone table haystack entries s earliest p threads best'
  done_after {before = before} threads {best} {best'} {here} low is coming none ends over = record {
    low = low;
    inside = is.inside;
    known = over_at haystack p here is over;
    ends = λ earliest. record {
      threads = before;
      none =
          subst (λ z. IsComing table haystack entries s (length haystack) p before z)
          (none earliest) coming;
      ends =
          subst (λ z. EndsAt z None best') is.bytes
          (subst (λ z. EndsAt here.at z best') (none earliest) ends);
    };
  }

  -- what is asked for is found then
  pub done_found : (earliest : Bool) (threads : List Thread) (best : Best)
      → IsDone table haystack entries s earliest p threads best
      → IsComing table haystack entries s (length haystack) (p + 1) threads best
      → IsFoundOf earliest table haystack entries s best
  done_found false threads best done coming =
      ended_all table haystack entries s p threads best done.low done.inside (known done.known)
      coming
    where
      known : {A B C : Type 0} → A ⊎ (B × (false ≡ false → C)) → A ⊎ (B × C)
      known (inl at_end) = inl at_end
      known (inr (some, empty)) = inr (some, empty refl)
  done_found true threads best done coming =
      let ends = done.ends refl in
      shortest_known table haystack entries s p _ ends.threads threads None best done.low
      done.inside refl refl ends.ends (known done.known) ends.none coming
    where
      known : {A B C : Type 0} → A ⊎ (B × C) → A ⊎ B
      known (inl at_end) = inl at_end
      known (inr (some, empty)) = inr some

module _ {S : Type 0} {table : List (Place ℕ)} {haystack : Text} {entries : List ℕ} {s p : ℕ}
    {cache now : Cache S} where
  pub over_after : {earliest : Bool} {here : Here} → s ≤ p
      → (earliest ≡ true → best_of cache.best ≡ None)
      → (here.after ≡ None)
      ⊎ ((best_of now.best ≡ None → ⊥)
      × (earliest ≡ false → length now.walk.memory.threads ≡ 0))
      → (passes : Passes table haystack entries s p cache now here)
      → StopsBefore table haystack entries s earliest (passes.q + 1) now.walk.memory.threads
      (best_of now.best) None
  over_after low none over passes = (
    passes.q,
    refl,
    done_after now.walk.memory.threads (omega (arith, low, passes.later)) passes.is passes.before
        none passes.ends over,
  )

-- a search is over
module _ {S : Type 0} {table : List (Place ℕ)} {haystack : Text} {entries : List ℕ} {s p : ℕ}
    {cache now : Cache S} {earliest : Bool}
    (stops : Stops table haystack entries s earliest p cache now None) where
  done : IsDone table haystack entries s earliest stops.why.0 now.walk.memory.threads
      (best_of now.best)
  done = stops.why.2

  on : IsUnderWay table haystack entries s (stops.why.0 + 1) now
  on = subst (λ z. IsUnderWay table haystack entries s z now) stops.why.1 stops.on

  pub over_bounded : IsBoundedBy (length table) (arrows_of table + length entries) haystack s
      now.walk.steps.tried now.walk.steps.entered now.walk.steps.looked
  over_bounded = bounded done.low done.inside on

  pub over_within : (low len : ℕ) → IsOwnPart table entries low len
      → IsBoundedBy len (arrows_of (row_of table low len) + length entries) haystack s
      now.walk.steps.tried now.walk.steps.entered now.walk.steps.looked
  over_within = bounded_within done.low done.inside on

  pub over_found : IsFoundOf earliest table haystack entries s (best_of now.best)
  over_found = done_found earliest now.walk.memory.threads (best_of now.best) done on.coming
