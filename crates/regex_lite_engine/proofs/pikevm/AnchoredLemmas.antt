-- What an anchored search has found when it is over.
use Rattle.regex_lite_engine.proofs.Common.{◌≡◌, ℕ, ◌+◌, ◌≤◌, Bool, true, false, ◌⊎◌, List, length}
use Rattle.regex_lite_engine.proofs.Common.{Some, None, refl, subst, inl, inr, arith, Text}
use Rattle.regex_lite_engine.proofs.Common.{IsComingTo, Best, Thread, Start, [], ◌<◌, is_some}
use Rattle.regex_lite_engine.proofs.Common.{option_map}
use Rattle.regex_lite_engine.specs.declared.pikevm.cache.Cache.{Cache}
use Rattle.regex_lite_engine.specs.Graph.Places.{Place}
use Rattle.regex_lite_engine.specs.Pikevm.Passing.{IsUnderWayTo}
use Rattle.regex_lite_engine.specs.Search.Starts.{AreStartsUpTo}
use Rattle.regex_lite_engine.specs.Search.NumberedOutcomes.{IsAnyTo, IsFoundTo, IsWantedOutcomeTo}
use Rattle.regex_lite_engine.proofs.pikevm.EndLemmas.{ended_to}
use Rattle.regex_lite_engine.proofs.pikevm.ShortestLemmas.{best_matches}

-- where a match ends is known where there is one
pub some_end : (best : Best) → is_some (option_map (λ z. z.1) best) ≡ is_some best
some_end None = refl
some_end (Some best) = refl

-- what is said of the same patterns
pub under_as : {S : Type 0} {table table' : List (Place ℕ)} {haystack : Text}
    {entries entries' : List ℕ} {whole : Bool} {s last p : ℕ} {cache : Cache S}
    → table' ≡ table → entries' ≡ entries
    → IsUnderWayTo table' haystack entries' s whole last p cache
    → IsUnderWayTo table haystack entries s whole last p cache
under_as same_table same_entries on = rw (same_table, same_entries) at on

-- none start after the last start
pub none_starts : {table : List (Place ℕ)} {haystack : Text} {entries : List ℕ} {last p : ℕ}
    {starts : List Start} → last < p → starts ≡ []
    → AreStartsUpTo table haystack entries last p starts
none_starts later none =
    record { up_to = λ high. absurd (omega (arith, later, high)); none_after = λ _. none }

module _ {table : List (Place ℕ)} {haystack : Text} {entries : List ℕ} {whole : Bool} {s p : ℕ}
    {threads : List Thread} {best : Best} (low : s ≤ p) (inside : p ≤ length haystack)
    (coming : IsComingTo table haystack entries whole s s (p + 1) threads best) where
  within : s ≤ length haystack
  within = omega (arith, low, inside)

  -- no thread is left, or it stands at the haystack's end
  ended : (p ≡ length haystack) ⊎ (length threads ≡ 0)
      → IsWantedOutcomeTo table haystack entries whole s s best
  ended (inl same) =
      ended_to table haystack entries whole s s within p threads best low inside (inl same) coming
  ended (inr empty) =
      ended_to table haystack entries whole s s within p threads best low inside
      (inr (empty, inr low)) coming

  -- or a match is complete, and any will do
  any : ((p ≡ length haystack) ⊎ (length threads ≡ 0)) ⊎ (best ≡ None → ⊥)
      → IsAnyTo table haystack entries whole s s best
  any over = by_best best refl
    where
      by_best : (b : Best) → best ≡ b → IsAnyTo table haystack entries whole s s b
      by_best None none =
          subst (IsWantedOutcomeTo table haystack entries whole s s) none
          (ended (so_over none over))
        where
          so_over : best ≡ None
              → ((p ≡ length haystack) ⊎ (length threads ≡ 0)) ⊎ (best ≡ None → ⊥)
              → (p ≡ length haystack) ⊎ (length threads ≡ 0)
          so_over none (inl ends) = ends
          so_over none (inr some) = absurd (some none)
      by_best (Some b) found =
          let is = best_matches table haystack entries whole s s within (p + 1) threads b
          (subst (λ z. IsComingTo table haystack entries whole s s (p + 1) threads z) found coming)
          in
          (is.start, is.number, is.way, is.place, is.end, is.up_to, is.is_match)

  pub anchored_found : (earliest : Bool) → ((p ≡ length haystack) ⊎ (length threads ≡ 0))
      ⊎ ((best ≡ None → ⊥) × (earliest ≡ false → length threads ≡ 0))
      → IsFoundTo earliest table haystack entries whole s s best
  anchored_found false (inl over) = ended over
  anchored_found false (inr (some, empty)) = ended (inr (empty refl))
  anchored_found true (inl over) = any (inl over)
  anchored_found true (inr (some, empty)) = any (inr some)
