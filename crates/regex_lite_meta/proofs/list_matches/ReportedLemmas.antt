-- Whether a pattern of a list has a match, by what a search for it alone tells.
use Rattle.regex_lite_engine.proofs.Common.{ℕ, ◌∷◌, [], Bool, List, Some, None, IsTrue, is_some}
use Rattle.regex_lite_engine.proofs.Common.{chars, sym, refl, subst, arith, Text, Best}
use Rattle.regex_lite_engine.proofs.Common.{IsNumberedMatch}
use Rattle.std.specs.Prelude.{◌↔◌}
use Rattle.regex_lite_engine.specs.Graph.Places.{Place}
use Rattle.regex_lite_engine.specs.Search.Bounds.{StepCounts}
use Rattle.regex_lite_engine.specs.Search.NumberedAnswer.{NoneStartsBefore}
use Rattle.regex_lite_engine.specs.Search.NumberedOutcomes.{IsNumberedEndOf}
use Rattle.regex_lite_engine.proofs.search.OneStartLemmas.{only_entry}
use Rattle.regex_lite_meta.specs.AnyOfOne.{HasMatchOfAny}
use Rattle.regex_lite_meta.specs.ListMatches.{IsReportedOf}
use Rattle.regex_lite_meta.specs.ListPass.{IsReportedFrom}

module _ (table : List (Place ℕ)) (haystack : Text) (entry : ℕ) where
  abbrev Has : ℕ → Type 0
  Has s = HasMatchOfAny table haystack (entry ∷ []) s

  -- the least end of a match tells
  pub by_least_end : (s : ℕ) (best : Best) → IsNumberedEndOf table haystack (entry ∷ []) s best
      → IsTrue (is_some best) ↔ Has s
  by_least_end s None none = (λ yes. cc, λ (i, k, way, q, j, m). absurd (none i k way q j m))
  by_least_end s (Some best) (j, shortest, at) = (
    λ yes. (
      shortest.start,
      shortest.number,
      shortest.way,
      shortest.last,
      j,
      shortest.is_match,
    ),
    λ has. refl,
  )

  -- what is reported from a later position on, before which no match starts, holds from here
  pub from_later : (s m : ℕ) (reported : Bool) → NoneStartsBefore table haystack entry s m
      → (IsTrue reported ↔ Has m) → IsTrue reported ↔ Has s
  from_later s m reported before both = (λ yes. sooner (both.0 yes), λ has. both.1 (later has))
    where
      sooner : Has m → Has s
      sooner (i, k, way, q, j, n) =
          let low = before.from in
          let high = n.is_match.from in (
            i,
            k,
            way,
            q,
            j,
            record {
              entry = n.entry;
              is_entry = n.is_entry;
              is_match = record {
                from = omega (arith, low, high);
                inside = n.is_match.inside;
                leads = n.is_match.leads;
              };
            },
          )

      later : Has s → Has m
      later (i, k, way, q, j, n) =
          let (first, same) = only_entry entry k n.entry n.is_entry in (
            i,
            k,
            way,
            q,
            j,
            record {
              entry = n.entry;
              is_entry = n.is_entry;
              is_match = record {
                from = before.least i q j way
                    (subst (λ e. IsNumberedMatch table haystack e s i way q j) (sym same)
                    n.is_match);
                inside = n.is_match.inside;
                leads = n.is_match.leads;
              };
            },
          )

-- so does a search from there
pub reported_from_first : (table : List (Place ℕ)) (bytes : List ℕ) (entry s m : ℕ)
    (reported : Bool × StepCounts) → NoneStartsBefore table (chars bytes) entry s m
    → IsReportedOf table (chars bytes) entry m reported → IsReportedFrom table bytes entry s
    reported.0
reported_from_first table bytes entry s m reported before from =
    from_later table (chars bytes) entry s m reported.0 before
    (subst (λ b. IsTrue b ↔ HasMatchOfAny table (chars bytes) (entry ∷ []) m) (sym from.is)
    (by_least_end table (chars bytes) entry m from.best from.end))
