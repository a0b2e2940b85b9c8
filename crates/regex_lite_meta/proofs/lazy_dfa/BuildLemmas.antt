-- A lazy DFA with an empty cache.
use Rattle.regex_lite_meta.proofs.Common.{◌≡◌, ◌-◌, ℕ, List, [], map, take, drop, slice_get, Some}
use Rattle.regex_lite_meta.proofs.Common.{IfSome, sym, ap, ◌∙◌, place_of, Automaton, Intervals}
use Rattle.regex_lite_meta.proofs.Common.{AreIntervalsOf}
use Rattle.regex_lite_engine.specs.declared.nfa.place.Place as code
use Rattle.regex_lite_engine.specs.Graph.Places.{Place}
use Rattle.regex_lite_meta.specs.LazyDfa.Automaton.{ReadsAtMost, State}
use Rattle.regex_lite_meta.specs.LazyDfa.Intervals.{AreIntervalsFor}
use Rattle.regex_lite_meta.specs.LazyDfa.Parts.{IsPartOf}
use Rattle.regex_lite_meta.specs.LazyDfa.Spans.{IsDfaFor}
use Rattle.regex_lite_meta.specs.declared.lazy_dfa.part.PlaceRange.{PlaceRange}
use Rattle.regex_lite_meta.proofs.lazy_dfa.AlikeLemmas.{alike_at}
use Rattle.regex_lite_syntax.proofs.OptionLemmas.{not_there}

-- what no place of the patterns' part distinguishes, searches for them don't
pub intervals_for : (places : List code.Place) (entries : List ℕ) (part : PlaceRange)
    → IsPartOf (map place_of places) entries part → (row : List code.Place)
    → row ≡ take (part.end - part.low) (drop part.low places) → (intervals : Intervals)
    → AreIntervalsOf row intervals → AreIntervalsFor (map place_of places) entries intervals
intervals_for places entries part is row cut intervals are =
    record {
      alike = alike_at places entries part is row cut intervals are;
      contexts = are.contexts;
    }

-- a lazy DFA without states caches no transition that another search would not take
pub is_dfa_none : (table : List (Place ℕ)) (entries : List ℕ) (automaton : Automaton)
    → AreIntervalsFor table entries automaton.intervals
    → IfSome automaton.reach (ReadsAtMost table entries) → automaton.states ≡ []
    → automaton.pending ≡ [] → IsDfaFor table entries automaton
is_dfa_none table entries automaton are reach empty none = record {
  is_dfa = record {
    intervals = are;
    reach = reach;
    leads = λ x from class at. absurd (nothing x from at);
    fit = λ x state at. absurd (nothing x state at);
  };
  none_pending = none;
}
  where
    nothing : (x : ℕ) (state : State) → slice_get automaton.states x ≡ Some state → ⊥
    nothing x state at = not_there (sym (ap (λ states. slice_get states x) empty) ∙ at)
