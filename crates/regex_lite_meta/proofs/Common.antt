-- The definitions that most proofs cite, passed on from one place. Declares nothing.
pub use Rattle.std.proofs.Common.{◌≡◌, ℕ, zero, suc, ◌+◌, ◌-◌, ◌*◌, ◌^◌, ◌<◌, ◌≤◌, true, ◌⊎◌, List}
pub use Rattle.std.proofs.Common.{[], ◌∷◌, length, IfSome, Some, None, Option, MatchOption}
pub use Rattle.std.proofs.Common.{option_map, sym, refl, ap, ◌∙◌, subst, inl, inr, arith, map, take}
pub use Rattle.std.proofs.Common.{drop, slice_get, slice_index, slice_index_or, Bool, false, ◌==◌}
pub use Rattle.std.proofs.Common.{IsUtf8, chars, IsCharBoundary, ◌++◌, All, not, slice_set, rules}
pub use Rattle.std.proofs.Common.{true≢false}
pub use Rattle.std.proofs.Math.Nat.{suc-mul}
pub use Rattle.std.proofs.lemmas.Bool.{cases_lt}
pub use Rattle.std.proofs.lemmas.Bool.Decides.{nat_tests}
pub use Rattle.std.proofs.lemmas.List.{length-map, length-take-le, nil_from_length, take_all}
pub use Rattle.std.proofs.lemmas.Option.{get_or_from_slice_get, slice_get_within}
pub use Rattle.std.specs.Char.{len_utf8}
pub use Rattle.regex_lite_syntax.specs.Text.{Text}
pub use Rattle.regex_lite_engine.specs.Graph.Renumbered.{arrows_of}
pub use Rattle.regex_lite_engine.specs.Graph.Stored.{place_of, table_of, places_of}
pub use Rattle.regex_lite_engine.specs.Graph.StoredList.{table_of_list}
pub use Rattle.regex_lite_engine.specs.Pikevm.Again.{AreAlike}
pub use Rattle.regex_lite_engine.specs.Pikevm.Machine.{Thread}
pub use Rattle.regex_lite_engine.specs.Pikevm.Stepping.{best_of, IsComing}
pub use Rattle.regex_lite_engine.specs.Search.Answer.{Found}
pub use Rattle.regex_lite_engine.specs.Search.NumberedAnswer.{IsNumberedFound}
pub use Rattle.regex_lite_engine.specs.Search.NumberedOutcomes.{Best, best_kept, best_at}
pub use Rattle.regex_lite_engine.specs.Search.NumberedOutcomes.{with_start_kept, IsBestOutcomeOf}
pub use Rattle.regex_lite_engine.specs.Search.NumberedOutcomes.{span_of, IsNumberedEndOf, IsFoundOf}
pub use Rattle.regex_lite_engine.specs.Search.Offsets.{offset, IsOffset, position_at}
pub use Rattle.regex_lite_engine.specs.Search.Rows.{Row}
pub use Rattle.regex_lite_engine.specs.Search.Here.{IsHere}
pub use Rattle.regex_lite_engine.specs.Search.Starts.{AreDeadAt, PassesTo}
pub use Rattle.regex_lite_engine.specs.declared.pikevm.thread_start.MatchStart.{MatchStart}
pub use Rattle.regex_lite_engine.specs.declared.pikevm.cache.Cache.{Cache}
pub use Rattle.regex_lite_engine.specs.declared.search.here.Here.{Here}
pub use Rattle.regex_lite_meta.specs.LazyDfa.Automaton.{Automaton, ways_of, Suits, unknown, LeadsOn}
pub use Rattle.regex_lite_meta.specs.LazyDfa.Automaton.{IsDfaOf, threads_of, best_left, Way}
pub use Rattle.regex_lite_meta.specs.LazyDfa.Automaton.{reported_by, FitsTable, searching_after}
pub use Rattle.regex_lite_meta.specs.LazyDfa.Boundaries.{Grows}
pub use Rattle.regex_lite_meta.specs.LazyDfa.Extending.{Extends}
pub use Rattle.regex_lite_meta.specs.LazyDfa.Intervals.{context_of, Intervals, class_of, classes_in}
pub use Rattle.regex_lite_meta.specs.LazyDfa.Intervals.{IsBoundedPlace, AreIntervalsOf, IsBoundary}
pub use Rattle.regex_lite_meta.specs.LazyDfa.Intervals.{AreBounded, interval_of, character_bounds}
pub use Rattle.regex_lite_meta.specs.LazyDfa.Intervals.{look_bounds}
pub use Rattle.regex_lite_meta.specs.LazyDfa.Determinizing.{IsFirstStart, IsIn}
pub use Rattle.regex_lite_meta.specs.LazyDfa.Running.{IsOnItsWay, Stands}
pub use Rattle.regex_lite_meta.specs.LazyDfa.Scanning.{best_reported, IsSince, IsScanning}
pub use Rattle.regex_lite_meta.specs.LazyDfa.Scanning.{span_reported, IsStartStateAt}
pub use Rattle.regex_lite_meta.specs.LazyDfa.Stored.{way_in, match_flag_in, number_of, state_in}
pub use Rattle.regex_lite_meta.specs.declared.lazy_dfa.scan.DfaPosition.{DfaPosition}
pub use Rattle.regex_lite_meta.specs.declared.lazy_dfa.state.StoredState.{StoredState}
pub use Rattle.regex_lite_meta.specs.declared.lazy_dfa.state.StoredWay.{StoredWay}
pub use Rattle.regex_lite_meta.specs.declared.lazy_dfa.state.NextState.{NextState}
