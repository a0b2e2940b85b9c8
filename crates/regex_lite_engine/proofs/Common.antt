-- The definitions that most proofs cite, passed on from one place. Declares nothing.
pub use Rattle.std.proofs.Common.{◌≡◌, ℕ, zero, suc, ◌+◌, ◌-◌, ◌*◌, ◌^◌, ◌<◌, ◌≤◌, Bool, true}
pub use Rattle.std.proofs.Common.{false, ◌&&◌, ◌≢◌, ◌⊎◌, ◌↔◌, List, [], ◌∷◌, ◌++◌, map, reverse}
pub use Rattle.std.proofs.Common.{length, get_or, take, drop, set, replicate, is_some, IfSome}
pub use Rattle.std.proofs.Common.{if◌then◌else◌, IsTrue, nat_lt, ◌==◌, slice_get, slice_index}
pub use Rattle.std.proofs.Common.{slice_index_or, slice_set, Some, None, vec_capacity, IsUtf8}
pub use Rattle.std.proofs.Common.{sum_by, Option, option_map, chars, IsCharBoundary, unwrap_or, sym}
pub use Rattle.std.proofs.Common.{refl, ap, ◌∙◌, subst, inl, inr, ⊎_elim, append_assoc, append-nil}
pub use Rattle.std.proofs.Common.{arith, length-append, length-drop, length-set, rules}
pub use Rattle.std.proofs.Math.Nat.{mul-le-mul_left, mul-le-mul_right, suc-mul}
pub use Rattle.std.proofs.Math.Seq.{drop-cons, take-append_seam}
pub use Rattle.std.proofs.lemmas.Bool.{cases_eq, cases_lt, cases_order}
pub use Rattle.std.proofs.lemmas.Bool.Decides.{nat_tests}
pub use Rattle.std.proofs.lemmas.List.{get_or-replicate, get_or-set_other, get_or-set_same}
pub use Rattle.std.proofs.lemmas.List.{get_or-take, get_or_past, length-map, length-replicate}
pub use Rattle.std.proofs.lemmas.List.{length-take, length-take-le, map-append, map-set}
pub use Rattle.std.proofs.lemmas.List.{nil_from_length, set-get_or, take-append-drop, take-take}
pub use Rattle.std.proofs.lemmas.List.{take_all}
pub use Rattle.std.proofs.lemmas.List.FromFn.{get_or-map-range_with_len, length-map-range_with_len}
pub use Rattle.std.proofs.lemmas.List.Sums.{sum_by-cons}
pub use Rattle.std.proofs.lemmas.Option.{slice_get-get_or, slice_get-map, slice_get_within}
pub use Rattle.std.proofs.lemmas.Str.{encodes-chars}
pub use Rattle.std.proofs.lemmas.Str.Pattern.{strip_prefix_char}
pub use Rattle.std.specs.Char.{len_utf8}
pub use Rattle.std.specs.List.{range_with_len}
pub use Rattle.std.specs.Option.{option_or}
pub use Rattle.regex_lite_syntax.specs.Characters.{is_digit, number_of}
pub use Rattle.regex_lite_syntax.specs.Ranges.{in_ranges}
pub use Rattle.regex_lite_syntax.specs.Sets.{Set, just}
pub use Rattle.regex_lite_syntax.specs.Text.{Text, after}
pub use Rattle.regex_lite_syntax.specs.Tree.{Tree, empty, character, class, look, repetition}
pub use Rattle.regex_lite_syntax.specs.Tree.{capture, concat, alternation, Trees, none, more, trees}
pub use Rattle.regex_lite_syntax.specs.Tree.Looks.{holds_between}
pub use Rattle.regex_lite_syntax.specs.Tree.Matches.{AtMost, Matches, Chain, SomeBranch}
pub use Rattle.regex_lite_syntax.specs.Tree.Properties.{nullable, greatest_index, greatest_index_in}
pub use Rattle.regex_lite_syntax.specs.Tree.Properties.{sum}
pub use Rattle.regex_lite_syntax.specs.Tree.Regular.{IsRegular}
pub use Rattle.regex_lite_syntax.specs.Tree.Views.{tree_of}
pub use Rattle.regex_lite_syntax.specs.declared.class.ClassRange.{ClassRange}
pub use Rattle.regex_lite_engine.specs.Backtrack.Bits.{bits_of}
pub use Rattle.regex_lite_engine.specs.Backtrack.Machine.{Pairs, pair_number, was_entered, Held}
pub use Rattle.regex_lite_engine.specs.Backtrack.Capacity.{searching}
pub use Rattle.regex_lite_engine.specs.Backtrack.Searching.{Restores}
pub use Rattle.regex_lite_engine.specs.Backtrack.Walking.{WayHolds, SearchFrom}
pub use Rattle.regex_lite_engine.specs.Graph.Addresses.{Address, part, own, entry, branch_entries}
pub use Rattle.regex_lite_engine.specs.Graph.Parts.{IsWithin, row_of, IsOwnPart}
pub use Rattle.regex_lite_engine.specs.Graph.PlaceCounts.{copies, own_places, class_arrows, places}
pub use Rattle.regex_lite_engine.specs.Graph.PlaceCounts.{places_in, arrows, count, reading_places}
pub use Rattle.regex_lite_engine.specs.Graph.PlaceCounts.{whole_places, whole_arrows}
pub use Rattle.regex_lite_engine.specs.Graph.Places.{Condition, free, holding, reading, Arrow}
pub use Rattle.regex_lite_engine.specs.Graph.Places.{complete, with_arrows, renamed_arrow, renamed}
pub use Rattle.regex_lite_engine.specs.Graph.Places.{read_past, taken, go, go_marking, go_holding}
pub use Rattle.regex_lite_engine.specs.Graph.Places.{go_reading, choice, one_of, reading_count}
pub use Rattle.regex_lite_engine.specs.Graph.Places.{reading_of, stack_bound, stack_bound_with}
pub use Rattle.regex_lite_engine.specs.Graph.Places.{stack_bound_of, arrived, arrow_taken}
pub use Rattle.regex_lite_engine.specs.Graph.Places.{step_from, step}
pub use Rattle.regex_lite_engine.specs.Graph.Renumbered.{arrow_count, arrows_of, IsRenumbered}
pub use Rattle.regex_lite_engine.specs.Graph.Renumbered.{IsNumberOf}
pub use Rattle.regex_lite_engine.specs.Graph.Repetitions.{Content, next_copy, in_copies, no_place}
pub use Rattle.regex_lite_engine.specs.Graph.Repetitions.{exactly_row, choice_at, in_choices}
pub use Rattle.regex_lite_engine.specs.Graph.Repetitions.{between_row, bounded_row, repetition_row}
pub use Rattle.regex_lite_engine.specs.Graph.SideBySide.{in_pattern, side_by_side, HasTree}
pub use Rattle.regex_lite_engine.specs.Graph.SideBySide.{start_of, places_of_all, arrows_of_all}
pub use Rattle.regex_lite_engine.specs.Graph.SideBySide.{tries_of_all, AreEntries}
pub use Rattle.regex_lite_engine.specs.Graph.Stored.{place_of, places_of, table_of, LeadBelow}
pub use Rattle.regex_lite_engine.specs.Graph.Stored.{LeadsBelow, LeadInto, LeadsInto}
pub use Rattle.regex_lite_engine.specs.Graph.StoredList.{StoredList, table_of_list}
pub use Rattle.regex_lite_engine.specs.Graph.Ways.{Leads, NoneTwice, IsWay}
pub use Rattle.regex_lite_engine.specs.Graph.WrittenOut.{place_at, place_in_chain, place_in_branch}
pub use Rattle.regex_lite_engine.specs.Graph.WrittenOut.{whole, end_address, start_address}
pub use Rattle.regex_lite_engine.specs.Graph.WrittenOut.{written_out, place_of_pattern}
pub use Rattle.regex_lite_engine.specs.Graph.WrittenOut.{IsWayThrough}
pub use Rattle.regex_lite_engine.specs.Interpolation.{plain, is_name_character, BeginsWith}
pub use Rattle.regex_lite_engine.specs.Interpolation.{no_dollar, reference, one_dollar}
pub use Rattle.regex_lite_engine.specs.Nfa.Fragments.{Fragment}
pub use Rattle.regex_lite_engine.specs.Nfa.Layout.{IsAdded, layout, chain_layout, branches_layout}
pub use Rattle.regex_lite_engine.specs.Nfa.Layout.{pattern_layout, pattern_table, patterns_table}
pub use Rattle.regex_lite_engine.specs.Nfa.Layout.{patterns_entries}
pub use Rattle.regex_lite_engine.specs.Nfa.Repetitions.{copies_layout, choices_layout, star_layout}
pub use Rattle.regex_lite_engine.specs.Nfa.Totals.{reading_of_all}
pub use Rattle.regex_lite_engine.specs.Pikevm.Again.{all_relabelled, state_relabelled, best_again}
pub use Rattle.regex_lite_engine.specs.Pikevm.Cells.{nth_row, frame_in, other, place_on}
pub use Rattle.regex_lite_engine.specs.Pikevm.Cells.{start_on, row_on, threads_on}
pub use Rattle.regex_lite_engine.specs.Pikevm.Entering.{reads, pushing, reading_on}
pub use Rattle.regex_lite_engine.specs.Pikevm.Machine.{Thread, thread_at}
pub use Rattle.regex_lite_engine.specs.Pikevm.Capacity.{ThreadsBelow, KeepsPosition}
pub use Rattle.regex_lite_engine.specs.Pikevm.Stepping.{best_of, StepsAt, IsComing, IsComingTo}
pub use Rattle.regex_lite_engine.specs.Pikevm.Stepping.{begun, with_starts}
pub use Rattle.regex_lite_engine.specs.Pikevm.Walking.{WayReported, ThreadsHold, InStep, SearchAt}
pub use Rattle.regex_lite_syntax.specs.Prefilter.PrefixSets.{NeverBegins, IsPassed}
pub use Rattle.regex_lite_syntax.specs.Prefilter.PrefixIndex.{may_start, is_candidate_at}
pub use Rattle.regex_lite_syntax.specs.Prefilter.PrefixIndex.{IsPassedByAll}
pub use Rattle.regex_lite_syntax.specs.Prefilter.FirstSet.{stops_at, MayBegin}
pub use Rattle.regex_lite_syntax.specs.Prefilter.ThirdMasks.{may_go_on}
pub use Rattle.regex_lite_engine.specs.Search.Answer.{IsMatchFrom, HasMatchFrom, Found, IsFound}
pub use Rattle.regex_lite_engine.specs.Search.Answer.{IsAnswer}
pub use Rattle.regex_lite_engine.specs.Search.AnswerOfList.{AnyMatchesFrom, IsAnswerOfList}
pub use Rattle.regex_lite_engine.specs.Search.ThreadStarts.{Reported, no_start}
pub use Rattle.regex_lite_engine.specs.Search.Bounds.{StepCounts, StaysCounted, characters_left}
pub use Rattle.regex_lite_engine.specs.Search.Bounds.{IsBoundedBy}
pub use Rattle.regex_lite_engine.specs.Search.Counting.{lone, CanCount}
pub use Rattle.regex_lite_engine.specs.Search.Explored.{Before, NotAfter, IsDead, IsAnswered}
pub use Rattle.regex_lite_engine.specs.Search.Explored.{IsGrown, StartsAt}
pub use Rattle.regex_lite_engine.specs.Search.Marks.{Marks, no_marks, marked, over, mark_of_arrow}
pub use Rattle.regex_lite_engine.specs.Search.Marks.{mark_of, marks_along, marks_of_way}
pub use Rattle.regex_lite_engine.specs.Search.NumberedAnswer.{place_with, is_complete}
pub use Rattle.regex_lite_engine.specs.Search.NumberedAnswer.{numbered_step, is_end, IsNumberedWay}
pub use Rattle.regex_lite_engine.specs.Search.NumberedAnswer.{IsNumberedMatch, are_wanted_before}
pub use Rattle.regex_lite_engine.specs.Search.NumberedAnswer.{is_wanted_end}
pub use Rattle.regex_lite_engine.specs.Search.NumberedList.{IsEntry, StartsOf, IsMatchOfAny}
pub use Rattle.regex_lite_engine.specs.Search.NumberedList.{IsNumberedAnswerOf}
pub use Rattle.regex_lite_engine.specs.Search.NumberedOutcomes.{Best, IsNumberedOutcome}
pub use Rattle.regex_lite_engine.specs.Search.Pending.{Node, PendingNode, StartsBelow}
pub use Rattle.regex_lite_engine.specs.Search.Offsets.{offset, IsOffset, position_at, search_start}
pub use Rattle.regex_lite_engine.specs.Search.Offsets.{HasSlots}
pub use Rattle.regex_lite_engine.specs.Search.Preference.{IsPreferred}
pub use Rattle.regex_lite_engine.specs.Search.PreferenceList.{Entry, after_marks, onward, stop}
pub use Rattle.regex_lite_engine.specs.Search.PreferenceList.{preference_list, HasReadingLoops}
pub use Rattle.regex_lite_engine.specs.Search.Rows.{Row, IsBlank}
pub use Rattle.regex_lite_engine.specs.Search.Here.{IsHere}
pub use Rattle.regex_lite_engine.specs.Search.Starts.{IsDeadAt, AreDeadAt, AreStartsAt, PassesTo}
pub use Rattle.regex_lite_engine.specs.Search.Starts.{IsPrefixIndexOf, start_numbered}
pub use Rattle.regex_lite_engine.specs.SearchLaws.{IsBefore}
pub use Rattle.regex_lite_engine.specs.declared.pikevm.cell.Cell.{Cell}
pub use Rattle.regex_lite_syntax.specs.declared.prefilter.prefixes.PrefixSets.{PrefixSets}
pub use Rattle.regex_lite_syntax.specs.declared.prefilter.prefix_index.PrefixIndex.{PrefixIndex}
pub use Rattle.regex_lite_syntax.specs.declared.prefilter.first_set.FirstSet.{FirstSet}
pub use Rattle.regex_lite_engine.specs.declared.search.here.Here.{Here}
pub use Rattle.regex_lite_engine.specs.declared.search.patterns.Start.{Start}
