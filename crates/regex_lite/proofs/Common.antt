-- The definitions that most proofs cite, passed on from one place. Declares nothing.
pub use Rattle.std.proofs.Common.{◌≡◌, ℕ, zero, suc, ◌+◌, ◌-◌, ◌*◌, ◌<◌, ◌≤◌, max, Bool, true}
pub use Rattle.std.proofs.Common.{false, ◌≢◌, ◌⊎◌, ◌↔◌, List, [], ◌∷◌, ◌++◌, map, length, get_or}
pub use Rattle.std.proofs.Common.{take, drop, replicate, is_some, IfSome, IfOk, IsTrue, slice_get}
pub use Rattle.std.proofs.Common.{slice_range, Some, None, Ok, Err, string_bytes, IsUtf8, MatchBool}
pub use Rattle.std.proofs.Common.{Option, Result, option_map, chars, unwrap_or, sym, refl, ap, ◌∙◌}
pub use Rattle.std.proofs.Common.{subst, inl, inr, add-one, arith, lit<, rules}
pub use Rattle.std.proofs.RcSteps.{cell, word, word-Good, word_ty}
pub use Rattle.std.proofs.alloc.Calls.{Goes-blank, handle_tells}
pub use Rattle.std.proofs.lemmas.Bool.{cases_order, false≢true}
pub use Rattle.std.proofs.lemmas.Bool.Decides.{nat_tests}
pub use Rattle.std.proofs.lemmas.List.{append_assoc, length-map, length-take-le}
pub use Rattle.std.proofs.lemmas.Option.{slice_get-get_or}
pub use Rattle.std.proofs.lemmas.Result.{err_from_is_err_and, IfOk-weaker}
pub use Rattle.std.proofs.lemmas.Str.{IsCharBoundary-start}
pub use Rattle.std.proofs.raw_atomic.Walks.{leaves, proved_at}
pub use Rattle.std.specs.Cow.{IsOwnedStr}
pub use Rattle.std.specs.List.{filter_map}
pub use Rattle.std.specs.Option.{option_zip}
pub use Rattle.std.specs.Rc.{rc_str_bytes}
pub use base.Fml.{Fml, Lft, Share, fat, fex, fhide, flft, fsep, ftok, ftrue}
pub use base.Fraction.{full_share}
pub use base.Logic.{SProp, emp, ent, fst∗, id⊢, never, sep}
pub use base.Mask.{every}
pub use contract.BorrowLft.{◌⊑◌}
pub use contract.Monad.{fact, fact_i}
pub use contract.Running.{tables}
pub use denote.Builtin.{RefOf}
pub use denote.Exit.{no, yes}
pub use denote.Memory.{hidden_shr, lone, part_at}
pub use denote.Opens.{hide, unhide}
pub use denote.Param.{layout, layouts, param}
pub use denote.Param.Laws.{Laws, param_laws}
pub use denote.RattleType.{RattleType, owns}
pub use denote.RawPtr.{Ptr, block_ptr, in_a_block, ptr_val}
pub use denote.Signature.{plain, types_at}
pub use denote.Struct.Lending.{lent_at, lent_at_shr_laws}
pub use denote.Triple.Spec.{triple_of}
pub use denote.Triple.Walked.{Goes-dropped, Stays, ends_at, says, stay_dropped, walk_of}
pub use mir.MapTy.{inst_fn}
pub use mir.Syntax.{Sym, a_type, dnil}
pub use mir.Val.{Val, of_list, vcons, vnil, vptr, vstruct}
pub use prog.Memory.{align, up}
pub use prog.Wp.{Env, WpFn}
pub use types.ByLocal.{alloc_all, env, free_all, get, get_in, look_at, pass_all, sets, through}
pub use types.Kit.{Goal, !, Item, Seq, Soaks, Step, at_ret, await, by, done, feq_i, feq_l, fjoin}
pub use types.Kit.{fpack, fpick, frame, fsplit, group, join, keep, later, move, now, pick, qed, raw}
pub use types.Kit.{rewrite, some, split, split3, step, suffices, updating, use0, use1, use2, use3}
pub use types.Kit.{‵, ◌$◌, ◌∵◌, ◌⊛◌}
pub use types.Logic.{Logic, sem}
pub use types.Part.{agg, look_in, sub}
pub use types.Run.{addr, and_then, blocks, enter, exec, first, fld, no_more, of_opd, returns, stop}
pub use Rattle.regex_lite_syntax.specs.Errors.{Refusal, syntax_error, too_deep, too_many_groups}
pub use Rattle.regex_lite_syntax.specs.Errors.{passed_limit, out_of_memory, refused_replacement}
pub use Rattle.regex_lite_syntax.specs.Errors.{kind_of}
pub use Rattle.regex_lite_syntax.specs.Grammar.{IsTree}
pub use Rattle.regex_lite_syntax.specs.Text.{Text}
pub use Rattle.regex_lite_syntax.specs.Tree.{Tree}
pub use Rattle.regex_lite_syntax.specs.Tree.Properties.{captures_len, static_captures_len}
pub use Rattle.regex_lite_syntax.specs.Tree.Views.{tree_of}
pub use Rattle.regex_lite_syntax.specs.declared.error.Error.{Error}
pub use Rattle.regex_lite_engine.specs.Graph.PlaceCounts.{whole_places}
pub use Rattle.regex_lite_engine.specs.Graph.Renumbered.{IsGraphOf}
pub use Rattle.regex_lite_engine.specs.Graph.SideBySide.{HasTree, AreRegularPatterns, places_of_all}
pub use Rattle.regex_lite_engine.specs.Graph.StoredList.{StoredGroups, IsGraphOfList}
pub use Rattle.regex_lite_engine.specs.Interpolation.{IsInterpolation}
pub use Rattle.regex_lite_engine.specs.Search.Answer.{HasMatchFrom, Found, IsFound}
pub use Rattle.regex_lite_engine.specs.Search.AnswerOfList.{IsFoundInList}
pub use Rattle.regex_lite_engine.specs.Search.Marks.{span}
pub use Rattle.regex_lite_engine.specs.Search.Offsets.{offset, position_at, search_start, HasSlots}
pub use Rattle.regex_lite_engine.specs.Search.Outcomes.{IsSpanOutcome, IsOutcomeOfList}
pub use Rattle.regex_lite_engine.specs.WayLaws.{IsPatternTree}
pub use Rattle.regex_lite_engine.specs.declared.search.outcome.Outcome.{Outcome}
pub use Rattle.regex_lite.specs.Ahead.{Ahead, IsOver, Passes, IsOnward, ahead, most_ahead, ahead_of}
pub use Rattle.regex_lite.specs.Answers.{IsWithin, AreLawful, IsEmptyAnswerFrom}
pub use Rattle.regex_lite.specs.Compiled.{IsBuilt, stored_groups, names_of, NamesGroups, groups_of}
pub use Rattle.regex_lite.specs.CompiledList.{groups_at}
pub use Rattle.regex_lite.specs.Escapes.{escaped_pattern}
pub use Rattle.regex_lite.specs.Expression.{Expression, expression_of, IsAccepted, IsDue, OfTree}
pub use Rattle.regex_lite.specs.Groups.{LiesIn, text_at, spans_of, resized, Groups, span_at}
pub use Rattle.regex_lite.specs.Groups.{group_span, whole_span, texts_from, AreGroups}
pub use Rattle.regex_lite.specs.Items.{AreGroupsFound}
pub use Rattle.regex_lite.specs.ListAhead.{AreGroupsFoundInList}
pub use Rattle.regex_lite.specs.MatchList.{IsAnswerOf, IsAnswerOfPatterns, one_less, IsNextAnswer}
pub use Rattle.regex_lite.specs.MatchList.{AreWithin}
pub use Rattle.regex_lite.specs.MatchViews.{haystack_of_match, span_of_match}
pub use Rattle.regex_lite.specs.NextMatch.{IsNextOffset}
pub use Rattle.regex_lite.specs.Owner.Ownership.{top, stands_for, only_one, value_place, lends}
pub use Rattle.regex_lite.specs.Owner.Ownership.{owned}
pub use Rattle.regex_lite.specs.Pieces.{found_span}
pub use Rattle.regex_lite.specs.RegexList.{AreAcceptedAs, AreAccepted, AreTrees}
pub use Rattle.regex_lite.specs.RegexListSearches.{AnyMatches, TellsMatchOfList, TellsGroupsOfList}
pub use Rattle.regex_lite.specs.Scanning.{RegexSearching, Scanning, most_captures}
pub use Rattle.regex_lite.specs.Scanning.{AreSlotsForAllGroups}
pub use Rattle.regex_lite.specs.Searches.{MatchesFrom, offsets, spans_from, TellsAnswer, IsMatchOf}
pub use Rattle.regex_lite.specs.Searches.{TellsMatch, AreGroupsOf, TellsGroups, TellsLocations}
pub use Rattle.regex_lite.specs.Settings.{Settings}
pub use Rattle.regex_lite.specs.Slots.{kept_slots, all_slots, most_groups}
pub use Rattle.regex_lite.specs.Templates.{texts_of}
pub use Rattle.regex_lite.specs.declared.string.compiled.Compiled.{Compiled}
pub use Rattle.regex_lite.specs.declared.string.list.compiled.CompiledList.{CompiledList}
pub use Rattle.regex_lite.specs.declared.string.matches.Match.{Match}
