-- The definitions that most proofs cite, passed on from one place. Declares nothing.
pub use Rattle.std.proofs.Common.{◌≡◌, ℕ, zero, suc, ◌+◌, ◌-◌, ◌<◌, ◌≤◌, true, false, ◌⊎◌, List, []}
pub use Rattle.std.proofs.Common.{◌∷◌, ◌++◌, map, length, get_or, drop, slice_get, slice_set, Some}
pub use Rattle.std.proofs.Common.{None, IsUtf8, Option, option_map, chars, IsCharBoundary}
pub use Rattle.std.proofs.Common.{unwrap_or, sym, refl, ap, ◌∙◌, subst, inl, inr, append_assoc}
pub use Rattle.std.proofs.Common.{append-nil, arith, lit<, length-append}
pub use Rattle.std.proofs.RcSteps.{word, word-Good}
pub use Rattle.std.proofs.lemmas.Bool.{cases_lt}
pub use Rattle.std.proofs.lemmas.List.{length-map, map-append}
pub use Rattle.std.proofs.raw_atomic.Walks.{leaves, proved_at}
pub use base.Fml.{ftrue}
pub use base.Logic.{SProp}
pub use contract.Running.{tables}
pub use denote.Exit.{yes}
pub use denote.Param.{layout}
pub use denote.RattleType.{RattleType, owns}
pub use denote.RawPtr.{Ptr, block_ptr, null_ptr}
pub use denote.Signature.{plain, types_at}
pub use denote.Steps.{nothing}
pub use denote.Triple.Walked.{Goes-dropped, Stays, stay_dropped, walk_of}
pub use mir.Syntax.{Sym}
pub use mir.Val.{Val, vcons, vnil, vptr}
pub use prog.Wp.{WpFn}
pub use types.ByLocal.{alloc_all, free_all, get, get_in, look_at, pass_all, sets}
pub use types.Kit.{by, !, fjoin, fsplit, keep, move, qed, raw, split, suffices, use0, ‵, ◌$◌, ◌∵◌}
pub use types.Kit.{◌⊛◌}
pub use types.Match.{live}
pub use types.Part.{agg, sub, whole}
pub use types.Run.{and_then, enter, fld, lit, no_more, of_opd, returns, stop}
pub use Rattle.regex_lite_engine.specs.Search.Answer.{Found}
pub use Rattle.regex_lite.specs.Ahead.{ahead_of}
pub use Rattle.regex_lite.specs.CaptureNames.{names_left}
pub use Rattle.regex_lite.specs.Expression.{Expression, IsAccepted}
pub use Rattle.regex_lite.specs.Groups.{Groups}
pub use Rattle.regex_lite.specs.MatchList.{IsAnswerOf}
pub use Rattle.regex_lite.specs.Pieces.{found_span}
pub use Rattle.regex_lite_c.specs.Answers.{number_of}
pub use Rattle.regex_lite_c.specs.ListBuilding.{settings_of_all, settings_of_source}
pub use Rattle.regex_lite_c.specs.ListBuilding.{IsFirstOtherBytes}
pub use Rattle.regex_lite_c.specs.Options.{settings_of}
pub use Rattle.regex_lite_c.specs.Spans.{span_of, AreWrittenAs, AreWritten}
pub use Rattle.regex_lite_c.specs.Walks.{ended_of}
pub use Rattle.regex_lite_c.specs.declared.answer.TheConstants.{NO, NO_ROOM, OUT_OF_MEMORY, YES}
pub use Rattle.regex_lite_c.specs.declared.types.Span.{Span}
