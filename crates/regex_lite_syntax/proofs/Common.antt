-- The definitions that most proofs cite, passed on from one place. Declares nothing.
pub use Rattle.std.proofs.Common.{◌≡◌, ℕ, zero, suc, ◌+◌, ◌-◌, ◌*◌, ◌/◌, ◌%◌, ◌^◌, ◌<◌, ◌≤◌, min}
pub use Rattle.std.proofs.Common.{max, Bool, true, false, cond, ◌&&◌, ◌||◌, ◌≢◌, ◌⊎◌, List, [], ◌∷◌}
pub use Rattle.std.proofs.Common.{◌++◌, map, reverse, length, get_or, take, drop, IfErr}
pub use Rattle.std.proofs.Common.{if◌then◌else◌, IsTrue, nat_lt, nat_le, ◌==◌, slice_range, Some}
pub use Rattle.std.proofs.Common.{None, Ok, Err, codes, MatchBool, All, Contains, Option, Result}
pub use Rattle.std.proofs.Common.{option_map, chars, Global, sym, refl, ap, ◌∙◌, subst, inl, inr}
pub use Rattle.std.proofs.Common.{append_assoc, add-one, arith, length-append, rules, bit_and}
pub use Rattle.std.proofs.Common.{bit_or, is_none, replicate, slice_get, slice_index}
pub use Rattle.std.proofs.Common.{slice_index_or, slice_set, vec_capacity, IfSome, MatchOption}
pub use Rattle.std.proofs.Common.{IsCharBoundary, length-drop}
pub use Rattle.std.proofs.Math.Bool.{or-false}
pub use Rattle.std.proofs.lemmas.Bool.{and_from, and_parts, both_ways, eqb-false, eqb-true}
pub use Rattle.std.proofs.lemmas.Bool.{false≢true, le-leb, leb-true, ne_eqb, not-true}
pub use Rattle.std.proofs.lemmas.Bool.{not_from_false, or_cases, or_left, or_parts, or_right}
pub use Rattle.std.proofs.lemmas.Bool.{cases_eq, cases_lt}
pub use Rattle.std.proofs.lemmas.Bool.Decides.{nat_tests}
pub use Rattle.std.proofs.lemmas.List.{append-nil, drop_all, drop_more, get_or-drop, take_all}
pub use Rattle.std.proofs.lemmas.List.{get_or-set_other, get_or-set_same}
pub use Rattle.std.proofs.lemmas.List.Folds.{drop_split, list_all-append}
pub use Rattle.std.proofs.lemmas.List.Sums.{AllPass-from_list_all, fold-append}
pub use Rattle.std.proofs.lemmas.List.Sums.{list_all-from_AllPass}
pub use Rattle.std.proofs.lemmas.Option.{slice_get-get_or}
pub use Rattle.std.proofs.lemmas.Result.{IfErr-weaker, IfOk-weaker}
pub use Rattle.std.proofs.lemmas.Str.{chars_from_encodes}
pub use Rattle.std.specs.Int.{bit_at}
pub use Rattle.std.specs.List.{AllPass, list_all, list_any, range_with_len}
pub use Rattle.std.specs.Option.{option_or}
pub use Rattle.std.specs.declared.rc.RcStr.{RcStr}
pub use Rattle.regex_lite_syntax.specs.AsciiMaps.{bit_of_words}
pub use Rattle.regex_lite_syntax.specs.Characters.{is_character, AreCharacters, is_one_of}
pub use Rattle.regex_lite_syntax.specs.Characters.{is_white_space, is_lower, is_letter, is_digit}
pub use Rattle.regex_lite_syntax.specs.Characters.{is_hex_digit, digit_value, number_of}
pub use Rattle.regex_lite_syntax.specs.CutShort.{is_cut_short}
pub use Rattle.regex_lite_syntax.specs.Errors.{Refusal, syntax_error, too_deep, too_many_groups}
pub use Rattle.regex_lite_syntax.specs.Errors.{passed_limit, out_of_memory, refused_replacement}
pub use Rattle.regex_lite_syntax.specs.Errors.{kind_of}
pub use Rattle.regex_lite_syntax.specs.FaultPlaces.{IsReadTo, BeginsNone, BeginsSome}
pub use Rattle.regex_lite_syntax.specs.Grammar.{group, Branch, nothing, item, directive}
pub use Rattle.regex_lite_syntax.specs.Grammar.{Alternatives, only, Grammar, HasTree}
pub use Rattle.regex_lite_syntax.specs.Grammar.Atoms.{is_literal, AtomKind, single, escape}
pub use Rattle.regex_lite_syntax.specs.Grammar.Atoms.{bracketed, no_atom, atom_kind, IsClassOf}
pub use Rattle.regex_lite_syntax.specs.Grammar.Atoms.{PrimitiveTree, AtomFrom, Atom}
pub use Rattle.regex_lite_syntax.specs.Grammar.Classes.{ClassElement, RangeFollows, BeginsItem}
pub use Rattle.regex_lite_syntax.specs.Grammar.Classes.{NamedClass, ClassItem, named_class}
pub use Rattle.regex_lite_syntax.specs.Grammar.Classes.{escaped_set, range, Takes, takes, leaves}
pub use Rattle.regex_lite_syntax.specs.Grammar.Classes.{Dashes, FirstBracket, ClassOpening}
pub use Rattle.regex_lite_syntax.specs.Grammar.Classes.{ClassItems, only_if, class_set}
pub use Rattle.regex_lite_syntax.specs.Grammar.Classes.{BracketedClass}
pub use Rattle.regex_lite_syntax.specs.Grammar.Counted.{WhiteSpace, Side, WholeSide, Number}
pub use Rattle.regex_lite_syntax.specs.Grammar.Counted.{EndsNumber, Limit, Counted, exactly}
pub use Rattle.regex_lite_syntax.specs.Grammar.Counted.{at_least, between}
pub use Rattle.regex_lite_syntax.specs.Grammar.Escapes.{one, some_of, look_at, EscapeKind, gives}
pub use Rattle.regex_lite_syntax.specs.Grammar.Escapes.{word_boundary, hexadecimal, refused}
pub use Rattle.regex_lite_syntax.specs.Grammar.Escapes.{escape_kind, FixedDigits, BracedDigits}
pub use Rattle.regex_lite_syntax.specs.Grammar.Escapes.{Hexadecimal, fixed, braced}
pub use Rattle.regex_lite_syntax.specs.Grammar.Escapes.{is_boundary_character, boundary_named}
pub use Rattle.regex_lite_syntax.specs.Grammar.Escapes.{BoundaryName, WordBoundary, alone}
pub use Rattle.regex_lite_syntax.specs.Grammar.Escapes.{before_count, EscapeFrom, Escape}
pub use Rattle.regex_lite_syntax.specs.Grammar.FlagLetters.{is_flag_letter, with_flags, all_differ}
pub use Rattle.regex_lite_syntax.specs.Grammar.FlagLetters.{FlagLetters, setting, clearing}
pub use Rattle.regex_lite_syntax.specs.Grammar.Gaps.{Spacing, no_more, Gap, EndsGap, WholeGap}
pub use Rattle.regex_lite_syntax.specs.Grammar.Gaps.{Spaced}
pub use Rattle.regex_lite_syntax.specs.Grammar.GroupNames.{is_no_end, NameWritten, NameOpening}
pub use Rattle.regex_lite_syntax.specs.Grammar.GroupNames.{with_p, without_p, Named, NamesDiffer}
pub use Rattle.regex_lite_syntax.specs.Grammar.Heads.{GroupKind, non_capturing, capturing}
pub use Rattle.regex_lite_syntax.specs.Grammar.Heads.{group_tree, numbered_on, named_on, inside}
pub use Rattle.regex_lite_syntax.specs.Grammar.Heads.{Head, numbered, plain, Directive, sets}
pub use Rattle.regex_lite_syntax.specs.Grammar.Operators.{times, greed, Operator, uncounted}
pub use Rattle.regex_lite_syntax.specs.Grammar.Operators.{uncounted_lazy, counted, counted_lazy}
pub use Rattle.regex_lite_syntax.specs.Grammar.Points.{Point, onward, PastGap, start}
pub use Rattle.regex_lite_syntax.specs.Limits.{depth}
pub use Rattle.regex_lite_syntax.specs.NamedSets.{SetName, members, set_named, word}
pub use Rattle.regex_lite_syntax.specs.Parser.BoundaryNames.{EndsInName}
pub use Rattle.regex_lite_syntax.specs.Parser.ClassReadings.{IsElement, element_set, RangeTo}
pub use Rattle.regex_lite_syntax.specs.Parser.ClassReadings.{EndsOpen, at_once, past_dash, Lacks}
pub use Rattle.regex_lite_syntax.specs.Parser.ClassReadings.{is_beginning}
pub use Rattle.regex_lite_syntax.specs.Parser.FaultEnds.{GoesOnFrom}
pub use Rattle.regex_lite_syntax.specs.Parser.FlagRuns.{EndedFlags, EndsRun, LetterRun}
pub use Rattle.regex_lite_syntax.specs.Parser.FurtherDigits.{number_on, ReachesNumber}
pub use Rattle.regex_lite_syntax.specs.Parser.Machine.{Frame, State, first_state, ended, Kind, stop}
pub use Rattle.regex_lite_syntax.specs.Parser.Machine.{kind_at, Does, Step, LeadsOn, stay, go, bar}
pub use Rattle.regex_lite_syntax.specs.Parser.Machine.{closing, paren}
pub use Rattle.regex_lite_syntax.specs.Parser.NameOpenings.{EndsInOpening}
pub use Rattle.regex_lite_syntax.specs.Parser.Numbers.{GrowsTo, as_it_is, Becomes}
pub use Rattle.regex_lite_syntax.specs.Parser.RangeEnds.{start_of}
pub use Rattle.regex_lite_syntax.specs.Parser.Readings.{ReachesTo, IsNotBelow}
pub use Rattle.regex_lite_syntax.specs.Parser.SetNames.{name_of}
pub use Rattle.regex_lite_syntax.specs.Parser.States.{frame_of, StepsTo, CanRead, CanReadOn}
pub use Rattle.regex_lite_syntax.specs.Parser.States.{BeginsCapture, BeginsTooMany}
pub use Rattle.regex_lite_syntax.specs.Prefilter.Bytes.{StandsBelow, is_among}
pub use Rattle.regex_lite_syntax.specs.Prefilter.PrefixSets.{Reads, ReadsEach}
pub use Rattle.regex_lite_syntax.specs.Prefilter.Shifts.{IsLinked, NeverPasses}
pub use Rattle.regex_lite_syntax.specs.Prefilter.PrefixIndex.{AreEachPrefixSetsOf, IsIndexOf}
pub use Rattle.regex_lite_syntax.specs.Prefilter.PrefixIndex.{may_start}
pub use Rattle.regex_lite_syntax.specs.Prefilter.Pairs.{begins_with_pair, has_pair, in_set}
pub use Rattle.regex_lite_syntax.specs.Prefilter.Rows.{belongs, column, first_row, goes_on_with}
pub use Rattle.regex_lite_syntax.specs.Prefilter.Rows.{has, is_in_column, second_row, set_from}
pub use Rattle.regex_lite_syntax.specs.Prefilter.Rows.{start_row}
pub use Rattle.regex_lite_syntax.specs.Prefilter.FirstSet.{BeginsOrPasses, IsUnionOf, IsWider}
pub use Rattle.regex_lite_syntax.specs.Prefilter.FirstSet.{MayBegin, begins_with, may_begin}
pub use Rattle.regex_lite_syntax.specs.Prefilter.ThirdMasks.{in_mask}
pub use Rattle.regex_lite_syntax.specs.Prefilter.Words.{IsLetter, NoneStands}
pub use Rattle.regex_lite_syntax.specs.Prefilter.Words.{StartsWith, word_at}
pub use Rattle.regex_lite_syntax.specs.Ranges.{in_ranges, next_character, AreRuns, AreRunsOf}
pub use Rattle.regex_lite_syntax.specs.Refusals.{NoReading, Refuses, Denies, Completable}
pub use Rattle.regex_lite_syntax.specs.Refusals.{IfCutShort}
pub use Rattle.regex_lite_syntax.specs.Sets.{Set, just, span, union, complement, case_closure}
pub use Rattle.regex_lite_syntax.specs.Text.{Text, Begins, is_text, the, after}
pub use Rattle.regex_lite_syntax.specs.Tree.{Tree, class, look, repetition, concat, alternation}
pub use Rattle.regex_lite_syntax.specs.Tree.{Trees, more, trees, sequence_of, choice_of, repeated}
pub use Rattle.regex_lite_syntax.specs.Tree.Matches.{Chain, Matches, SomeBranch}
pub use Rattle.regex_lite_syntax.specs.Tree.NameTables.{name_at, AddsNames}
pub use Rattle.regex_lite_syntax.specs.Tree.Properties.{group_name, group_name_in}
pub use Rattle.regex_lite_syntax.specs.Tree.Regular.{IsRegular}
pub use Rattle.regex_lite_syntax.specs.Tree.Views.{text_of_name, tree_of}
pub use Rattle.regex_lite_syntax.specs.declared.class.ClassRange.{ClassRange}
pub use Rattle.regex_lite_syntax.specs.declared.error.syntax.SyntaxFault.{SyntaxFault}
pub use Rattle.regex_lite_syntax.specs.declared.flags.Flags.{Flags}
pub use Rattle.regex_lite_syntax.specs.declared.hir.Hir.{Hir}
pub use Rattle.regex_lite_syntax.specs.declared.hir.look.Look.{Look}
pub use Rattle.regex_lite_syntax.specs.declared.parse.Parser.{Parser}
pub use Rattle.regex_lite_syntax.specs.declared.parse.bracket.item.Element.{Element}
pub use Rattle.regex_lite_syntax.specs.declared.parse.fault.Stop.{Stop}
pub use Rattle.regex_lite_syntax.specs.declared.prefilter.prefixes.PrefixSets.{PrefixSets}
pub use Rattle.regex_lite_syntax.specs.declared.prefilter.prefix_index.PrefixIndex.{PrefixIndex}
pub use Rattle.regex_lite_syntax.specs.declared.prefilter.first_set.FirstSet.{FirstSet}
pub use Rattle.regex_lite_syntax.specs.declared.prefilter.words.letter.Letter.{Letter}
