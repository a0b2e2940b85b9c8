use Rattle.regex_lite_syntax.proofs.Common.{◌≡◌, ◌+◌, Bool, ◌∷◌, ◌++◌, drop, codes, sym, refl, ap}
use Rattle.regex_lite_syntax.proofs.Common.{subst, IfOk-weaker, BoundaryName, WordBoundary}
use Rattle.regex_lite_syntax.proofs.Common.{before_count, Gap, Text, the, Look}
use Rattle.regex_lite_syntax.specs.declared.error.syntax.SyntaxFault.TheVariants as fault
use Rattle.regex_lite_syntax.specs.declared.error.unexpected_eof.UnexpectedEof.TheVariants as part
use Rattle.regex_lite_syntax.specs.declared.hir.look.Look.TheVariants as looks
use Rattle.regex_lite_syntax.specs.Grammar.Escapes.{named}
use Rattle.regex_lite_syntax.proofs.grammar.LongerGapLemmas.{whole_before}
use Rattle.regex_lite_syntax.proofs.grammar.EscapeLemmas.{no_boundary, name_in_braces, begins_count}
use Rattle.regex_lite_syntax.proofs.parse.DenialLemmas.{none_at_end, none_of_part}
use Rattle.regex_lite_syntax.proofs.parse.CompletionLemmas.{completes_part, completes_of}
use Rattle.regex_lite_syntax.proofs.parse.escape.NameEndLemmas.{ends_at_start, name_completable}
use Rattle.regex_lite_syntax.proofs.parse.escape.boundary.read_word_boundary.Goals as goal

-- the readings that are asked for, up to some place
abbrev Boundary : (verbose : Bool) → Text → Type 0
Boundary verbose t = (rest : Text) × (look : Look) × WordBoundary verbose t rest look

abbrev Name : (verbose : Bool) → Text → Type 0
Name verbose t = (rest : Text) × (look : Look) × BoundaryName verbose t rest look

-- and those up to a given place
abbrev BoundaryTo : (verbose : Bool) → (t rest : Text) → Type 0
BoundaryTo verbose t rest = (look : Look) × WordBoundary verbose t rest look

abbrev NameTo : (verbose : Bool) → (t rest : Text) → Type 0
NameTo verbose t rest = (look : Look) × BoundaryName verbose t rest look

-- a name in braces is such a look
in_braces : (verbose : Bool) (t opened more rest : Text) → t ≡ the "{" ∷ opened
    → NameTo verbose (opened ++ more) rest → BoundaryTo verbose (t ++ more) rest
in_braces verbose t opened more rest opens (look, b) =
    (look, named (opened ++ more) (ap (λ u. u ++ more) opens) b)

pub returns-in-None-clause-refused : goal.returns-in-None-clause-refused
returns-in-None-clause-refused c =
    let opens = c.if-not-is_at.ensures.there refl in
    none_at_end (fault.CutShort part.SpecialWordOrRepetition) (Boundary c.args.verbose) _ refl
    (λ (rest, look, b).
    no_boundary _ _ _ _ rest look opens.1 c.skip_gap-first.ensures.gap c.in-None.ensures b)

pub returns-in-Some-clause-ok : goal.returns-in-Some-clause-ok
returns-in-Some-clause-ok c =
    let opens = c.if-not-is_at.ensures.there refl in
    IfOk-weaker _ _ _ (λ r b. named _ opens.1 b) c.read_name.ensures.ok

pub returns-in-Some-clause-refused : goal.returns-in-Some-clause-refused
returns-in-Some-clause-refused c =
    let opens = c.if-not-is_at.ensures.there refl in
    none_of_part _ (Boundary c.args.verbose) (Name c.args.verbose) _ _ (λ more (rest, look, b). (
      rest,
      look,
      name_in_braces _ _ _ _ _ rest _ look (ap (λ u. u ++ more) opens.1)
          (whole_before more _ _ c.skip_gap-first.ensures.gap c.in-Some.ensures.1) refl
          (sym c.if-is_name_char.ensures) b,
    )) c.read_name.ensures.refused

pub returns-in-Some-2-clause-ok : goal.returns-in-Some-2-clause-ok
returns-in-Some-2-clause-ok c =
    let count = begins_count _ _ _ _ _ c.skip_gap-first.ensures.gap c.in-Some.ensures.1
    (sym c.if-is_name_char.ensures) in
    before_count _ (c.if-not-is_at.ensures.there refl).1 count refl refl

pub returns-in-None-clause-completes : goal.returns-in-None-clause-completes
returns-in-None-clause-completes c short =
    let gap = subst (λ u. Gap c.args.verbose (drop (c.args.at + 1) c.args.chars.now) u)
    c.in-None.ensures c.skip_gap-first.ensures.gap.0 in
    completes_part (NameTo c.args.verbose) (BoundaryTo c.args.verbose) _ _
    (λ more rest. in_braces _ _ _ more rest (c.if-not-is_at.ensures.there refl).1)
    (name_completable _ (codes "start") _ looks.WordStart refl refl (ends_at_start _ _ _ gap))

pub returns-in-Some-clause-completes : goal.returns-in-Some-clause-completes
returns-in-Some-clause-completes c =
    let opens = c.if-not-is_at.ensures.there refl in
    completes_of _ (NameTo c.args.verbose) (BoundaryTo c.args.verbose) _ _
    (λ more rest. in_braces _ _ _ more rest opens.1) c.read_name.ensures.completes
