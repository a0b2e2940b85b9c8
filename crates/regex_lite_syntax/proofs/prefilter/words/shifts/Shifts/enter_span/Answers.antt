use Rattle.regex_lite_syntax.proofs.Common.{ℕ, ◌≤◌, ◌<◌, MatchOption, NoneStands}
use Rattle.regex_lite_syntax.proofs.Common.{IfSome, arith, subst, sym}
use Rattle.regex_lite_syntax.specs.Prefilter.Finders.{IsSharedBy}
use Rattle.regex_lite_syntax.specs.Prefilter.Words.{AnyStandsAt}
use Rattle.regex_lite_syntax.proofs.prefilter.words.ShiftLemmas.{at_end}
use Rattle.regex_lite_syntax.proofs.prefilter.words.NextLemmas.{none_at_first}
use Rattle.regex_lite_syntax.proofs.prefilter.words.shifts.Shifts.enter_span.Goals as goal
use Rattle.regex_lite_syntax.proofs.prefilter.words.shifts.Shifts.enter_span.Goals.{
  then-at-from,
  else-at-from,
}

pub returns-then-from-room-clause-entered : goal.returns-then-from-room-clause-entered
returns-then-from-room-clause-entered c = λ words are.
    let bytes = c.args.bytes.now in
    let two = are.two in
    at_end words bytes c.args.self.now.reach c.args.from c.args.from are.long c.requires.from
    (omega (arith, two, c.if-from-room.true, c.room_in-room.ensures))
    (none_at_first words bytes c.args.from)

pub returns-in_err-start-clause-entered : goal.returns-in_err-start-clause-entered
returns-in_err-start-clause-entered c = λ words are.
    let bytes = c.args.bytes.now in
    let from = c.args.from in
    let shared = subst (λ reported. IfSome reported (IsSharedBy words)) c.in-Some.is are.shared in
    subst (λ reported. MatchOption reported ((at : ℕ) → from ≤ at → ¬ AnyStandsAt words bytes at)
    (λ at. (from ≤ at) × NoneStands words bytes from at × (at < c.args.span.now.end)))
    (sym c.from_residual.ensures) (c.in_err-start.ensures words shared)

pub returns-then-start-room-clause-entered : goal.returns-then-start-room-clause-entered
returns-then-start-room-clause-entered c = λ words are.
    let bytes = c.args.bytes.now in
    let shared = subst (λ reported. IfSome reported (IsSharedBy words)) c.in-Some.is are.shared in
    let (low, none, order, inside) = c.in_ok-start.ensures words shared in
    let two = are.two in
    at_end words bytes c.args.self.now.reach c.args.from c.in_ok-start.start are.long
    (omega (arith, order, inside))
    (omega (arith, two, c.if-start-room.true, c.room_in-room.ensures)) none

pub returns-clause-entered : goal.returns-clause-entered
returns-clause-entered c = λ words are.
    let shared = subst (λ reported. IfSome reported (IsSharedBy words)) c.in-Some.is are.shared in
    let (low, none, order, inside) = c.in_ok-start.ensures words shared in (
      low,
      none,
      elim c.if-at-from.branch [
        | then-at-from w ↦ omega (
          arith,
          order,
          inside,
          w.if-at-from.true,
          w.span-is,
          w.saturating_mul-span.ensures,
          c.saturating_add.ensures,
          c.min-span.ensures,
          c.if-start-room.false,
        )
        | else-at-from w ↦ omega (
          arith,
          order,
          inside,
          w.span-is,
          c.saturating_add.ensures,
          c.min-span.ensures,
          c.if-start-room.false,
        )
      ],
    )
