use Rattle.regex_lite_syntax.proofs.Common.{take, MatchBool, sym, subst, arith, take_all}
use Rattle.regex_lite_syntax.proofs.Common.{IfOk-weaker, BeginsNone, BeginsSome}
use Rattle.regex_lite_syntax.specs.FaultPlaces.{IsEndOfFault}
use Rattle.regex_lite_syntax.specs.Parser.FaultEnds.{IsEndAbove}
use Rattle.regex_lite_syntax.proofs.CharacterLemmas.{first_are}
use Rattle.regex_lite_syntax.proofs.machine.FaultEndLemmas.{end_of_fault}
use Rattle.regex_lite_syntax.proofs.parse.fault.end_of_fault.Goals as goal
use Rattle.regex_lite_syntax.proofs.parse.fault.end_of_fault.Goals.{
  then-high-chars-via-then-high-chars,
  then-high-chars-via-else-high-chars+in_ok-begins_none+then-branch,
}

pub begins_none-requires : goal.begins_none-requires
begins_none-requires c = first_are _ _ c.requires.characters

pub least_refused-requires-clause-none : goal.least_refused-requires-clause-none
least_refused-requires-clause-none c =
    elim c.then-high-chars.branch [
      | then-high-chars-via-then-high-chars w ↦
          subst (λ t. BeginsNone c.args.flags t)
          (sym (take_all c.min-high.result c.args.chars.now (omega (arith, w.if-high-chars.true))))
          c.requires.none
      | then-high-chars-via-else-high-chars+in_ok-begins_none+then-branch w ↦
          subst
          (λ b. MatchBool b (BeginsNone c.args.flags (take c.min-high.result c.args.chars.now))
          (BeginsSome c.args.flags (take c.min-high.result c.args.chars.now)))
          w.if-branch.true w.in_ok-begins_none.ensures.reported
    ]

pub returns-then-high-chars-clause-end : goal.returns-then-high-chars-clause-end
returns-then-high-chars-clause-end c =
    let flags = c.args.flags in
    let xs = c.args.chars.now in
    let low = c.loop-alloc.low in
    let high = c.min-high.result in
    IfOk-weaker c.least_refused.result (IsEndAbove flags xs low high)
    (IsEndOfFault flags xs c.args.start) (λ end is.
    end_of_fault flags xs c.args.start low high end c.loop-alloc.invariant.inside.0
    (omega (arith, c.min-high.ensures)) c.loop-alloc.invariant.goes_on is)
    c.least_refused.ensures.end
