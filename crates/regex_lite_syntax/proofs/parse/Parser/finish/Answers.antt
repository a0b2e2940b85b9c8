use Rattle.regex_lite_syntax.proofs.Common.{map, reverse, sym, ap, ◌∙◌, both_ways, eqb-true}
use Rattle.regex_lite_syntax.proofs.Common.{frame_of, tree_of}
use Rattle.regex_lite_syntax.specs.Parser.States.{state}
use Rattle.regex_lite_syntax.proofs.machine.StateLemmas.{none_left}
use Rattle.regex_lite_syntax.proofs.parse.Parser.finish.Goals as goal

pub returns-clause-ok : goal.returns-clause-ok
unfolding state
returns-clause-ok c =
    let below = c.args.self.below in
    let none = none_left below.items
    (sym below.ok.0 ∙ eqb-true _ 0 (sym c.is_empty.ensures ∙ c.if-not-is_empty.false)) in (
      λ t d. (ap (λ groups. reverse (map frame_of groups)) none, c.in_ok-hir.ensures),
      λ deep. both_ways _ c.if-is_deeper_than.false (c.is_deeper_than.ensures.1 deep),
    )

pub returns-then-is_deeper_than-clause-refused : goal.returns-then-is_deeper_than-clause-refused
unfolding state
returns-then-is_deeper_than-clause-refused c =
    let below = c.args.self.below in
    let none = none_left below.items
    (sym below.ok.0 ∙ eqb-true _ 0 (sym c.is_empty.ensures ∙ c.if-not-is_empty.false)) in
    rw c.nesting.ensures (
      tree_of c.in_ok-hir.hir,
      (λ t d. (ap (λ groups. reverse (map frame_of groups)) none, c.in_ok-hir.ensures)),
      c.is_deeper_than.ensures.0 c.if-is_deeper_than.true,
    )
