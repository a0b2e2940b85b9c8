use Rattle.regex_lite_syntax.proofs.Common.{drop, refl, subst, inl, inr, arith, le-leb, leb-true}
use Rattle.regex_lite_syntax.proofs.Common.{Gap}
use Rattle.regex_lite_syntax.proofs.grammar.MoreDigitsLemmas.{grows_where, stays_where}
use Rattle.regex_lite_syntax.proofs.grammar.GapLemmas.{gap_to_end}
use Rattle.regex_lite_syntax.proofs.parse.IndexLemmas.{left_at_end, some_at}
use Rattle.regex_lite_syntax.proofs.parse.counted.can_become.Goals as goal

pub returns-then-skip_gap-chars : goal.returns-then-skip_gap-chars
returns-then-skip_gap-chars c =
    let xs = c.args.chars.now in
    let none = left_at_end xs c.skip_gap.result c.if-skip_gap-chars.true in
    let gap = subst (λ u. Gap c.args.verbose (drop c.args.past_digits xs) u) none
    c.skip_gap.ensures.gap.0 in (
      λ can.
          let grown = c.can_grow.ensures.0 can in (grown.0, inr (gap, grown.1), grown.2, grown.3),
      λ can.
          c.can_grow.ensures.1 (grows_where c.args.verbose _ c.args.number c.args.least can),
    )

pub returns-else-skip_gap-chars : goal.returns-else-skip_gap-chars
returns-else-skip_gap-chars c =
    let whole = c.skip_gap.ensures.gap in
    let left = some_at c.args.chars.now c.skip_gap.result (omega arith) in (
      λ above. (c.args.number, inl refl, leb-true c.args.least c.args.number above, omega arith),
      λ can.
          le-leb c.args.least c.args.number (stays_where c.args.verbose _ c.args.number c.args.least
          (λ gap. left (gap_to_end c.args.verbose _ _ whole gap)) can),
    )
