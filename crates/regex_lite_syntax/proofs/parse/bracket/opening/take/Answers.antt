use Rattle.regex_lite_syntax.proofs.Common.{◌+◌, drop, refl, takes}
use Rattle.regex_lite_syntax.proofs.parse.bracket.opening.take.Goals as goal

pub returns-then-is_at-clause-takes : goal.returns-then-is_at-clause-takes
returns-then-is_at-clause-takes c =
    takes (drop (c.args.at + 1) c.args.chars.now)
    (c.if-is_at.ensures.there refl).1 c.skip_gap.ensures.gap refl
