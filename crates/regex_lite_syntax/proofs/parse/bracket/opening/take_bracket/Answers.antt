use Rattle.regex_lite_syntax.proofs.Common.{sym, ◌∙◌, false≢true}
use Rattle.regex_lite_syntax.proofs.parse.bracket.ClassOpeningLemmas.{bracket_past}
use Rattle.regex_lite_syntax.proofs.parse.bracket.opening.take_bracket.Goals as goal

pub returns-else-dash-clause-takes : goal.returns-else-dash-clause-takes
returns-else-dash-clause-takes c n e =
    bracket_past _ n _ _ c.args.dash _ e (λ h. absurd (false≢true (sym c.if-dash.false ∙ h)))
    (λ _. c.take.ensures.takes)
