use Rattle.regex_lite_syntax.proofs.Common.{◌≡◌, ◌+◌, length, option_map, ap, ◌∙◌, arith, capturing}
use Rattle.regex_lite_syntax.proofs.Common.{inside, text_of_name}
use Rattle.regex_lite_syntax.specs.Parser.Machine.{opened}
use Rattle.regex_lite_syntax.specs.Parser.States.{state}
use Rattle.regex_lite_syntax.proofs.parse.Parser.open_capture.Goals as goal

pub returns-clause-ok : goal.returns-clause-ok
unfolding state opened
returns-clause-ok c t u d =
    let s = state c.args.self.now t d in
    let into = inside (length s.frames) s.point s.point.flags u in
    let name = option_map text_of_name c.args.name in
    let index : c.in-Some.index ≡ c.args.self.now.groups + 1 = omega (arith, c.in-Some.ensures) in
    c.in_ok-open.ensures t u d
    ∙ ap (λ n. opened s s.point (record into { groups = n }) (capturing n name)) index
