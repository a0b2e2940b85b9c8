use Rattle.regex_lite_syntax.proofs.Common.{◌+◌, ◌∷◌, drop, ap, ◌∙◌, arith}
use Rattle.regex_lite_syntax.proofs.parse.IndexLemmas.{drop_char}
use Rattle.regex_lite_syntax.proofs.machine.ReadStepLemmas.{reads_bar}
use Rattle.regex_lite_syntax.proofs.parse.Parser.step.Goals as goal

pub returns-in_ok-end_branch-in-124-clause-ok : goal.returns-in_ok-end_branch-in-124-clause-ok
returns-in_ok-end_branch-in-124-clause-ok c =
    let xs = c.args.chars.now in
    let i = c.args.at in
    let e = drop_char xs i _ c.requires.inside c.index-chars-at.is in
    let bar = e ∙ ap (λ x. x ∷ drop (i + 1) xs) c.in-124.is in
    record {
      further = omega arith;
      in_pattern = omega (arith, c.requires.inside);
      reads = reads_bar c.args.self.now c.end_branch.new.self (drop i xs) (drop (i + 1) xs) bar
          c.in_ok-end_branch-in-124.ensures;
    }
