use Rattle.regex_lite_syntax.proofs.LetterCaseLemmas.{letter_class}
use Rattle.regex_lite_syntax.proofs.parse.atom.both_cases.Goals as goal

pub returns : goal.returns
returns c =
    let upper = c.to_ascii_uppercase.ensures.value in
    let lower = c.to_ascii_lowercase.ensures.value in
    let items = c.in_ok-ranges.ensures.items in
    rw (c.of_runs.ensures, items, c.only-upper.ensures, c.only-lower.ensures, upper, lower)
    (letter_class c.args.letter c.requires)
