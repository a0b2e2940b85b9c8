use Rattle.regex_lite_syntax.proofs.Common.{◌+◌, drop}
use Rattle.regex_lite_syntax.proofs.parse.bracket.opening.read_opening.Goals as goal

pub returns-clause-opens : goal.returns-clause-opens
returns-clause-opens c =
    let xs = c.args.chars.now in
    let dashes = c.take_dashes-past_dashes.ensures.takes in
    record {
      opened = drop (c.args.at + 1) xs;
      first = drop c.skip_gap-first.result xs;
      past_caret = drop c.take-past_caret.result.0 xs;
      past_dashes = drop c.take_dashes-past_dashes.result.0 xs;
      dashes = dashes.0;
      opens = c.requires.begins;
      gap = c.skip_gap-first.ensures.gap;
      negation = c.take-past_caret.ensures.takes;
      dashed = dashes.1;
      has_dash = dashes.2;
      bracketed = c.take_bracket-start.ensures.takes dashes.0 dashes.2;
    }
