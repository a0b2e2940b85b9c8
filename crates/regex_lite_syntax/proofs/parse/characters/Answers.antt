use Rattle.regex_lite_syntax.proofs.Common.{rules, chars_from_encodes}
use Rattle.regex_lite_syntax.proofs.parse.characters.Goals as goal

pub returns : goal.returns
returns c = search (rules, chars_from_encodes)
