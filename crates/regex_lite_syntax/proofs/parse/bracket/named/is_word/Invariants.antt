use Rattle.regex_lite_syntax.proofs.Common.{◌≡◌, drop, is_text}
use Rattle.regex_lite_syntax.proofs.parse.bracket.named.is_word.Given as goal

abbrev pub invariant-loop-i : goal.invariant-loop-i
invariant-loop-i l = is_text (drop l.i l.chars) (drop l.i l.word) ≡ is_text l.chars l.word
