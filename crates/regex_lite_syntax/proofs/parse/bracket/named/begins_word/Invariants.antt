use Rattle.regex_lite_syntax.proofs.Common.{◌≡◌, drop, is_beginning}
use Rattle.regex_lite_syntax.proofs.parse.bracket.named.begins_word.Given as goal

abbrev pub invariant-loop-i : goal.invariant-loop-i
invariant-loop-i l =
    is_beginning (drop l.i l.chars) (drop l.i l.word) ≡ is_beginning l.chars l.word
