use Rattle.regex_lite_syntax.proofs.Common.{◌∙◌}
use Rattle.regex_lite_syntax.proofs.CharacterLemmas.{chars_are}
use Rattle.regex_lite_syntax.proofs.hir.Hir.parse.Goals as goal

pub parse_chars-requires : goal.parse_chars-requires
parse_chars-requires c =
    rw (c.deref.ensures.value ∙ c.in_ok-chars.ensures) (chars_are c.args.pattern.now c.utf8.pattern)
