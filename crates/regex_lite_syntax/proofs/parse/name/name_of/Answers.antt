use Rattle.regex_lite_syntax.proofs.Common.{Ok, chars, ap, ◌∙◌, IfOk-weaker}
use Rattle.std.specs.declared.alloc.AllocError.{AllocError}
use Rattle.std.proofs.lemmas.Iterator.{YieldsList-from_slice, text_from_collect}
use Rattle.std.proofs.lemmas.Iterator.Consumers.{YieldsList-from_copied}
use Rattle.regex_lite_syntax.proofs.parse.name.StringLemmas.{chars_of_made}
use Rattle.regex_lite_syntax.proofs.parse.name.name_of.Goals as goal

pub returns : goal.returns
returns c =
    let letters = c.args.letters.now in
    let text = c.in_ok-text.text in
    let bytes =
    text_from_collect {E = AllocError} {s = c.copied.result} (Ok text) c.in_ok-text.ensures.ran
    (YieldsList-from_copied (YieldsList-from_slice letters (cc))) in
    IfOk-weaker c.from_string.result _ _
    (λ name same. ap chars same ∙ chars_of_made text letters bytes) c.from_string.ensures.ok
