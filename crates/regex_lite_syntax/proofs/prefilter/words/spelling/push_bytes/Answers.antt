use Rattle.regex_lite_syntax.proofs.Common.{◌∙◌, [], subst, take_all}
use Rattle.regex_lite_syntax.specs.Prefilter.Spelling.{AddsBytes}
use Rattle.regex_lite_syntax.specs.Prefilter.WholeWords.{AreBytes}
use Rattle.regex_lite_syntax.proofs.prefilter.words.SpellingLemmas.{byte_more, none_added}
use Rattle.regex_lite_syntax.proofs.prefilter.words.spelling.push_bytes.Goals as goal

pub bytes-init : goal.bytes-init
bytes-init c = none_added (AreBytes []) c.args.list.now tt

pub bytes-preserved : goal.bytes-preserved
bytes-preserved c =
    byte_more c.as_bytes-bytes.result.now c.bytes.k c.exact.result c.args.list.now c.bytes.list
    c.push.new.self c.bytes-test.true c.exact.ensures.byte c.exact.ensures.other c.bytes.invariant
    c.in_ok-push.ensures

pub returns : goal.returns
returns c =
    subst (λ some. AddsBytes some c.args.list.now c.bytes.list)
    (take_all c.bytes.k c.as_bytes-bytes.result.now c.bytes-test.false
    ∙ c.as_bytes-bytes.ensures.value ∙ c.encode_utf8-text.ensures.value)
    c.bytes.invariant
