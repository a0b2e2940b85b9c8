use Rattle.regex_lite_syntax.proofs.Common.{◌≡◌, ◌<◌, ◌∙◌, rules, subst}
use Rattle.regex_lite_syntax.specs.Prefilter.NeededWalk.{FindsBytes}
use Rattle.regex_lite_syntax.proofs.prefilter.words.NeededRowLemmas.{ascii_found, byte_found}
use Rattle.regex_lite_syntax.proofs.prefilter.words.NeededRowLemmas.{bytes_found, none_first}
use Rattle.regex_lite_syntax.proofs.prefilter.words.needed_walk.NeededWalk.push_char.Goals as goal

pub bytes-init : goal.bytes-init
bytes-init c = none_first c.as_bytes-bytes.result.now c.args.self.now

pub bytes-preserved : goal.bytes-preserved
bytes-preserved c =
    byte_found c.as_bytes-bytes.result.now c.bytes.k c.exact-in-bytes.result c.args.self.now
    c.bytes.self c.push-in-bytes.new.self c.bytes-test.true c.exact-in-bytes.ensures.byte
    c.bytes.invariant c.push-in-bytes.ensures

pub returns : goal.returns
returns c =
    subst (λ read. FindsBytes read c.args.self.now c.bytes.self)
    (c.as_bytes-bytes.ensures.value ∙ c.encode_utf8-text.ensures.value)
    (bytes_found c.as_bytes-bytes.result.now c.bytes.k c.args.self.now c.bytes.self
    c.bytes-test.false c.bytes.invariant)

pub returns-then-is_ascii : goal.returns-then-is_ascii
returns-then-is_ascii c =
    let low : c.args.c < 128 = search rules in
    let own : c.exact.result.byte ≡ c.args.c = search rules in
    ascii_found c.args.c c.exact.result c.args.self.now c.push.new.self low own c.push.ensures
