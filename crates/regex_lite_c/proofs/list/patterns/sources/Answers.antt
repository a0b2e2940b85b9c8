use Rattle.regex_lite_c.proofs.Common.{◌≡◌, length, get_or, IsUtf8, refl, ap, ◌∙◌, subst, arith}
use Rattle.regex_lite_c.proofs.Common.{settings_of_all, IsFirstOtherBytes, settings_of}
use Rattle.std.proofs.Common.{not}
use Rattle.regex_lite_c.proofs.list.ListBuildLemmas.{cut_more, first_other, length_all}
use Rattle.regex_lite_c.proofs.list.ListBuildLemmas.{no_pattern, refused_for_memory}
use Rattle.regex_lite_c.proofs.list.patterns.sources.Goals as goal

pub returns-in_default-clause-refused : goal.returns-in_default-clause-refused
returns-in_default-clause-refused c =
    refused_for_memory (settings_of_all c.args.bytes.now c.args.patterns.now) _ c.memory.result
    (length_all c.args.bytes.now c.args.patterns.now) c.memory.ensures

pub returns-then-is_err-clause-refused : goal.returns-then-is_err-clause-refused
returns-then-is_err-clause-refused c =
    refused_for_memory (settings_of_all c.args.bytes.now c.args.patterns.now) _
    c.memory-then-is_err.result
    (length_all c.args.bytes.now c.args.patterns.now) c.memory-then-is_err.ensures

pub returns-in_default-from_utf8-clause-refused : goal.returns-in_default-from_utf8-clause-refused
returns-in_default-from_utf8-clause-refused c =
    let patterns = c.args.patterns.now in
    let k = c.loop-pattern.pattern-index in
    let own = get_or patterns k no_pattern in
    let sources = c.loop-pattern.sources in
    let many : length sources.items ≡ c.len.result = omega (arith, c.len.ensures, sources.ok.0) in
    subst (IsFirstOtherBytes (settings_of_all c.args.bytes.now patterns)) many
    (first_other c.args.bytes.now patterns c.loop-pattern.rest.now k c.loop-pattern.sources.items
    own c.loop-pattern.invariant c.loop-pattern-test.true refl
    (subst (λ bytes. IsUtf8 bytes → ⊥) c.split_at.ensures.front
    c.in_default-from_utf8.ensures.cases.0))

pub loop-pattern-preserved : goal.loop-pattern-preserved
loop-pattern-preserved c =
    let patterns = c.args.patterns.now in
    let k = c.loop-pattern.pattern-index in
    let own = get_or patterns k no_pattern in
    let text = c.in-Ok-from_utf8.ensures.cases in
    let front = c.split_at.ensures.front in
    let pushed = c.is_err.ensures.negation ∙ ap not c.if-is_err.false in
    cut_more c.args.bytes.now patterns c.loop-pattern.rest.now c.split_at.result.1.now k
    c.loop-pattern.sources.items c.push.new.self.items own _
    c.loop-pattern.invariant c.loop-pattern-test.true refl
    (ap (λ bytes. settings_of bytes own.options) (text.0 ∙ front))
    (subst IsUtf8 front text.1) c.split_at.ensures.back c.split_at.ensures.back_len
    (rw pushed at c.push.ensures.items)
