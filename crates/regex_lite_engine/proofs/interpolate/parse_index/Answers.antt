use Rattle.regex_lite_engine.proofs.Common.{◌≡◌, ◌+◌, ◌^◌, ◌<◌, ◌≤◌, true, length, get_or, ap, ◌∙◌}
use Rattle.regex_lite_engine.proofs.Common.{arith, rules, take_all, is_digit, number_of}
use Rattle.regex_lite_engine.proofs.interpolate.IndexLemmas.{number_of_first}
use Rattle.regex_lite_engine.proofs.interpolate.IndexLemmas.{number_of_one_more, value_of_digit}
use Rattle.regex_lite_engine.proofs.interpolate.IndexLemmas.{too_large, digits_are_index}
use Rattle.std.proofs.lemmas.Grind.{common_steps}
use Rattle.regex_lite_engine.proofs.interpolate.parse_index.Goals as goal

pub returns-in_err-index : goal.returns-in_err-index
returns-in_err-index c =
    let name = c.args.name.now in
    let i = c.loop-byte.byte-index in
    let more = rw c.in_err-index.was at c.with_digit.ensures in
    let digit : is_digit (get_or name i 0) ≡ true = search rules in
    let large : 2 ^ 64 ≤ number_of 10 name =
    omega (
      arith,
      more,
      c.loop-byte.invariant.number,
      value_of_digit (get_or name i 0) digit,
      number_of_first name (i + 1),
      number_of_one_more name i c.loop-byte-test.true,
    ) in
    c.from_residual.ensures ∙ too_large name large

pub returns : goal.returns
returns c =
    let name = c.args.name.now in
    let some : 0 < length name = search rules in
    let number : c.loop-byte.index ≡ number_of 10 name =
    c.loop-byte.invariant.number
    ∙ ap (number_of 10) (take_all c.loop-byte.byte-index name c.loop-byte-test.false) in
    digits_are_index name c.loop-byte.index some
    (λ k l. c.loop-byte.invariant.digits k (omega (arith, l, c.loop-byte-test.false))) number
    c.loop-byte.invariant.fits

-- The goals from here on need no lemma of their own. They have answers because the prover would
-- try other calls first, which takes long
pub returns-then-not-is_ascii_digit : goal.returns-then-not-is_ascii_digit
returns-then-not-is_ascii_digit c = grind (arith, common_steps)

pub loop-byte-preserved : goal.loop-byte-preserved
loop-byte-preserved c = grind (arith, common_steps)
