use Rattle.regex_lite_syntax.proofs.Common.{◌∷◌, [], arith}
use Rattle.regex_lite_syntax.proofs.prefilter.words.NextLemmas.{next_to_limit, none_at_first}
use Rattle.regex_lite_syntax.proofs.prefilter.words.NextLemmas.{none_past_end}
use Rattle.regex_lite_syntax.proofs.prefilter.words.pair.Pair.find_below.Goals as goal

pub returns-then-bytes-from-clause-next : goal.returns-then-bytes-from-clause-next
returns-then-bytes-from-clause-next c = λ at low high.
    none_past_end c.args.word.now c.args.bytes.now c.args.from c.args.from c.if-bytes-from.true
    (none_at_first (c.args.word.now ∷ []) c.args.bytes.now c.args.from) at low

pub returns-then-end-from-ge-BLOCK-clause-next : goal.returns-then-end-from-ge-BLOCK-clause-next
returns-then-end-from-ge-BLOCK-clause-next c =
    let found = c.find_in_blocks in
    next_to_limit c.args.word.now c.args.bytes.now c.args.from c.args.limit c.min-end.result
    found.result (omega arith) (omega arith) c.min-end.ensures found.ensures.next

pub returns-else-end-from-ge-BLOCK-clause-next : goal.returns-else-end-from-ge-BLOCK-clause-next
returns-else-end-from-ge-BLOCK-clause-next c =
    let found = c.find_in_blocks-else-end-from-ge-BLOCK in
    next_to_limit c.args.word.now c.args.bytes.now c.args.from c.args.limit c.min-end.result
    found.result (omega arith) (omega arith) c.min-end.ensures found.ensures.next
