use Rattle.regex_lite_c.proofs.Common.{◌≡◌, arith}
use Rattle.regex_lite_c.specs.declared.answer.TheConstants.{NO_PATTERN}
use Rattle.regex_lite_c.proofs.list.ListedLemmas.{listed_groups}
use Rattle.regex_lite_c.proofs.list.listed.captures_of.Goals as goal

pub returns : goal.returns
returns c =
    let spans = c.captures-2.new.spans in
    let count = c.captures-2.new.reported in
    listed_groups c.args.list.now c.args.number
    (omega (arith, c.if-number-len.false, c.len.ensures))
    ((c.captures-2.result ≡ NO_PATTERN) × (spans ≡ c.args.spans.now) × (count ≡ c.args.count.now))
    c.args.text.now c.args.start c.args.spans.now spans c.args.count.now count c.captures-2.result
    c.captures-2.ensures
