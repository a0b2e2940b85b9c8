use Rattle.regex_lite_syntax.proofs.Common.{◌<◌, length, Some, sym, ap, ◌∙◌, arith}
use Rattle.regex_lite_syntax.proofs.Common.{slice_get-get_or}
use Rattle.regex_lite_syntax.specs.Prefilter.Pairs.{in_some_set}
use Rattle.regex_lite_syntax.proofs.prefilter.prefix_index.PrefixIndex.has_pair.Goals as goal

pub returns : goal.returns
returns c =
    let a = c.args in
    let sets = a.self.now.pairs.items in
    let inside : a.first < length sets = omega (arith, c.requires.pairs, c.requires.first) in
    c.contains.ensures
    ∙ sym (ap (λ set. in_some_set set a.second)
    (slice_get-get_or sets a.first c.index.result.now inside ∙ ap Some (sym c.index.ensures)))
