use Rattle.regex_lite_syntax.proofs.Common.{subst, tree_of, ReadsEach}
use Rattle.regex_lite_syntax.proofs.prefilter.prefixes.HeadLemmas.{passes_read}
use Rattle.regex_lite_syntax.proofs.prefilter.first_set.FirstSet.add_passes.Goals as goal

pub returns-after-body-clause-reads : goal.returns-after-body-clause-reads
returns-after-body-clause-reads c =
    let old = c.args.self.now in
    let body = tree_of c.args.body.now in
    λ least most greedy some each.
    passes_read least most greedy body old c.add.new.self c.add.result some c.add.ensures.grown
    (subst (ReadsEach body old) c.in-One.is each) c.add.ensures.begins
