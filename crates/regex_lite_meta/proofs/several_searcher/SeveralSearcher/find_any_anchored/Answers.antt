use Rattle.regex_lite_meta.proofs.Common.{chars, position_at, table_of_list}
use Rattle.regex_lite_meta.proofs.AnchoredSpanLemmas.{any_kept}
use Rattle.regex_lite_meta.proofs.several_searcher.SeveralSearcher.find_any_anchored.Goals as goal

pub returns-clause-found : goal.returns-clause-found
returns-clause-found c = λ row.
    let list = c.args.graph.now in
    let s = position_at c.args.haystack.now c.args.start in
    any_kept (table_of_list list) (chars c.args.haystack.now) list.entries s s
    c.find_anchored.result c.find_anchored.new.self.cache.best.row row
    c.find_anchored.ensures.found
