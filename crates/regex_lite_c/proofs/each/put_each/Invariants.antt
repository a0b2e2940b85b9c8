use Rattle.regex_lite_c.proofs.Common.{◌≡◌, IsCharBoundary}
use Rattle.regex_lite_c.proofs.each.EachLemmas.{AreSearched}
use Rattle.regex_lite_c.proofs.each.put_each.Given as goal

abbrev pub invariant-loop-k : goal.invariant-loop-k
invariant-loop-k l =
    AreSearched l.fn.searcher l.texts l.lens l.at l.k l.fn.spans l.spans
    × IsCharBoundary l.texts l.at × (l.searcher ≡ l.fn.searcher)
