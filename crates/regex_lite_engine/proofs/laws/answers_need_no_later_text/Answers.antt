use Rattle.regex_lite_engine.proofs.laws.PatternTreeLemmas.{regular_tree}
use Rattle.regex_lite_engine.proofs.laws.search.NoLookLemmas.{without_looks}
use Rattle.regex_lite_engine.proofs.laws.search.ShorterHaystackLemmas.{found_up_to}
use Rattle.regex_lite_engine.proofs.laws.answers_need_no_later_text.Goals as goal

pub returns : goal.returns
returns c = λ tree given looks haystack s found.
    found_up_to tree haystack found (without_looks tree looks) s (regular_tree tree given)
