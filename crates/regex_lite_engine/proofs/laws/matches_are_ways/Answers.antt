use Rattle.regex_lite_engine.proofs.laws.PatternTreeLemmas.{regular_tree}
use Rattle.regex_lite_engine.proofs.laws.PatternWayLemmas.{match_way, walk_match}
use Rattle.regex_lite_engine.proofs.laws.matches_are_ways.Goals as goal

pub returns : goal.returns
returns c = λ tree given haystack i j.
    let regular = regular_tree tree given in
    (match_way tree haystack i j regular, λ way. walk_match tree haystack i j way.0 regular way.1.0)
