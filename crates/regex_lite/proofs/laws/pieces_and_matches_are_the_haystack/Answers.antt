use Rattle.regex_lite.proofs.laws.BetweenLemmas.{one_piece_list, pieces_and_matches}
use Rattle.regex_lite.proofs.laws.pieces_and_matches_are_the_haystack.Goals as goal

pub returns-clause-between : goal.returns-clause-between
returns-clause-between c = pieces_and_matches

pub returns-clause-one_list : goal.returns-clause-one_list
returns-clause-one_list c = one_piece_list
