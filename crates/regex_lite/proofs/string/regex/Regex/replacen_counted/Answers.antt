use Rattle.regex_lite.proofs.Common.{IsOwnedStr}
use Rattle.regex_lite.proofs.AnsweredLemmas.{where_it_matches}
use Rattle.regex_lite.proofs.string.regex.Regex.replacen_counted.Goals as goal

pub returns-in-Some-clause-owned : goal.returns-in-Some-clause-owned
returns-in-Some-clause-owned g c =
    where_it_matches c.args.self.now c.args.haystack.now c.args.limit
    c.limit_of_matches-limit.result (λ reported. IsOwnedStr reported.0)
    c.replace_by.result c.limit_of_matches-limit.ensures c.replace_by.ensures.owned

pub returns-clause-owned : goal.returns-clause-owned
returns-clause-owned g c =
    where_it_matches c.args.self.now c.args.haystack.now c.args.limit
    c.limit_of_matches-limit.result (λ reported. IsOwnedStr reported.0)
    c.replace_in_turn.result c.limit_of_matches-limit.ensures c.replace_in_turn.ensures.owned
