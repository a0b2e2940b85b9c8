use Rattle.std.proofs.Common.{IfErr, IfOk, length, subst}
use Rattle.tokeniser.specs.Tokens.{AreTokens, IsFault}
use Rattle.tokeniser.proofs.tokens.tokenise.Goals as goal

pub returns-clause-tokens : goal.returns-clause-tokens
returns-clause-tokens c =
    subst (λ rules. IfOk c.tokens_of.result
    (λ tokens. AreTokens rules c.args.text.now 0 tokens.items (length c.args.text.now)))
    c.in_ok-searcher.ensures.list c.tokens_of.ensures.tokens

pub returns-clause-fault : goal.returns-clause-fault
returns-clause-fault c =
    subst (λ rules. IfErr c.tokens_of.result (IsFault rules c.args.text.now))
    c.in_ok-searcher.ensures.list c.tokens_of.ensures.fault
