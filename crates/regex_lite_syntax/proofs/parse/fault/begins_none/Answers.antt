use Rattle.regex_lite_syntax.proofs.Common.{subst, HasTree, Stop}
use Rattle.std.proofs.Common.{MatchOption}
use Rattle.regex_lite_syntax.specs.FaultPlaces.{IsFaultAt}
use Rattle.regex_lite_syntax.proofs.machine.FaultEndLemmas.{tree_goes_on}
use Rattle.regex_lite_syntax.proofs.parse.fault.begins_none.Goals as goal

pub returns-in-None-clause-reported : goal.returns-in-None-clause-reported
returns-in-None-clause-reported c =
    let flags = c.args.flags in
    let xs = c.args.chars.now in
    tree_goes_on flags xs (subst (λ found. MatchOption found (HasTree flags xs)
    (λ (stop : Stop). IsFaultAt flags xs stop.start × (HasTree flags xs → ⊥)))
    c.in-None.is c.in_ok-first_stop.ensures.found)
