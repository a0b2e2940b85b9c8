use Rattle.std.proofs.Common.{◌≡◌, ◌<◌, Some, None, refl, length, subst, inr, arith, below_more}
use Rattle.std.specs.Prelude.{slice_get}
use Rattle.std.proofs.lemmas.Option.{slice_get_read, slice_get_within}
use Rattle.std.proofs.lemmas.Str.{IsCharBoundary-start}
use Rattle.regex_lite.specs.Expression.{Expression}
use Rattle.regex_lite.specs.MatchOffsets.{MatchesIn}
use Rattle.regex_lite.specs.Searches.{TellsGroups}
use Rattle.log_router.proofs.RouteLemmas.{matches_nowhere}
use Rattle.log_router.proofs.route.route.Goals as goal

pub loop-rule-preserved : goal.loop-rule-preserved
loop-rule-preserved c =
    let rules = c.args.rules.now in
    let line = c.args.line.now in
    let own = c.index-rules-rule.result in
    let there : slice_get rules c.loop-rule.rule ≡ Some own =
    slice_get_read rules (length rules) c.loop-rule.rule own refl c.loop-rule-test.true
    c.index-rules-rule.is in
    let reported : TellsGroups own line 0 None =
    subst (TellsGroups own line 0) c.in_default.is c.in_ok-caps.ensures.found in
    let before = below_more (λ k. (other : Expression) → slice_get rules k ≡ Some other
    → ¬ (MatchesIn other line)) c.loop-rule.rule
    (λ k less other is. c.loop-rule.invariant k other less is)
    (λ other is.
    let same : own ≡ other = cc in
    matches_nowhere c.searches_find_the_first_match.ensures.first other line c.utf8.line
    (inr (IsCharBoundary-start line c.utf8.line))
    (subst (λ r. TellsGroups r line 0 None) same reported)) in
    λ lower other less is matches. before lower less other is matches

pub returns-clause-routed : goal.returns-clause-routed
returns-clause-routed c = λ number rule is matches.
    let inside : number < length c.args.rules.now =
    slice_get_within c.args.rules.now number rule is in
    c.loop-rule.invariant number rule (omega (arith, inside, c.loop-rule-test.false)) is matches
