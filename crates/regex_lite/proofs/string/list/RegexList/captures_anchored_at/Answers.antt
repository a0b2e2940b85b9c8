use Rattle.regex_lite.proofs.Common.{ℕ, IfSome, Some, None, Option, Groups, AreGroupsOf}
use Rattle.regex_lite.specs.Anchored.{TellsGroupsAtOfList}
use Rattle.regex_lite.specs.RegexListSearches.{AreOfPattern}
use Rattle.std.proofs.lemmas.Result.{IfOk-weaker}
use Rattle.regex_lite.proofs.string.ListAnchoredLemmas.{list_reported_from}
use Rattle.regex_lite.proofs.string.ListGroupLemmas.{listed_of_pattern}
use Rattle.regex_lite.proofs.string.list.RegexList.captures_anchored_at.Goals as goal

pub returns-clause-of_match : goal.returns-clause-of_match
returns-clause-of_match c =
    IfOk-weaker c.groups_anchored.result _ _ each c.groups_anchored.ensures.found
  where
    each : (reported : Option (ℕ × Groups)) → TellsGroupsAtOfList c.args.self.now
        c.args.haystack.now c.args.start reported → IfSome reported (AreOfPattern c.args.self.now)
    each None none = tt
    each (Some (number, groups)) reported =
        listed_of_pattern c.args.haystack.now c.args.start c.args.self.now number groups
        (list_reported_from (λ tree. AreGroupsOf tree c.args.haystack.now) c.args.self.now
        c.args.haystack.now c.args.start (number, groups) reported)
