use Rattle.regex_lite.proofs.Common.{IfSome, Some, None, Option, Groups, AreGroupsOf}
use Rattle.regex_lite.specs.Anchored.{TellsGroupsAt}
use Rattle.regex_lite.specs.Searches.{AreOfMatch}
use Rattle.std.proofs.lemmas.Result.{IfOk-weaker}
use Rattle.regex_lite.proofs.string.AnchoredLemmas.{reported_from}
use Rattle.regex_lite.proofs.string.regex.Regex.captures_anchored_at.Goals as goal

pub returns-clause-of_match : goal.returns-clause-of_match
returns-clause-of_match c =
    IfOk-weaker c.groups_anchored.result _ _ each c.groups_anchored.ensures.found
  where
    each : (reported : Option Groups) → TellsGroupsAt c.args.self.now c.args.haystack.now
        c.args.start reported → IfSome reported (AreOfMatch c.args.self.now)
    each None none = tt
    each (Some groups) reported = record {
      haystack = c.args.haystack.now;
      start = c.args.start;
      reported = reported_from (λ tree. AreGroupsOf tree c.args.haystack.now) c.args.self.now
          c.args.haystack.now c.args.start groups reported;
    }
