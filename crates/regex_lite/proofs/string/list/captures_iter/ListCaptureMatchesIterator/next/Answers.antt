use Rattle.regex_lite.proofs.Common.{ℕ, List, Some, None, Ok, Err, Option, Result, sym, subst}
use Rattle.regex_lite.proofs.Common.{Error, Expression, Groups, AreGroupsFoundInList}
use Rattle.regex_lite.proofs.Common.{IsAnswerOfPatterns, Scanning}
use Rattle.regex_lite.specs.Items.{GivesNextGroups}
use Rattle.regex_lite.specs.ListAhead.{GivesListGroups, ListPasses, list_ahead_of}
use Rattle.regex_lite.specs.Scanning.{ListSearching, seen_by}
use Rattle.regex_lite.proofs.string.list.captures_iter.ListCaptureMatchesIterator.next.Goals as goal

abbrev seen : Scanning ListSearching → Scanning (List Expression)
seen scan = seen_by (λ own. own.list) scan

gives_groups : (old : Scanning ListSearching) (item : Option (Result (ℕ × Groups) Error))
    (new : Scanning ListSearching)
    → GivesNextGroups (λ own. own.list) (λ own. own.1) (λ own. own.0) IsAnswerOfPatterns
    (λ list haystack answer groups. AreGroupsFoundInList list haystack answer.0 answer.1 groups)
    old item new
    → GivesListGroups (seen old) item (seen new)
gives_groups old None new steps = steps
gives_groups old (Some (Err error)) new steps = steps
gives_groups old (Some (Ok (number, groups))) new ((own, found), is, are, onward, ended, passes) = (
  found,
  subst (λ k. AreGroupsFoundInList old.finder.list old.haystack k found groups) (sym is) are,
  onward,
  ended,
  subst (λ k. ListPasses (list_ahead_of (seen old)) (k, found) (list_ahead_of (seen new))) (sym is)
      passes,
)

pub returns-clause-steps : goal.returns-clause-steps
returns-clause-steps c =
    rw (← c.self.view_is)
    (gives_groups c.self.inside.scan c.next.result c.next.new.self c.next.ensures.steps)
