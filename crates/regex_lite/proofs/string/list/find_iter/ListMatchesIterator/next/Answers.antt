use Rattle.regex_lite.proofs.Common.{ℕ, List, Some, None, Option, sym, subst, Expression}
use Rattle.regex_lite.proofs.Common.{IsAnswerOfPatterns, Scanning, Match}
use Rattle.regex_lite.specs.Items.{GivesNext}
use Rattle.regex_lite.specs.ListAhead.{GivesListMatch, ListPasses, list_ahead_of}
use Rattle.regex_lite.specs.Scanning.{ListSearching, seen_by}
use Rattle.regex_lite.proofs.string.list.find_iter.ListMatchesIterator.next.Goals as goal

abbrev seen : Scanning ListSearching → Scanning (List Expression)
seen scan = seen_by (λ own. own.list) scan

gives_match : (old : Scanning ListSearching) (item : Option (ℕ × Match))
    (new : Scanning ListSearching)
    → GivesNext (λ own. own.list) (λ own. own.slots) (λ own. own.1) (λ own. own.0)
    IsAnswerOfPatterns old item new
    → GivesListMatch (seen old) item (seen new)
gives_match old None new steps = steps
gives_match old (Some (number, m)) new ((own, found), is, onward, ended, passes) = (
  found,
  is.is_match,
  onward,
  ended,
  subst (λ k. ListPasses (list_ahead_of (seen old)) (k, found) (list_ahead_of (seen new)))
      (sym is.number) passes,
)

pub returns-clause-steps : goal.returns-clause-steps
returns-clause-steps c =
    rw (← c.self.view_is)
    (gives_match c.self.inside.scan c.next.result c.next.new.self c.next.ensures.steps)
