use Rattle.regex_lite.proofs.Common.{inr, IsCharBoundary-start}
use Rattle.regex_lite.proofs.string.list.RegexList.captures_of.Goals as goal

pub captures_of_at-requires-clause-start : goal.captures_of_at-requires-clause-start
captures_of_at-requires-clause-start c = inr (IsCharBoundary-start _ c.utf8.haystack)
