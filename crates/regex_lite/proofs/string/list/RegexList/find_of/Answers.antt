use Rattle.regex_lite.proofs.Common.{inr, IsCharBoundary-start}
use Rattle.regex_lite.proofs.string.list.RegexList.find_of.Goals as goal

pub find_of_at-requires-clause-start : goal.find_of_at-requires-clause-start
find_of_at-requires-clause-start c = inr (IsCharBoundary-start _ c.utf8.haystack)
