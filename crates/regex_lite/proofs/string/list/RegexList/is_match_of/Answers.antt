use Rattle.regex_lite.proofs.Common.{inr, IsCharBoundary-start}
use Rattle.regex_lite.proofs.string.list.RegexList.is_match_of.Goals as goal

pub is_match_of_at-requires-clause-start : goal.is_match_of_at-requires-clause-start
is_match_of_at-requires-clause-start c = inr (IsCharBoundary-start _ c.utf8.haystack)
