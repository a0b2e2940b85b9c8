use Rattle.regex_lite.proofs.Common.{inr, IsCharBoundary-start}
use Rattle.regex_lite.proofs.string.list.RegexList.matches.Goals as goal

pub matches_at-requires : goal.matches_at-requires
matches_at-requires c = inr (IsCharBoundary-start _ c.utf8.haystack)
