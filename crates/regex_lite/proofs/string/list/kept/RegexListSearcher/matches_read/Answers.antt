use Rattle.regex_lite.proofs.Common.{inr, IsCharBoundary-start}
use Rattle.regex_lite.proofs.string.list.kept.RegexListSearcher.matches_read.Goals as goal

pub matches_read_at-requires-clause-start : goal.matches_read_at-requires-clause-start
matches_read_at-requires-clause-start c = inr (IsCharBoundary-start _ c.utf8.haystack)
