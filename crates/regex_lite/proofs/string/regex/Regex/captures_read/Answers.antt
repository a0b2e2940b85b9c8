use Rattle.regex_lite.proofs.Common.{inr, IsCharBoundary-start}
use Rattle.regex_lite.proofs.string.regex.Regex.captures_read.Goals as goal

pub captures_read_at-requires-clause-start : goal.captures_read_at-requires-clause-start
captures_read_at-requires-clause-start c = inr (IsCharBoundary-start _ c.utf8.haystack)
