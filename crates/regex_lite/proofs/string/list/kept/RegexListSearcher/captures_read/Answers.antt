use Rattle.regex_lite.proofs.Common.{inr, IsCharBoundary-start}
use Rattle.regex_lite.proofs.string.list.kept.RegexListSearcher.captures_read.Goals as goal

pub captures_read_at-requires : goal.captures_read_at-requires
captures_read_at-requires c = inr (IsCharBoundary-start _ c.utf8.haystack)
