use Rattle.regex_lite.proofs.Common.{inr, IsCharBoundary-start}
use Rattle.regex_lite.proofs.string.regex.Regex.is_match.Goals as goal

pub is_match_at-requires : goal.is_match_at-requires
is_match_at-requires c = inr (IsCharBoundary-start _ c.utf8.haystack)
