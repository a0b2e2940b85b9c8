use Rattle.regex_lite.proofs.Common.{inr, IsCharBoundary-start}
use Rattle.regex_lite.proofs.string.regex.Regex.captures.Goals as goal

pub captures_at-requires : goal.captures_at-requires
captures_at-requires c = inr (IsCharBoundary-start _ c.utf8.haystack)
