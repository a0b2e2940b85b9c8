use Rattle.regex_lite.proofs.Common.{inr, IsCharBoundary-start}
use Rattle.regex_lite.proofs.string.regex.Regex.find.Goals as goal

pub find_at-requires : goal.find_at-requires
find_at-requires c = inr (IsCharBoundary-start _ c.utf8.haystack)
