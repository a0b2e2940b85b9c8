use Rattle.regex_lite.proofs.Common.{inr, IsCharBoundary-start}
use Rattle.regex_lite.proofs.string.regex.Regex.full_captures.Goals as goal

pub groups_anchored-requires : goal.groups_anchored-requires
groups_anchored-requires c = inr (IsCharBoundary-start _ c.utf8.haystack)
