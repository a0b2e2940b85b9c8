use Rattle.regex_lite.proofs.Common.{inr, IsCharBoundary-start}
use Rattle.regex_lite.proofs.string.regex.Regex.full_match.Goals as goal

pub match_anchored-requires : goal.match_anchored-requires
match_anchored-requires c = inr (IsCharBoundary-start _ c.utf8.haystack)
