use Rattle.regex_lite.proofs.Common.{inr, IsCharBoundary-start}
use Rattle.regex_lite.proofs.string.regex.Regex.shortest_match.Goals as goal

pub shortest_match_at-requires : goal.shortest_match_at-requires
shortest_match_at-requires c = inr (IsCharBoundary-start _ c.utf8.haystack)
