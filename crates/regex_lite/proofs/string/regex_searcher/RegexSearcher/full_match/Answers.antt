use Rattle.regex_lite.proofs.Common.{inr, IsCharBoundary-start}
use Rattle.regex_lite.proofs.string.regex_searcher.RegexSearcher.full_match.Goals as goal

pub find_anchored-requires : goal.find_anchored-requires
find_anchored-requires c = inr (IsCharBoundary-start _ c.utf8.haystack)
