use Rattle.regex_lite.proofs.Common.{IsCharBoundary-start, arith}
use Rattle.regex_lite.proofs.string.rewrite.Rewrite.start.Goals as goal

pub invariant_of-result : goal.invariant_of-result
invariant_of-result c =
    record { stands = IsCharBoundary-start _ c.utf8.haystack; few = omega arith }
