use Rattle.regex_lite.proofs.Common.{chars, inr, IsCharBoundary-start}
use Rattle.regex_lite.proofs.string.NextLemmas.{first_reported}
use Rattle.regex_lite.proofs.string.iter.scan.first_match.Goals as goal

pub match_at-requires : goal.match_at-requires
match_at-requires g c = inr (IsCharBoundary-start _ c.utf8.haystack)

pub returns-clause-next : goal.returns-clause-next
returns-clause-next g c =
    let f = g.F.Finds in
    let bytes = c.args.haystack.now in
    first_reported f.found_of f.number_of bytes
    (f.IsAnswer (f.sought c.args.finder.now) (chars bytes)) c.match_at.ensures.lawful
    (f.slots c.match_at.new.finder) c.utf8.haystack c.match_at.result
    (IsCharBoundary-start _ c.utf8.haystack) c.match_at.ensures.found
