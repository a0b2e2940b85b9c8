use Rattle.regex_lite.proofs.Common.{chars}
use Rattle.regex_lite.proofs.string.NextLemmas.{after_reported}
use Rattle.regex_lite.proofs.string.iter.scan.match_after_empty.Goals as goal

pub match_at-requires : goal.match_at-requires
match_at-requires g c = c.next_offset.ensures.can_start

pub returns-clause-next : goal.returns-clause-next
returns-clause-next g c =
    let f = g.F.Finds in
    let bytes = c.args.haystack.now in
    after_reported f.found_of f.number_of bytes
    (f.IsAnswer (f.sought c.args.finder.now) (chars bytes)) c.match_at.ensures.lawful
    (f.slots c.match_at.new.finder) c.utf8.haystack c.args.at c.requires.boundary
    c.next_offset.result c.match_at.result c.requires.empty c.next_offset.ensures
    c.match_at.ensures.found
