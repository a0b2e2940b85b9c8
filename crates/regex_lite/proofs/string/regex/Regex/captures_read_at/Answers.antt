use Rattle.regex_lite.proofs.Common.{length}
use Rattle.regex_lite.proofs.string.ReportedLemmas.{room_reported, locations_reported}
use Rattle.regex_lite.proofs.string.regex.Regex.captures_read_at.Goals as goal

pub write-requires : goal.write-requires
write-requires c =
    room_reported c.args.self.now c.args.haystack.now c.args.start (length c.args.locs.now)
    c.in_ok-caps.field-0 c.in-Some.caps c.requires.room c.in_ok-caps.ensures.found c.in-Some.is

pub returns-clause-found : goal.returns-clause-found
returns-clause-found c =
    locations_reported c.args.self.now c.args.haystack.now c.args.start (length c.args.locs.now)
    c.in_ok-caps.field-0 c.in-Some.caps c.get-found.result _ c.in_ok-caps.ensures.found
    c.in-Some.is c.get-found.ensures.span c.get-found.ensures.haystack c.write.ensures.spans
