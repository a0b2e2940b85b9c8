use Rattle.regex_lite.proofs.Common.{chars, search_start}
use Rattle.regex_lite.proofs.string.NextLemmas.{match_reported, span_lies}
use Rattle.regex_lite.proofs.string.ScanLemmas.{empty_from}
use Rattle.regex_lite.proofs.string.iter.scan.match_at.Goals as goal

pub new-requires : goal.new-requires
new-requires g c =
    let f = g.F.Finds in
    let bytes = c.args.haystack.now in
    span_lies f.found_of f.number_of bytes (f.IsAnswer (f.sought c.args.finder.now) (chars bytes))
    c.find_at.ensures.lawful (f.slots c.find_at.new.self) c.utf8.haystack
    (search_start bytes c.args.start)
    (c.in_ok-number.number, (c.in_ok-number.from, c.in_ok-number.to)) c.in_ok-number.ensures.found

pub returns-clause-found : goal.returns-clause-found
returns-clause-found g c =
    let f = g.F.Finds in
    let bytes = c.args.haystack.now in
    match_reported f.found_of f.number_of bytes
    (f.IsAnswer (f.sought c.args.finder.now) (chars bytes)) c.find_at.ensures.lawful
    (f.slots c.find_at.new.self) c.utf8.haystack (search_start bytes c.args.start)
    (c.in_ok-number.number, (c.in_ok-number.from, c.in_ok-number.to)) c.new.result
    c.in_ok-number.ensures.found c.new.ensures.haystack c.new.ensures.span

pub returns-clause-empty : goal.returns-clause-empty
returns-clause-empty g c =
    let f = g.F.Finds in
    let bytes = c.args.haystack.now in
    let sought = f.sought c.args.finder.now in
    let reported = match_reported f.found_of f.number_of bytes (f.IsAnswer sought (chars bytes))
    c.find_at.ensures.lawful (f.slots c.find_at.new.self) c.utf8.haystack
    (search_start bytes c.args.start)
    (c.in_ok-number.number, (c.in_ok-number.from, c.in_ok-number.to)) c.new.result
    c.in_ok-number.ensures.found c.new.ensures.haystack c.new.ensures.span in
    empty_from f.found_of bytes c.utf8.haystack (f.IsAnswer sought (chars bytes))
    c.find_at.ensures.lawful (search_start bytes c.args.start) reported.0 reported.1
    c.new.result reported.2.is_match
