use Rattle.regex_lite_c.proofs.Common.{subst}
use Rattle.regex_lite_c.proofs.AnswerLemmas.{groups_found}
use Rattle.regex_lite_c.proofs.groups.captures.Goals as goal

pub returns-in-Ok-Some : goal.returns-in-Ok-Some
returns-in-Ok-Some g c =
    let search = c.args.search.now in
    let bytes = c.args.text.now in
    let start = c.args.start in
    let own = c.in-Ok-Some.own in
    let caps = c.in-Ok-Some.caps in
    let text = c.in-Ok.ensures in
    groups_found (g.P.Search.search.AreFirst search bytes start)
    (g.P.Search.search.AreNone search bytes start) bytes start c.args.spans.now
    c.write_groups.new.spans c.args.reported.now own c.write_groups.result caps text.1 text.2
    (subst (λ read. g.P.Search.search.AreFirst search read start own caps) text.0
    (rw c.in-Ok-Some.field-0-is at c.in-Ok-Some.ensures))
    c.write_groups.ensures.written c.write_groups.ensures.no_room
