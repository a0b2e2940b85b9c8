use Rattle.regex_lite.proofs.Common.{◌≡◌, ◌*◌, max, replicate, None, ap, ◌∙◌, rules, spans_of}
use Rattle.regex_lite.proofs.Common.{most_captures}
use Rattle.regex_lite.proofs.string.SlotLemmas.{no_spans, room_for_most}
use Rattle.regex_lite.proofs.string.list.RegexList.capture_locations.Goals as goal

pub returns-clause-ok : goal.returns-clause-ok
returns-clause-ok c =
    let reported = c.kept_slots.ensures in
    let most = most_captures reported.0 in
    let count : c.max.result ≡ 2 * max 1 most =
    c.max.ensures ∙ room_for_most most c.kept_slots.result reported.2 in
    let none : c.in_ok-slots.slots.items ≡ replicate c.max.result None = search rules in
    (reported.0, reported.1, ap spans_of (none ∙ ap (λ n. replicate n None) count) ∙ no_spans _)
