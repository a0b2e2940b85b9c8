use Rattle.regex_lite.proofs.Common.{◌<◌, subst}
use Rattle.regex_lite.proofs.string.GroupLemmas.{groups_on}
use Rattle.regex_lite.proofs.string.sub_captures.SubCaptureMatchesIterator.next.Goals as goal

pub returns-clause-steps : goal.returns-clause-steps
returns-clause-steps c =
    let groups = c.self.inside.captures.now in
    rw (← c.self.view_is)
    (groups_on groups.haystack groups.spans c.self.inside.next c.get-group.result
    (subst (λ n. c.self.inside.next < n) c.len.ensures c.if-self-len.false)
    c.get-group.ensures.span c.get-group.ensures.haystack)
