use Rattle.regex_lite_c.proofs.Common.{◌-◌, length}
use Rattle.regex_lite_c.specs.GroupWalks.{group_buffer}
use Rattle.regex_lite_c.proofs.group_walk.StageLemmas.{AreSoFar, stage_of}
use Rattle.regex_lite_c.proofs.group_walk.fill_groups.Given as goal

abbrev pub invariant-matches : goal.invariant-matches
invariant-matches g l =
    AreSoFar g.M.Sought.Written.kind
    (stage_of (g.M.GroupsAhead.ahead l.fn.matches) (group_buffer l.fn.walk l.fn.reported l.fn.spans)
    0 0) (stage_of (g.M.GroupsAhead.ahead l.matches) (group_buffer l.walk l.reported l.spans) l.used
    l.count)

-- each match has a group
abbrev pub decreases-matches : goal.decreases-matches
decreases-matches g l = length l.spans - l.used
