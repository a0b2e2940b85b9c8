use Rattle.regex_lite.proofs.Common.{rules}
use Rattle.regex_lite.proofs.AnsweredLemmas.{not_over}
use Rattle.regex_lite.proofs.string.ScanLemmas.{groups_came, last_match}
use Rattle.regex_lite.proofs.string.iter.group_scan.GroupScan.next.Goals as goal

pub captures-requires-clause-last : goal.captures-requires-clause-last
captures-requires-clause-last g c =
    let f = g.F.Finds in
    let came = c.in_ok-found.ensures.steps in
    rw (c.finder.ensures, c.cursor-cursor.ensures.haystack) (
      came.0,
      last_match f.sought f.slots f.found_of f.number_of f.IsAnswer c.self.inside.scan
          c.next.new.self c.in_ok-found.found came,
    )

pub returns-in-Ok-clause-steps : goal.returns-in-Ok-clause-steps
returns-in-Ok-clause-steps g c =
    let f = g.F.Finds in
    let came = c.in_ok-found.ensures.steps in
    let old = c.self.inside.scan in
    let new = c.next.new.self in
    let reported = c.in_ok-found.found in
    let last = last_match f.sought f.slots f.found_of f.number_of f.IsAnswer old new reported
    came in
    let are : f.AreGroupsFound (f.sought new.finder) old.haystack came.0 c.in-Ok.caps =
    rw (← c.finder.ensures, ← c.cursor-cursor.ensures.haystack)
    (c.in-Ok.ensures.groups came.0 (rw (c.finder.ensures, c.cursor-cursor.ensures.haystack) last))
    in
    rw (← c.self.view_is)
    (groups_came f.sought f.slots f.found_of f.number_of f.IsAnswer old new reported came
    f.AreGroupsFound c.in-Ok.caps are c.in-Ok.ensures.span)

pub returns-clause-steps : goal.returns-clause-steps
returns-clause-steps g c =
    let f = g.F.Finds in
    let came = c.in_ok-found.ensures.steps in
    let lawful = c.in_ok-found.ensures.lawful in
    let not_over = not_over f.found_of f.IsAnswer _ lawful came.0 _ came.4 in (
      c.in-Err.ensures.refused,
      rw (← c.self.view_is) not_over,
      search rules,
    )
