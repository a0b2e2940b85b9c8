use Rattle.regex_lite_c.proofs.Common.{◌+◌, Some, refl, ap, ◌∙◌, inl, inr, arith, cases_lt}
use Rattle.regex_lite_c.proofs.Common.{length, slice_set, span_of}
use Rattle.std.proofs.Common.{cond}
use Rattle.std.proofs.lemmas.Bool.{false≢true}
use Rattle.regex_lite.specs.Groups.{group_span}
use Rattle.regex_lite_c.specs.GroupWalks.{group_buffer}
use Rattle.regex_lite_c.proofs.walk.WalkLemmas.{comes_none}
use Rattle.regex_lite_c.proofs.group_walk.GroupWalkLemmas.{cut_off, end_of_span, filled}
use Rattle.regex_lite_c.proofs.group_walk.GroupWalkLemmas.{some_groups}
use Rattle.regex_lite_c.proofs.group_walk.StageLemmas.{more_so_far, none_so_far, stage_of}
use Rattle.regex_lite_c.proofs.group_walk.fill_groups.Goals as goal
use Rattle.regex_lite_c.proofs.group_walk.fill_groups.Goals.{
  then-is_full-via-then-is_full,
  then-is_full-via-else-is_full+then-spans-used,
}

pub matches-init : goal.matches-init
matches-init g c =
    none_so_far g.M.Sought.Written.kind c.requires refl refl

pub returns-in-Err-clause-filled : goal.returns-in-Err-clause-filled
returns-in-Err-clause-filled g c = cut_off c.matches.invariant

pub returns-in-Ok-None-clause-filled : goal.returns-in-Ok-None-clause-filled
returns-in-Ok-None-clause-filled g c =
    let kind = g.M.Sought.Written.kind in
    let so = c.matches.invariant in
    let reported = c.or_none-in-Ok-None in
    filled so reported.result (0, 0) (c.matches.auto.reported, c.matches.auto.spans)
    reported.ensures.some reported.ensures.none (inl (
      refl,
      refl,
      comes_none kind.found_of kind.IsAnswerTo (g.M.GroupsAhead.ahead c.matches.matches)
          (so.lists 0).limit (rw c.in-Ok-None.field-0-is at c.in-Ok-None.ensures).over,
    ))

pub returns-then-is_full-clause-filled : goal.returns-then-is_full-clause-filled
returns-then-is_full-clause-filled g c =
    let so = c.matches.invariant in
    let came = rw c.in-Ok-Some.field-0-is at c.in-Ok-Some.ensures in
    filled so c.or_none.result (5, c.reported_without_buffer.result)
    (c.matches.auto.reported, c.matches.auto.spans) c.or_none.ensures.some c.or_none.ensures.none
    (inr (
      refl,
      (
        (came.0, c.in-Ok-Some.caps),
        came.4.comes,
        came.1,
        c.reported_without_buffer.ensures
            ∙ ap (λ n. cond g.M.Sought.Written.kind.is_reported n 0) c.len-then-is_full.ensures,
        elim c.then-is_full.branch [
          | then-is_full-via-then-is_full w ↦ inl (w.if-is_full.ensures.0 refl)
          | then-is_full-via-else-is_full+then-spans-used w ↦
              inr (omega (arith, w.if-spans-used.true, w.len.ensures, so.fits))
        ],
      ),
    ))

pub matches-preserved : goal.matches-preserved
matches-preserved g c =
    let so = c.matches.invariant in
    let caps = c.in-Ok-Some.caps in
    let came = rw c.in-Ok-Some.field-0-is at c.in-Ok-Some.ensures in
    let next = stage_of (g.M.GroupsAhead.ahead c.next_groups.new.self)
    (group_buffer c.after.result c.put_reported.new.reported c.put_groups.new.spans)
    (c.matches.used + c.len-used.result) (c.matches.count + 1) in
    more_so_far g.M.Sought.Written.kind {new = next} so (record {
      own = (came.0, caps);
      passes = came.4;
      are = came.1;
      reported = λ is. c.put_reported.ensures is
          ∙ ap (slice_set c.matches.reported c.matches.count) came.2;
      below = λ is. elim (cases_lt c.matches.count (length c.matches.reported)) [
        | inl below ↦ below
        | inr above ↦
            absurd (false≢true (c.if-is_full.ensures.1
            (is, omega (arith, above, so.within is))))
      ];
      written = c.put_groups.ensures;
      same = c.put_groups.auto.spans;
      buffer = omega (arith, c.if-spans-used.false, so.fits, c.len.ensures);
      some = some_groups caps.spans came.3;
      end = c.after.ensures ∙ ap Some (end_of_span c.of_group.result (group_span caps 0)
          (c.of_group.ensures ∙ ap span_of c.get.ensures.span) came.3);
      used = ap (λ n. c.matches.used + n) c.len-used.ensures;
      count = refl;
    })
