use Rattle.regex_lite_syntax.proofs.Common.{◌*◌, ◌≤◌, ◌≢◌, length, get_or, sym, ap, ◌∙◌, subst, inl}
use Rattle.regex_lite_syntax.proofs.Common.{inr, arith, cases_lt, get_or-set_other, StandsBelow}
use Rattle.std.proofs.Common.{length-set}
use Rattle.std.proofs.lemmas.Grind.{common_steps}
use Rattle.regex_lite_syntax.proofs.prefilter.fill.Goals as goal
use Rattle.regex_lite_syntax.proofs.prefilter.fill.Goals.{then-begins_in_row+in-Some}
use Rattle.regex_lite_syntax.proofs.prefilter.fill.Goals.{else-begins_in_row}

pub loop-row-preserved : goal.loop-row-preserved
loop-row-preserved c =
    let v = c.loop-row.invariant in
    let row = c.loop-row.row in
    elim c.if-begins_in_row.branch [
      | then-begins_in_row+in-Some w ↦
          let reported = w.in-Some.ensures in record {
            same = ap length w.bytes-is ∙ reported.length ∙ v.same;
            room =
                subst (λ n. n ≤ length c.if-begins_in_row.bytes) (sym w.len-is)
                (subst (λ bytes. w.in-Some.more ≤ length bytes) (sym w.bytes-is) reported.room);
            written = λ byte low stops.
                subst (λ bytes. StandsBelow bytes c.if-begins_in_row.len byte) (sym w.bytes-is)
                (subst (λ n. StandsBelow w.fill_row.new.bytes n byte) (sym w.len-is)
                (reported.written byte (omega (arith, low)) stops));
          }
      | else-begins_in_row w ↦ record {
        same = ap length w.bytes-is ∙ v.same;
        room =
            subst (λ n. n ≤ length c.if-begins_in_row.bytes) (sym w.len-is)
            (subst (λ bytes. c.loop-row.len ≤ length bytes) (sym w.bytes-is) v.room);
        written = λ byte low stops.
            subst (λ bytes. StandsBelow bytes c.if-begins_in_row.len byte) (sym w.bytes-is)
            (subst (λ n. StandsBelow c.loop-row.bytes n byte) (sym w.len-is)
            (elim (cases_lt byte (16 * row)) [
              | inl lt ↦ v.written byte lt stops
              | inr le ↦
                  absurd (let never = sym (c.begins_in_row.ensures w.if-begins_in_row.false byte
                  le (omega (arith, low))) ∙ stops in cc)
            ]));
      }
    ]

pub loop-k-preserved : goal.loop-k-preserved
loop-k-preserved c =
    let v = c.loop-k.invariant in
    let bytes = c.loop-k.bytes in
    let k = c.loop-k.k in
    let first = get_or bytes 0 0 in
    let above = v.above in
    let size = length-set bytes k first in
    record {
      same = size ∙ v.same;
      above = omega (arith, above);
      room = omega (arith, size, v.room);
      written = λ byte low stops. (
          let there = v.written byte low stops in
          let below = there.1 in
          let other : there.0 ≢ k = omega (arith, below, above) in
          (there.0, below, get_or-set_other bytes k there.0 first 0 other ∙ there.2));
    }

-- It has an answer because the prover would try other calls first, which takes long
pub returns-clause-all : goal.returns-clause-all
returns-clause-all c = grind (arith, common_steps)
