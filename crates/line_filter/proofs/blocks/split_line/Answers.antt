use Rattle.std.proofs.Common.{◌≡◌, ◌<◌, suc, arith, length}
use Rattle.std.proofs.lemmas.Grind.{common_steps}
use Rattle.line_filter.proofs.LineLemmas.{first_line, one_line}
use Rattle.line_filter.proofs.blocks.split_line.Goals as goal
use Rattle.line_filter.proofs.blocks.split_line.Goals.{in-Some, in-None}

pub returns : goal.returns
returns c =
    let bytes = c.args.bytes.now in
    elim c.match-memchr.branch [
      | in-Some w ↦
          let at = w.in-Some.at in
          let end : c.match-memchr.end ≡ suc at = omega (arith, w.end-is) in (
            rw (c.split_at.ensures.front, c.split_at.ensures.back, end)
                (first_line bytes at w.in-Some.ensures.0.high w.in-Some.ensures.1
                (λ i less. w.in-Some.ensures.0.before i (omega arith) less)),
            omega (arith, c.split_at.ensures.back_len, end),
          )
      | in-None w ↦
          let some : 0 < length bytes =
          grind (arith, common_steps, c.is_empty.ensures, c.if-is_empty.false) in (
            rw (c.split_at.ensures.front, c.split_at.ensures.back, w.end-is)
                (one_line bytes some (λ i less. w.in-None.ensures i (omega arith) less)),
            omega (arith, c.split_at.ensures.back_len, w.end-is, some),
          )
    ]
