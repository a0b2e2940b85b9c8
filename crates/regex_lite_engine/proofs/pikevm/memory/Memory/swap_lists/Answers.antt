use Rattle.regex_lite_engine.proofs.Common.{arith}
use Rattle.regex_lite_engine.proofs.pikevm.memory.Memory.swap_lists.Goals as goal

pub invariant_of-self : goal.invariant_of-self
invariant_of-self g c =
    let fit = c.self.invariant in record {
      cells_fit = fit.cells_fit;
      frames_fit = fit.frames_fit;
      threads_fit = fit.next_fit;
      next_fit = omega arith;
      threads_few = fit.next_few;
      next_few = omega arith;
      room_few = fit.room_few;
      rows_fit = fit.rows_fit;
    }
