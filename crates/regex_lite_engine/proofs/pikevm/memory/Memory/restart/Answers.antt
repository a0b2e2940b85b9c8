use Rattle.regex_lite_engine.proofs.Common.{[], ap}
use Rattle.regex_lite_engine.specs.Pikevm.Machine.{State}
use Rattle.regex_lite_engine.proofs.pikevm.memory.TogetherLemmas.{none_left}
use Rattle.regex_lite_engine.proofs.pikevm.memory.Memory.restart.Goals as goal

pub invariant_of-self : goal.invariant_of-self
invariant_of-self g c = none_left c.self.invariant

pub returns : goal.returns
returns g c =
    ap (λ (z : State). record z { frames = []; threads = []; next = [] }) c.self.view_is
