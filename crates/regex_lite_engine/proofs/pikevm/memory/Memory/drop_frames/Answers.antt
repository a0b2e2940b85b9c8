use Rattle.regex_lite_engine.proofs.Common.{[], refl, ap, arith}
use Rattle.regex_lite_engine.specs.Pikevm.Machine.{State}
use Rattle.regex_lite_engine.proofs.pikevm.memory.TogetherLemmas.{together_with}
use Rattle.regex_lite_engine.proofs.pikevm.memory.Memory.drop_frames.Goals as goal

pub invariant_of-self : goal.invariant_of-self
invariant_of-self g c = together_with refl (omega arith) c.self.invariant

pub returns : goal.returns
returns g c = ap (λ (m : State). record m { frames = [] }) c.self.view_is
