-- What completes a part of a pattern completes a step of the machine.
use Rattle.regex_lite_syntax.proofs.Common.{[], ◌∷◌, ◌++◌, refl, Atom, onward, CanReadOn}
use Rattle.regex_lite_syntax.proofs.Common.{Completable, Text, the, Tree, Parser}
use Rattle.regex_lite_syntax.specs.Parser.Machine.{with_items}
use Rattle.regex_lite_syntax.specs.Parser.States.{state}
use Rattle.regex_lite_syntax.proofs.CharacterLemmas.{joined_are}
use Rattle.regex_lite_syntax.proofs.machine.ReadStepLemmas.{fresh_step}
use Rattle.regex_lite_syntax.proofs.machine.StepLemmas.{at_once, step_atom}

-- an item that can be completed can be read on
pub reads_on_atom : (p : Parser) (t : Text)
    → Completable (λ t rest. (a : Tree) × Atom p.here.flags t rest a) t → CanReadOn p t
unfolding state with_items
reads_on_atom p t k d =
    let after = the "_" ∷ [] in
    let item = k.reads after in
    let s = state p (t ++ (k.more ++ after)) d in (
      k.more ++ after,
      with_items s (onward s.point after) (s.items ++ item.0 ∷ []),
      joined_are k.more after k.characters (refl, tt),
      fresh_step (step_atom s s.point after item.0 (at_once s.point) item.1) refl refl,
      refl,
    )
