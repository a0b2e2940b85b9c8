-- The step of a counted operator that the end of a pattern cuts short, where the pattern goes on.
use Rattle.regex_lite_syntax.proofs.Common.{◌≡◌, Bool, List, [], ◌∷◌, ◌++◌, map, refl, ap, arith}
use Rattle.regex_lite_syntax.proofs.Common.{Gap, Operator, counted, CanReadOn, Completable, Text}
use Rattle.regex_lite_syntax.proofs.Common.{the, Tree, tree_of, Parser}
use Rattle.regex_lite_syntax.specs.Parser.Machine.{with_items}
use Rattle.regex_lite_syntax.specs.Parser.States.{state}
use Rattle.regex_lite_syntax.proofs.ListLemmas.{same_head}
use Rattle.regex_lite_syntax.proofs.grammar.GapLemmas.{ends_any, gap_at_end}
use Rattle.regex_lite_syntax.proofs.grammar.SpacedLemmas.{printed_ends}
use Rattle.regex_lite_syntax.proofs.CharacterLemmas.{joined_are}
use Rattle.regex_lite_syntax.proofs.grammar.ResumedCountLemmas.{Counts}
use Rattle.regex_lite_syntax.proofs.machine.ReadStepLemmas.{fresh_step}
use Rattle.regex_lite_syntax.proofs.machine.StepLemmas.{at_once, step_operate}

-- before a `_` no gap leads to a `?`
no_question : (verbose : Bool) (next : Text) → Gap verbose (the "_" ∷ []) (the "?" ∷ next) → ⊥
no_question verbose next gap =
    let ends = printed_ends (the "_") [] (omega arith) (omega arith) in
    let same = same_head (gap_at_end verbose (the "_" ∷ []) _ (ends_any verbose _ ends) gap) in
    omega (arith, same)

-- where its bounds can follow the brace, the operator repeats the last item
pub counts_read_on : (p : Parser) (t opened : Text) (items : List Tree) (a : Tree)
    → t ≡ the "{" ∷ opened → map tree_of p.here.items.items ≡ items ++ a ∷ []
    → Completable (Counts p.here.flags.ignore_whitespace) opened → CanReadOn p t
unfolding state with_items
counts_read_on p t opened items a e last k d =
    let mark = the "_" ∷ [] in
    let more = k.more ++ mark in
    let s = state p (t ++ more) d in
    let counts = k.reads mark in
    let operator : Operator p.here.flags (t ++ more) mark counts.0 counts.1 _ =
    counted (opened ++ more) (ap (λ u. u ++ more) e) counts.2
    (no_question p.here.flags.ignore_whitespace) refl in
    let step = step_operate s s.point mark items a _ _ _ (at_once s.point) last operator in (
      more,
      _,
      joined_are k.more mark k.characters (refl, tt),
      fresh_step step refl refl,
      refl,
    )
