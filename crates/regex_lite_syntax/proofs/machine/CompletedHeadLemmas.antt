-- What completes a group's head at which the pattern ends is a step of the machine.
use Rattle.regex_lite_syntax.proofs.Common.{◌≡◌, [], ◌∷◌, ◌++◌, length, refl, ap, AreCharacters}
use Rattle.regex_lite_syntax.proofs.Common.{WholeGap, non_capturing, inside, Head, plain}
use Rattle.regex_lite_syntax.proofs.Common.{EndedFlags, CanReadOn, Completable, Text, the, Flags}
use Rattle.regex_lite_syntax.proofs.Common.{Parser}
use Rattle.regex_lite_syntax.specs.Parser.Machine.{opened}
use Rattle.regex_lite_syntax.specs.Parser.States.{state}
use Rattle.regex_lite_syntax.proofs.CharacterLemmas.{joined_are}
use Rattle.regex_lite_syntax.proofs.grammar.NewNameLemmas.{NewNamed}
use Rattle.regex_lite_syntax.proofs.machine.StepLemmas.{at_once, step_open, step_named}
use Rattle.regex_lite_syntax.proofs.machine.ReadStepLemmas.{fresh_step}
use Rattle.regex_lite_syntax.proofs.machine.ReadHeadLemmas.{longer_question}

-- a `_` may follow
with_item : (t : Text) → AreCharacters t → AreCharacters (t ++ the "_" ∷ [])
with_item t are = joined_are t (the "_" ∷ []) are (refl, tt)

-- where more completes a name that no group has, from its `?` on
pub reads_on_name : (p : Parser) (t begun u first : Text) → t ≡ the "(" ∷ begun
    → WholeGap p.here.flags.ignore_whitespace begun u → u ≡ the "?" ∷ first
    → Completable (NewNamed p.names) u → CanReadOn p t
unfolding state opened
reads_on_name p t begun u first e whole begins new d =
    let more = new.more ++ the "_" ∷ [] in
    let s = state p (t ++ more) d in
    let named = new.reads (the "_" ∷ []) in
    let gap = longer_question more p.here.flags.ignore_whitespace begun u first whole begins in
    let there = ap (λ v. v ++ more) begins in
    let st =
    step_named s s.point (begun ++ more) (u ++ more) (the "_" ∷ []) named.0 (at_once s.point)
    (ap (λ v. v ++ more) e) (rw there gap.0) named.1 in
    (more, _, with_item new.more new.characters, (st, named.2), refl)

-- and where it completes flags up to a `:`
pub reads_on_flags : (p : Parser) (t begun u first : Text) → t ≡ the "(" ∷ begun
    → WholeGap p.here.flags.ignore_whitespace begun u → u ≡ the "?" ∷ first
    → Completable
    (λ v rest. (new : Flags) × EndedFlags p.here.flags v (the ":" ∷ rest) new) first
    → CanReadOn p t
unfolding state opened
reads_on_flags p t begun u first e whole begins flags d =
    let more = flags.more ++ the "_" ∷ [] in
    let s = state p (t ++ more) d in
    let new = flags.reads (the "_" ∷ []) in
    let gap = longer_question more p.here.flags.ignore_whitespace begun u first whole begins in
    let into = inside (length s.frames) s.point new.0 (the "_" ∷ []) in
    let head : Head (length s.frames) s.point into non_capturing =
    plain (begun ++ more) (first ++ more) (the "_" ∷ []) new.0 (ap (λ v. v ++ more) e) gap.0
    new.1.letters refl refl in
    let st = step_open s s.point into non_capturing (at_once s.point) head in
    (more, _, with_item flags.more flags.characters, fresh_step st refl refl, refl)
