-- What completes one reading says of another.
use Rattle.regex_lite_syntax.proofs.Common.{◌++◌, IfErr, Ok, Err, Result, Refusal, syntax_error}
use Rattle.regex_lite_syntax.proofs.Common.{Completable, IfCutShort, Text}
use Rattle.regex_lite_syntax.proofs.Common.{SyntaxFault}
use Rattle.regex_lite_syntax.specs.Refusals.{CanComplete}

-- what completes the one text completes each other whose reading follows
pub completes_part : (R S : (t rest : Text) → Type 0) (t u : Text)
    → ((more rest : Text) → R (t ++ more) rest → S (u ++ more) rest)
    → Completable R t → Completable S u
completes_part R S t u gives c = record {
  more = c.more;
  characters = c.characters;
  reads = λ next. gives (c.more ++ next) next (c.reads next);
}

-- the same where a pure reader refuses
pub completes_of : {T : Type 0} (r : Result T SyntaxFault) (R S : (t rest : Text) → Type 0)
    (t u : Text) → ((more rest : Text) → R (t ++ more) rest → S (u ++ more) rest)
    → IfErr r (λ fault. CanComplete fault R t) → IfErr r (λ fault. CanComplete fault S u)
completes_of (Ok v) R S t u gives completes = tt
completes_of (Err fault) R S t u gives completes =
    λ short. completes_part R S t u gives (completes short)

-- a refusal that says the one where the pattern is cut short says what follows from it
pub cut_short_says : (e : Refusal) (A B : Type 0) → (A → B) → IfCutShort e A → IfCutShort e B
cut_short_says (syntax_error fault) A B gives says = λ short. gives (says short)
cut_short_says _ A B gives says = tt
