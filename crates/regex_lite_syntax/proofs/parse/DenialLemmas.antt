-- What the refusal of one reading says of another.
use Rattle.regex_lite_syntax.proofs.Common.{◌+◌, [], ◌++◌, IfErr, IsTrue, Ok, Err, Result, sym}
use Rattle.regex_lite_syntax.proofs.Common.{refl, subst, append-nil, is_cut_short, Refusal}
use Rattle.regex_lite_syntax.proofs.Common.{syntax_error, too_deep, too_many_groups}
use Rattle.regex_lite_syntax.proofs.Common.{out_of_memory, CanRead}
use Rattle.regex_lite_syntax.proofs.Common.{BeginsCapture, BeginsTooMany, NoReading, Refuses}
use Rattle.regex_lite_syntax.proofs.Common.{Denies, Text, SyntaxFault, Parser}
use Rattle.regex_lite_syntax.specs.Limits.{PassesGroups}

-- the text itself has no such reading
pub none_now : (fault : SyntaxFault) (R : Text → Type 0) (t : Text) → NoReading fault R t → R t → ⊥
none_now fault R t none r = none [] (λ short. refl) (subst R (sym (append-nil t)) r)

-- and if the pattern is cut short, no more is said
pub none_at_end : (fault : SyntaxFault) (R : Text → Type 0) (t : Text)
    → IsTrue (is_cut_short fault) → (R t → ⊥) → NoReading fault R t
none_at_end fault R t short none more follows r =
    none (subst R (append-nil t) (subst (λ m. R (t ++ m)) (follows short) r))

-- where each reading of the one text gives one of the other, the other's refusal is its own
pub none_of_other : (fault : SyntaxFault) (R S : Text → Type 0) (t u : Text)
    → ((more : Text) → R (t ++ more) → S (u ++ more)) → NoReading fault S u → NoReading fault R t
none_of_other fault R S t u gives none more follows r = none more follows (gives more r)

-- the same where a pure reader refuses
pub none_of_part : {T : Type 0} (r : Result T SyntaxFault) (R S : Text → Type 0) (t u : Text)
    → ((more : Text) → R (t ++ more) → S (u ++ more))
    → IfErr r (λ fault. NoReading fault S u) → IfErr r (λ fault. NoReading fault R t)
none_of_part (Ok v) R S t u gives none = tt
none_of_part (Err fault) R S t u gives none = none_of_other fault R S t u gives none

-- a refusal that says the one says what follows from it
pub refuses_more : (e : Refusal) (s s' : SyntaxFault → Type 0) (n g n' g' : Type 0)
    → ((fault : SyntaxFault) → s fault → s' fault) → (n → n') → (g → g') → Refuses e s n g
    → Refuses e s' n' g'
refuses_more (syntax_error fault) s s' n g n' g' of_s of_n of_g says = of_s fault says
refuses_more too_deep s s' n g n' g' of_s of_n of_g says = of_n says
refuses_more too_many_groups s s' n g n' g' of_s of_n of_g says = of_g says
refuses_more out_of_memory s s' n g n' g' of_s of_n of_g says = tt
refuses_more _ s s' n g n' g' of_s of_n of_g says = absurd says

-- what denies a reading of the one text refuses what needs a reading of it
pub denial_refuses : (e : Refusal) (R S : Text → Type 0) (t u : Text) (n g : Type 0)
    → ((more : Text) → S (u ++ more) → R (t ++ more)) → Denies e R t
    → Refuses e (λ fault. NoReading fault S u) n g
denial_refuses e R S t u n g gives denied =
    refuses_more e (λ fault. NoReading fault R t) (λ fault. NoReading fault S u) ⊥ ⊥ n g
    (λ fault. none_of_other fault S R u t gives) (λ none. absurd none) (λ none. absurd none) denied

-- what denies the one reading denies each that would give it
pub denies_part : (e : Refusal) (R S : Text → Type 0) (t u : Text)
    → ((more : Text) → S (u ++ more) → R (t ++ more)) → Denies e R t → Denies e S u
denies_part e R S t u gives denied = denial_refuses e R S t u ⊥ ⊥ gives denied

-- what refuses to number a group that begins there refuses to read on
pub number_refuses : (e : Refusal) (p : Parser) (t : Text)
    → Refuses e (λ _. ⊥) ⊥ (PassesGroups (p.groups + 1))
    → BeginsCapture p t → Refuses e (λ fault. NoReading fault (CanRead p) t) ⊥ (BeginsTooMany p t)
number_refuses e p t says begins =
    refuses_more e (λ _. ⊥) (λ fault. NoReading fault (CanRead p) t) ⊥ (PassesGroups (p.groups + 1))
    ⊥ (BeginsTooMany p t)
    (λ fault none. absurd none) (λ none. none) (λ passes. (passes, begins)) says
