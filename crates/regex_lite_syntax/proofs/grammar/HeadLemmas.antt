-- The head of a group and a directive are read in one way, and do not stand at one place.
use Rattle.regex_lite_syntax.proofs.Common.{◌≡◌, ℕ, ◌+◌, Bool, true, ◌≢◌, ◌∷◌, Some, None, sym}
use Rattle.regex_lite_syntax.proofs.Common.{refl, ap, ◌∙◌, subst, arith, FlagLetters, Gap, EndsGap}
use Rattle.regex_lite_syntax.proofs.Common.{WholeGap, Named, GroupKind, capturing, numbered_on}
use Rattle.regex_lite_syntax.proofs.Common.{named_on, inside, Head, numbered, plain, Directive}
use Rattle.regex_lite_syntax.proofs.Common.{sets, Point, Text, Begins, the, Flags}
use Rattle.regex_lite_syntax.specs.Grammar.Heads.{named}
use Rattle.regex_lite_syntax.proofs.ListLemmas.{same_tail}
use Rattle.regex_lite_syntax.proofs.grammar.GapLemmas.{gap_once}
use Rattle.regex_lite_syntax.proofs.grammar.FlagLetterLemmas.{colon_ends_flags, paren_ends_flags}
use Rattle.regex_lite_syntax.proofs.grammar.FlagLetterLemmas.{letters_once, other_end}
use Rattle.regex_lite_syntax.proofs.grammar.NameLemmas.{named_once}
use Rattle.regex_lite_syntax.proofs.grammar.NameOpeningLemmas.{named_question, opening_or_plain}
use Rattle.regex_lite_syntax.proofs.grammar.NameOpeningLemmas.{opening_or_directive}
use Rattle.regex_lite_syntax.proofs.grammar.LongerGapLemmas.{question_ends, no_question_past}

named_ends : (t rest name : Text) → Named t rest name → EndsGap true t
named_ends t rest name n =
    let question = named_question t rest name n in
    subst (λ u. EndsGap true u) (sym question.1) (question_ends question.0)

-- what stands past a group's `(` where no gap goes on
same_first : (verbose : Bool) (t opened opened' first first' : Text) → t ≡ the "(" ∷ opened
    → t ≡ the "(" ∷ opened' → Gap verbose opened first → Gap verbose opened' first'
    → EndsGap true first
    → EndsGap true first' → first ≡ first'
same_first verbose t opened opened' first first' e e' g g' ends ends' =
    let from = subst (λ u. Gap verbose u first') (sym (same_tail (sym e ∙ e'))) g' in
    gap_once verbose opened first first' g from ends ends'

-- what stands past a group's `(` and `?`
same_past : (verbose : Bool) (t opened opened' rest rest' : Text) → t ≡ the "(" ∷ opened
    → t ≡ the "(" ∷ opened'
    → Gap verbose opened (the "?" ∷ rest) → Gap verbose opened' (the "?" ∷ rest') → rest ≡ rest'
same_past verbose t opened opened' rest rest' e e' g g' =
    let ends = question_ends rest in
    same_tail (same_first verbose t opened opened' _ _ e e' g g' ends (question_ends rest'))

-- where no `?` stands past a group's `(`, no flags and no name do
bare_or_question : (verbose : Bool) (t rest opened first : Text) → t ≡ the "(" ∷ rest
    → ((first : Text) → Gap verbose rest (the "?" ∷ first) → ⊥) → t ≡ the "(" ∷ opened
    → Gap verbose opened (the "?" ∷ first) → ⊥
bare_or_question verbose t rest opened first e none e' g =
    none first (subst (λ u. Gap verbose u (the "?" ∷ first)) (same_tail (sym e' ∙ e)) g)

bare_or_named : (verbose : Bool) (t rest opened first past name : Text) → t ≡ the "(" ∷ rest
    → ((first : Text) → Gap verbose rest (the "?" ∷ first) → ⊥) → t ≡ the "(" ∷ opened
    → Gap verbose opened first → Named first past name → ⊥
bare_or_named verbose t rest opened first past name e none e' g n =
    let question = named_question first past name n in
    bare_or_question verbose t rest opened question.0 e none e'
    (subst (λ u. Gap verbose opened u) question.1 g)

-- a name's text stands past a group's `(` where flags do
same_named : (verbose : Bool) (t opened opened' first first' rest name : Text)
    → t ≡ the "(" ∷ opened
    → t ≡ the "(" ∷ opened' → Gap verbose opened first → Gap verbose opened' (the "?" ∷ first')
    → Named first rest name → Named (the "?" ∷ first') rest name
same_named verbose t opened opened' first first' rest name e e' g g' n =
    let ends = named_ends first rest name n in
    let same = same_first verbose t opened opened' _ _ e e' g g' ends (question_ends first') in
    subst (λ u. Named u rest name) same n

-- two heads lead to the same
pub record SameHead (p p' : Point) (kind kind' : GroupKind) : Type 0 where
  pub same_point : p ≡ p'
  pub same_kind : kind ≡ kind'

pub head_once : {level : ℕ} {p q q' : Point} {kind kind' : GroupKind} → Head level p q kind
    → Head level p q' kind' → SameHead q q' kind kind'
head_once {level} {p} (numbered r e none h k) (numbered r' e' none' h' k') =
    let points = ap (λ t. numbered_on (inside level p p.flags t)) (same_tail (sym e ∙ e')) in
    record { same_point = h ∙ points ∙ sym h'; same_kind = k ∙ sym k' }
head_once {p} (numbered r e none h k) (named o' f' r' w' e' g' n' h' k') =
    absurd (bare_or_named p.flags.ignore_whitespace p.rest r o' f' r' w' e none e' g' n')
head_once {p} (numbered r e none h k) (plain o' f' r' new' e' g' letters' h' k') =
    absurd (bare_or_question p.flags.ignore_whitespace p.rest r o' f' e none e' g')
head_once {p} (named o f r w e g n h k) (numbered r' e' none' h' k') =
    absurd (bare_or_named p.flags.ignore_whitespace p.rest r' o f r w e' none' e g n)
head_once {level} {p} (named o f r w e g n h k) (named o' f' r' w' e' g' n' h' k') =
    let ends = named_ends f r w n in
    let first =
    same_first p.flags.ignore_whitespace p.rest o o' f f' e e' g g' ends (named_ends f' r' w' n') in
    let same = named_once f r r' w w' n (subst (λ t. Named t r' w') (sym first) n') in
    let further = ap (λ t. named_on (numbered_on (inside level p p.flags t)) w) same.0 in
    let called = ap (λ v. named_on (numbered_on (inside level p p.flags r')) v) same.1 in
    let kinds = ap (λ v. capturing (p.groups + 1) (Some v)) same.1 in
    record { same_point = h ∙ further ∙ called ∙ sym h'; same_kind = k ∙ kinds ∙ sym k' }
head_once {p} (named o f r w e g n h k) (plain o' f' r' new' e' g' letters' h' k') =
    let there = same_named p.flags.ignore_whitespace p.rest o o' f f' r w e e' g g' n in
    absurd (opening_or_plain p.flags new' f' there.past r' there.opens letters')
head_once {p} (plain o f r new e g letters h k) (numbered r' e' none' h' k') =
    absurd (bare_or_question p.flags.ignore_whitespace p.rest r' o f e' none' e g)
head_once {p} (plain o f r new e g letters h k) (named o' f' r' w' e' g' n' h' k') =
    let there = same_named p.flags.ignore_whitespace p.rest o' o f' f r' w' e' e g' g n' in
    absurd (opening_or_plain p.flags new f there.past r there.opens letters)
head_once {level} {p} (plain o f r new e g letters h k) (plain o' f' r' new' e' g' letters' h' k') =
    let past = same_past p.flags.ignore_whitespace p.rest o o' f f' e e' g g' in
    let from = subst (λ t. FlagLetters p.flags t (the ":" ∷ r') new') (sym past) letters' in
    let ends = colon_ends_flags in
    let same = letters_once p.flags new new' f (the ":") (the ":") r r' ends ends letters from in
    let points = ap (λ x. inside level p x r) same.0 ∙ ap (inside level p new') same.2 in
    record { same_point = h ∙ points ∙ sym h'; same_kind = k ∙ sym k' }

pub directive_once : {p q q' : Point} → Directive p q → Directive p q' → q ≡ q'
directive_once {p} (sets o f r new e g n letters h) (sets o' f' r' new' e' g' n' letters' h') =
    let past = same_past p.flags.ignore_whitespace p.rest o o' f f' e e' g g' in
    let from = subst (λ t. FlagLetters p.flags t (the ")" ∷ r') new') (sym past) letters' in
    let ends = paren_ends_flags in
    let same = letters_once p.flags new new' f (the ")") (the ")") r r' ends ends letters from in
    let flags = ap (λ x. record p { rest = r; flags = x }) same.0 in
    h ∙ flags ∙ ap (λ t. record p { rest = t; flags = new' }) same.2 ∙ sym h'

pub head_or_directive : {level : ℕ} {p q q' : Point} {kind : GroupKind} → Head level p q kind
    → Directive p q' → ⊥
head_or_directive {p} (numbered r e none h k) (sets o' f' r' new' e' g' n' letters' h') =
    bare_or_question p.flags.ignore_whitespace p.rest r o' f' e none e' g'
head_or_directive {p} (named o f r w e g n h k) (sets o' f' r' new' e' g' n' letters' h') =
    let there = same_named p.flags.ignore_whitespace p.rest o o' f f' r w e e' g g' n in
    opening_or_directive p.flags new' f' there.past r' there.opens letters'
head_or_directive {p} (plain o f r new e g letters h k) (sets o' f' r' new' e' g' n' letters' h') =
    let past = same_past p.flags.ignore_whitespace p.rest o o' f f' e e' g g' in
    let from = subst (λ t. FlagLetters p.flags t (the ")" ∷ r') new') (sym past) letters' in
    other_end p.flags new new' f (the ":") (the ")") r r' colon_ends_flags paren_ends_flags
    (λ c. omega (arith, c)) letters from

-- where no `?` stands past the gap after a `(`, a numbered group begins
pub numbered_head : (level : ℕ) (p : Point) (rest u : Text) → p.rest ≡ the "(" ∷ rest
    → WholeGap p.flags.ignore_whitespace rest u → (Begins (the "?") u → ⊥)
    → Head level p (numbered_on (inside level p p.flags rest)) (capturing (p.groups + 1) None)
numbered_head level p rest u e whole none =
    numbered rest e (no_question_past p.flags.ignore_whitespace rest u whole none) refl refl

-- where a name stands in its brackets, a named group begins
pub named_head : (level : ℕ) (p : Point) (opened first rest name : Text) → p.rest ≡ the "(" ∷ opened
    → Gap p.flags.ignore_whitespace opened first → Named first rest name
    → Head level p (named_on (numbered_on (inside level p p.flags rest)) name)
    (capturing (p.groups + 1) (Some name))
named_head level p opened first rest name e g n = named opened first rest name e g n refl refl

-- what stands past the gap after a `(` and a `?` shows that no group begins there
pub no_head : (level : ℕ) (p q : Point) (kind : GroupKind) (opened first : Text)
    → p.rest ≡ the "(" ∷ opened
    → WholeGap p.flags.ignore_whitespace opened (the "?" ∷ first)
    → ((rest name : Text) → Named (the "?" ∷ first) rest name → ⊥)
    → ((rest : Text) (new : Flags) → FlagLetters p.flags first (the ":" ∷ rest) new → ⊥)
    → Head level p q kind → ⊥
no_head level p q kind opened first e whole no_name no_colon (numbered r e' none h k) =
    bare_or_question p.flags.ignore_whitespace p.rest r opened first e' none e whole.0
no_head level p q kind opened first e whole no_name no_colon (named o f r w e' g n h k) =
    no_name r w (same_named p.flags.ignore_whitespace p.rest o opened f first r w e' e g whole.0 n)
no_head level p q kind opened first e whole no_name no_colon (plain o f r new e' g letters h k) =
    let past = same_past p.flags.ignore_whitespace p.rest o opened f first e' e g whole.0 in
    no_colon r new (subst (λ t. FlagLetters p.flags t (the ":" ∷ r) new) past letters)

-- and that no directive stands there
pub no_directive : (p q : Point) (opened first : Text) → p.rest ≡ the "(" ∷ opened
    → WholeGap p.flags.ignore_whitespace opened (the "?" ∷ first)
    → ((rest : Text) (new : Flags) → first ≢ the ")" ∷ rest
    → FlagLetters p.flags first (the ")" ∷ rest) new → ⊥)
    → Directive p q → ⊥
no_directive p q opened first e whole none (sets o f r new e' g n letters h) =
    let past = same_past p.flags.ignore_whitespace p.rest o opened f first e' e g whole.0 in
    none r new (λ empty. n (past ∙ empty))
    (subst (λ t. FlagLetters p.flags t (the ")" ∷ r) new) past letters)
