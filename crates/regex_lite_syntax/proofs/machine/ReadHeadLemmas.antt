-- What the parser reads of a group's head is a step of the machine, and where it refuses there is
-- none.
use Rattle.regex_lite_syntax.proofs.Common.{◌≡◌, ◌+◌, Bool, ◌≢◌, List, [], ◌∷◌, ◌++◌, length}
use Rattle.regex_lite_syntax.proofs.Common.{IsTrue, Some, None, Contains, sym, refl, ap, ◌∙◌, subst}
use Rattle.regex_lite_syntax.proofs.Common.{inl, inr, is_cut_short, FlagLetters, Gap, WholeGap}
use Rattle.regex_lite_syntax.proofs.Common.{NameWritten, NameOpening, Named, NamesDiffer}
use Rattle.regex_lite_syntax.proofs.Common.{non_capturing, capturing, numbered_on, named_on, inside}
use Rattle.regex_lite_syntax.proofs.Common.{Head, plain, Directive, sets, EndedFlags, State, Step}
use Rattle.regex_lite_syntax.proofs.Common.{EndsInOpening, StepsTo, CanRead, BeginsCapture}
use Rattle.regex_lite_syntax.proofs.Common.{NoReading, Text, Begins, the, SyntaxFault, Flags}
use Rattle.regex_lite_syntax.proofs.Common.{Parser}
use Rattle.std.specs.Prelude.{max as greatest}
use Rattle.regex_lite_syntax.specs.Parser.NameOpenings.{Unnamed}
use Rattle.regex_lite_syntax.specs.Parser.Machine.{opened, with_items}
use Rattle.regex_lite_syntax.specs.Parser.States.{state, OpensGroup, OpensCapture, Directs}
use Rattle.regex_lite_syntax.proofs.grammar.NameLemmas.{differ_more, no_second}
use Rattle.regex_lite_syntax.proofs.grammar.HeadLemmas.{numbered_head, named_head}
use Rattle.regex_lite_syntax.proofs.grammar.NameOpeningLemmas.{opening_question}
use Rattle.regex_lite_syntax.proofs.grammar.LongerGapLemmas.{whole_longer}
use Rattle.regex_lite_syntax.proofs.grammar.LongerHeadLemmas.{opening_longer, named_longer}
use Rattle.regex_lite_syntax.proofs.machine.OneStepLemmas.{step_once}
use Rattle.regex_lite_syntax.proofs.machine.StepLemmas.{at_once, step_open, step_named}
use Rattle.regex_lite_syntax.proofs.machine.StepLemmas.{step_direct, no_flags, no_name, no_empty}
use Rattle.regex_lite_syntax.proofs.machine.ReadStepLemmas.{fresh_step}

-- a group under flags
pub reads_head : (p q : Parser) (t begun first rest : Text) (new : Flags) → t ≡ the "(" ∷ begun
    → Gap p.here.flags.ignore_whitespace begun (the "?" ∷ first)
    → FlagLetters p.here.flags first (the ":" ∷ rest) new → OpensGroup p q non_capturing new
    → StepsTo p q t rest
unfolding state opened
reads_head p q t begun first rest new e gap letters opens d =
    let s = state p t d in
    let level = length s.frames in
    let into = inside level s.point new rest in
    let head : Head level s.point into non_capturing =
    plain begun first rest new e gap letters refl refl in (
      greatest d (level + 1),
      fresh_step (step_open s s.point into non_capturing (at_once s.point) head)
          (opens t rest d) refl,
    )

pub reads_directive : (p q : Parser) (t begun first rest : Text) (new : Flags) → t ≡ the "(" ∷ begun
    → Gap p.here.flags.ignore_whitespace begun (the "?" ∷ first) → first ≢ the ")" ∷ rest
    → FlagLetters p.here.flags first (the ")" ∷ rest) new → Directs p q new → StepsTo p q t rest
unfolding state with_items
reads_directive p q t begun first rest new e gap some letters directs d =
    let s = state p t d in
    let next = record s.point { rest = rest; flags = new } in
    let directive : Directive s.point next = sets begun first rest new e gap some letters refl in
    (d, fresh_step (step_direct s s.point next (at_once s.point) directive) (directs t rest d) refl)

-- a group that is numbered alone
pub reads_numbered : (p q : Parser) (t rest u : Text) → t ≡ the "(" ∷ rest
    → WholeGap p.here.flags.ignore_whitespace rest u → (Begins (the "?") u → ⊥)
    → OpensCapture p q None
    → StepsTo p q t rest
unfolding state opened
reads_numbered p q t rest u e whole none opens d =
    let s = state p t d in
    let level = length s.frames in
    let head = numbered_head level s.point rest u e whole none in (
      greatest d (level + 1),
      fresh_step (step_open s s.point _ _ (at_once s.point) head) (opens t rest d) refl,
    )

pub begins_numbered : (p : Parser) (t rest u : Text) → t ≡ the "(" ∷ rest
    → WholeGap p.here.flags.ignore_whitespace rest u → (Begins (the "?") u → ⊥) → BeginsCapture p t
unfolding state
begins_numbered p t rest u e whole none = (
  None,
  λ d. let s = state p t d in (_, numbered_head (length s.frames) s.point rest u e whole none),
)

-- a group with a name, where the parser has first noted the name
pub reads_named : (p q : Parser) (noted : List Text) (t begun first rest name : Text)
    → t ≡ the "(" ∷ begun → WholeGap p.here.flags.ignore_whitespace begun first
    → Named first rest name
    → (Contains p.names name → ⊥)
    → noted ≡ p.names ++ name ∷ []
    → OpensCapture (record p { names = noted }) q (Some name) → StepsTo p q t rest
unfolding state opened
reads_named p q noted t begun first rest name e whole named fresh is opens d =
    let s = state p t d in
    let level = length s.frames in
    let into = named_on (numbered_on (inside level s.point s.point.flags rest)) name in
    let kind = capturing (s.point.groups + 1) (Some name) in
    let same : state q rest (greatest d (level + 1)) ≡ opened s s.point into kind =
    opens t rest d ∙ ap (λ names. opened s s.point (record into { names = names }) kind) is in (
      greatest d (level + 1),
      (
        subst (λ x. Step s x) (sym same)
            (step_named s s.point begun first rest name (at_once s.point) e whole.0 named),
        λ differ. subst (λ names. NamesDiffer names) (sym (ap (λ (x : State). x.point.names) same))
            (differ_more s.point.names name differ fresh),
      ),
    )

pub begins_named : (p : Parser) (t begun first rest name : Text) → t ≡ the "(" ∷ begun
    → WholeGap p.here.flags.ignore_whitespace begun first → Named first rest name
    → BeginsCapture p t
unfolding state
begins_named p t begun first rest name e whole named = (
  Some name,
  λ d. let s = state p t d in
      (_, named_head (length s.frames) s.point begun first rest name e whole.0 named),
)

-- before a `?`, and so before what opens a name, the gap of a longer text ends too
pub longer_question : (more : Text) (verbose : Bool) (begun u first : Text)
    → WholeGap verbose begun u → u ≡ the "?" ∷ first
    → WholeGap verbose (begun ++ more) (the "?" ∷ (first ++ more))
longer_question more verbose begun u first whole e =
    whole_longer more verbose begun (the "?" ∷ first)
    (subst (λ v. WholeGap verbose begun v) e whole) (λ none. cc none)

longer_whole : (more : Text) (verbose : Bool) (begun u past : Text) → WholeGap verbose begun u
    → NameOpening u past → WholeGap verbose (begun ++ more) (u ++ more)
longer_whole more verbose begun u past whole opens =
    whole_longer more verbose begun u whole (λ none. cc (none, (opening_question u past opens).1))

-- where a name is opened and none follows, nothing can be read
pub reads_no_name : (fault : SyntaxFault) (p : Parser) (t begun first past : Text)
    → t ≡ the "(" ∷ begun → WholeGap p.here.flags.ignore_whitespace begun first
    → NameOpening first past
    → NoReading fault (λ u. (rest : Text) × (name : Text) × NameWritten u rest name) past
    → NoReading fault (CanRead p) t
unfolding state
reads_no_name fault p t begun first past e whole opens none more follows can =
    let s = state p (t ++ more) can.0 in
    let verbose = s.point.flags.ignore_whitespace in
    no_name s can.1 s.point (begun ++ more) (first ++ more) (past ++ more) (at_once s.point)
    (ap (λ u. u ++ more) e) (longer_whole more verbose begun first past whole opens)
    (opening_longer more opens) (λ rest name written. none more follows (rest, name, written)) can.2

-- nor where the name stands that another group has
pub reads_no_second : (fault : SyntaxFault) (p : Parser) (t begun first rest name : Text)
    → t ≡ the "(" ∷ begun → WholeGap p.here.flags.ignore_whitespace begun first
    → Named first rest name → Contains p.names name → NoReading fault (CanRead p) t
unfolding state opened
reads_no_second fault p t begun first rest name e whole named twice more follows can =
    let s = state p (t ++ more) can.0 in
    let verbose = s.point.flags.ignore_whitespace in
    let gap = (longer_whole more verbose begun first named.past whole named.opens).0 in
    let st =
    step_named s s.point (begun ++ more) (first ++ more) (rest ++ more) name (at_once s.point)
    (ap (λ u. u ++ more) e) gap (named_longer more named) in
    let same = step_once s can.1 _ can.2 st in
    no_second s.point.names name twice
    (subst (λ names. NamesDiffer names) (ap (λ (x : State). x.point.names) same) can.3)

-- nor where past the `?` no name stands and no flags do
pub reads_no_flags : (fault : SyntaxFault) (p : Parser) (t begun u first : Text)
    → t ≡ the "(" ∷ begun → WholeGap p.here.flags.ignore_whitespace begun u → u ≡ the "?" ∷ first
    → Unnamed u → (EndsInOpening (the "?" ∷ first) → IsTrue (is_cut_short fault))
    → NoReading fault
    (λ v. (rest : Text) × (new : Flags) × EndedFlags p.here.flags v rest new) first
    → NoReading fault (CanRead p) t
unfolding state
reads_no_flags fault p t begun u first e whole begins unnamed cut_short none more follows can =
    let s = state p (t ++ more) can.0 in
    let verbose = s.point.flags.ignore_whitespace in
    let mends : EndsInOpening u → more ≡ [] =
    λ inside. follows (cut_short (subst (λ v. EndsInOpening v) begins inside)) in
    let same = ap (λ v. v ++ more) begins in
    no_flags s can.1 s.point (begun ++ more) (first ++ more) (at_once s.point)
    (ap (λ v. v ++ more) e) (longer_question more verbose begun u first whole begins)
    (λ rest name named.
    unnamed more rest name mends (subst (λ v. Named v rest name) (sym same) named))
    (λ rest new letters.
    none more follows (the ":" ∷ rest, new, record { letters = letters; ends = inl refl }))
    (λ rest new letters.
    none more follows (the ")" ∷ rest, new, record { letters = letters; ends = inr refl })) can.2

-- nor where nothing stands there
pub reads_no_empty : (fault : SyntaxFault) (p : Parser) (t begun u rest : Text)
    → t ≡ the "(" ∷ begun → WholeGap p.here.flags.ignore_whitespace begun u
    → u ≡ the "?" ∷ the ")" ∷ rest → NoReading fault (CanRead p) t
unfolding state
reads_no_empty fault p t begun u rest e whole begins more follows can =
    let s = state p (t ++ more) can.0 in
    let verbose = s.point.flags.ignore_whitespace in
    no_empty s can.1 s.point (begun ++ more) (rest ++ more) (at_once s.point)
    (ap (λ v. v ++ more) e) (longer_question more verbose begun u (the ")" ∷ rest) whole begins)
    can.2
