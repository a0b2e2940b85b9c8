-- What an error says about the text that was read.
use Rattle.std.specs.Prelude.{◌≡◌, [], ◌++◌, IsTrue}
use Rattle.regex_lite_syntax.specs.declared.error.syntax.SyntaxFault.{SyntaxFault}
use Rattle.regex_lite_syntax.specs.Errors.{Refusal, syntax_error, too_deep, too_many_groups}
use Rattle.regex_lite_syntax.specs.Errors.{passed_limit, out_of_memory, refused_replacement}
use Rattle.regex_lite_syntax.specs.Characters.{AreCharacters}
use Rattle.regex_lite_syntax.specs.CutShort.{is_cut_short}
use Rattle.regex_lite_syntax.specs.Text.{Text}

-- what may follow the pattern in which this fault was found, with the same fault: if a pattern is
-- cut short, nothing follows for a longer one
abbrev pub MayFollow : SyntaxFault → (more : Text) → Type 0
MayFollow fault more = IsTrue (is_cut_short fault) → more ≡ []

-- after this fault the text has no such reading, nor has a longer one that begins with it
abbrev pub NoReading : SyntaxFault → (Reading : Text → Type 0) → Text → Type 0
NoReading fault Reading t = (more : Text) → MayFollow fault more → ¬ Reading (t ++ more)

-- what an error says: what is given for a syntax fault, for the nesting and for the number of
-- groups; memory may run out at any time, and there is no other error
abbrev pub Refuses : Refusal → (syntax : SyntaxFault → Type 0) → (nesting groups : Type 0)
    → Type 0
Refuses (syntax_error fault) syntax nesting groups = syntax fault
Refuses too_deep syntax nesting groups = nesting
Refuses too_many_groups syntax nesting groups = groups
Refuses out_of_memory syntax nesting groups = Unit {0}
Refuses (passed_limit limit) syntax nesting groups = ⊥
Refuses refused_replacement syntax nesting groups = ⊥

-- the error of a function that may need memory: a syntax fault says that there is no such reading
abbrev pub Denies : Refusal → (Reading : Text → Type 0) → Text → Type 0
Denies error Reading t = Refuses error (λ fault. NoReading fault Reading t) ⊥ ⊥

-- more of the pattern completes what the text begins: with these characters after it, the text has
-- such a reading up to whatever follows them
pub record Completable (Reads : (t rest : Text) → Type 0) (t : Text) : Type 0 where
  pub more : Text
  pub characters : AreCharacters more
  pub reads : (next : Text) → Reads (t ++ (more ++ next)) next

-- if the fault is that the pattern is cut short, more of it completes what the text begins
abbrev pub CanComplete : SyntaxFault → (Reads : (t rest : Text) → Type 0) → Text → Type 0
CanComplete fault Reads t = IsTrue (is_cut_short fault) → Completable Reads t

-- if the error is that the pattern is cut short, this holds
abbrev pub IfCutShort : Refusal → Type 0 → Type 0
IfCutShort (syntax_error fault) says = IsTrue (is_cut_short fault) → says
IfCutShort _ says = Unit {0}
