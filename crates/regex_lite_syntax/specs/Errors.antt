-- Refusals, which errors stand for: their kinds and their texts.
use Rattle.std.specs.Prelude.{ℕ, List, codes}
use Rattle.regex_lite_syntax.specs.declared.error.ErrorKind.{ErrorKind}
use Rattle.regex_lite_syntax.specs.declared.error.ErrorKind.TheVariants as kind
use Rattle.regex_lite_syntax.specs.declared.error.LimitFault.{LimitFault}
use Rattle.regex_lite_syntax.specs.declared.error.LimitFault.TheVariants as limit
use Rattle.regex_lite_syntax.specs.declared.error.syntax.SyntaxFault.{SyntaxFault}
use Rattle.regex_lite_syntax.specs.FaultTexts.{fault_text}

pub data Refusal : Type 0 where
  -- the pattern breaks this rule of the grammar
  syntax_error : (rule : SyntaxFault) → Refusal
  -- the pattern exceeds the limit on nesting
  too_deep : Refusal
  -- the pattern has more groups than can be numbered
  too_many_groups : Refusal
  -- the compiled pattern exceeds this limit
  passed_limit : (limit : LimitFault) → Refusal
  -- memory ran out
  out_of_memory : Refusal
  -- a replacer returned an error
  refused_replacement : Refusal

-- the kind of a refusal
abbrev pub kind_of : Refusal → ErrorKind
kind_of (syntax_error rule) = kind.Syntax
kind_of too_deep = kind.Nesting
kind_of too_many_groups = kind.Groups
kind_of (passed_limit limit.Size) = kind.Size
kind_of (passed_limit limit.Places) = kind.Places
kind_of (passed_limit limit.Slots) = kind.Slots
kind_of out_of_memory = kind.Memory
kind_of refused_replacement = kind.Replace

-- the text of a refusal
abbrev pub text_of : Refusal → List ℕ
text_of (syntax_error rule) = fault_text rule
text_of too_deep = codes "pattern has too much nesting"
text_of too_many_groups = codes "too many capture groups"
text_of (passed_limit limit.Size) = codes "compiled regex exceeded size limit"
text_of (passed_limit limit.Places) = codes "exhausted state IDs, too many states"
text_of (passed_limit limit.Slots) = codes "capture group slots exhausted"
text_of out_of_memory = codes "out of memory"
text_of refused_replacement = codes "replacement refused"
