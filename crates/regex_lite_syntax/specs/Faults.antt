-- The cause of an error in the code as the refusal that it stands for, and back.
use Rattle.std.specs.Prelude.{◌≡◌, refl}
use Rattle.regex_lite_syntax.specs.declared.error.Cause.{Cause}
use Rattle.regex_lite_syntax.specs.declared.error.Cause.TheVariants.{Syntax, Nesting, Groups}
use Rattle.regex_lite_syntax.specs.declared.error.Cause.TheVariants.{Limit, Memory, Replace}
use Rattle.regex_lite_syntax.specs.Errors.{Refusal, syntax_error, too_deep, too_many_groups}
use Rattle.regex_lite_syntax.specs.Errors.{passed_limit, out_of_memory, refused_replacement}

abbrev pub refusal_of : Cause → Refusal
refusal_of (Syntax rule) = syntax_error rule
refusal_of Nesting = too_deep
refusal_of Groups = too_many_groups
refusal_of (Limit limit) = passed_limit limit
refusal_of Memory = out_of_memory
refusal_of Replace = refused_replacement

abbrev pub fault_of : Refusal → Cause
fault_of (syntax_error rule) = Syntax rule
fault_of too_deep = Nesting
fault_of too_many_groups = Groups
fault_of (passed_limit limit) = Limit limit
fault_of out_of_memory = Memory
fault_of refused_replacement = Replace

-- the refusal determines the cause
pub fault_back : (fault : Cause) → fault_of (refusal_of fault) ≡ fault
fault_back (Syntax rule) = refl
fault_back Nesting = refl
fault_back Groups = refl
fault_back (Limit limit) = refl
fault_back Memory = refl
fault_back Replace = refl
