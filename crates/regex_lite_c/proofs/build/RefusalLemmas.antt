-- The numbers of refusals.
use Rattle.regex_lite_c.proofs.Common.{◌<◌, lit<, number_of}
use Rattle.regex_lite_syntax.specs.declared.error.ErrorKind.{ErrorKind}
use Rattle.regex_lite_syntax.specs.declared.error.ErrorKind.TheVariants as kind

-- they are greater than those of what is reported without an error
pub above_five : (k : ErrorKind) → 5 < number_of k
above_five kind.Syntax = lit< tt
above_five kind.Nesting = lit< tt
above_five kind.Groups = lit< tt
above_five kind.Size = lit< tt
above_five kind.Places = lit< tt
above_five kind.Slots = lit< tt
above_five kind.Memory = lit< tt
above_five kind.Replace = lit< tt
