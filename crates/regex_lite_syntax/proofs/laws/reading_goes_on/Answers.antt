use Rattle.regex_lite_syntax.proofs.machine.LongerRunLemmas.{read_longer}
use Rattle.regex_lite_syntax.proofs.laws.reading_goes_on.Goals as goal

pub returns : goal.returns
returns c = read_longer
