use Rattle.std.proofs.Common.{refl}
use Rattle.unicode.specs.GeneralCategory.{general_category}
use Rattle.unicode.proofs.GeneralCategoryLemmas.{general_category_stepped}
use Rattle.unicode.proofs.TableComputing.{tables}
use Rattle.unicode.proofs.RunsLemmas.{IsSetOf-Stepped}
use Rattle.unicode.proofs.Stepped.{map_stepped}
use Rattle.regex_lite_syntax.specs.Grammar.GroupNames.{is_number}
use Rattle.regex_lite_syntax.proofs.parse.name.numeric.runs.Goals as goal

pub returns : goal.returns
unfolding tables general_category_stepped
returns c = IsSetOf-Stepped _ _ (map_stepped is_number general_category general_category_stepped) refl
