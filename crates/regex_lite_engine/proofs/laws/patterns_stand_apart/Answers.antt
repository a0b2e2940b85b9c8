use Rattle.regex_lite_engine.proofs.laws.several.ApartLemmas.{way_by_itself, way_among}
use Rattle.regex_lite_engine.proofs.laws.patterns_stand_apart.Goals as goal

pub returns : goal.returns
returns c = λ trees number tree there haystack i arrows j. (
  way_by_itself trees number tree there haystack i arrows j,
  way_among trees number tree there haystack i arrows j,
)
