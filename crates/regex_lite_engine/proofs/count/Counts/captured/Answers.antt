use Rattle.regex_lite_engine.proofs.Common.{option_map, arith}
use Rattle.regex_lite_syntax.specs.Tree.Views.{text_of_name}
use Rattle.regex_lite_engine.proofs.count.Counts.captured.Goals as goal

pub returns : goal.returns
returns c = λ body counted. record {
  places = omega (arith, counted.places);
  arrows = omega (arith, counted.arrows);
  choice_arrows = counted.choice_arrows;
  reading = counted.reading;
  ranges = counted.ranges;
  names_size = omega (arith, counted.names_size, c.name_size.ensures);
  properties = c.captured.ensures (option_map text_of_name c.args.name.now) body counted.properties;
}
