use Rattle.regex_lite_meta.proofs.Common.{◌+◌, sym, ap, ◌∙◌}
use Rattle.regex_lite_meta.proofs.lazy_dfa.classes.Classes.wide_ahead.Goals as goal

pub returns-clause-ahead : goal.returns-clause-ahead
returns-clause-ahead c = record {
  inside = c.requires.inside;
  character = c.in-Some.c;
  begins = sym c.first_char.ensures ∙ c.in-Some.is;
  ends = ap (λ z. c.args.at + z) c.width_of.ensures;
  is_class = c.class_near.ensures.same;
}
