use Rattle.regex_lite_meta.proofs.Common.{refl}
use Rattle.regex_lite_meta.proofs.lazy_dfa.AnewLemmas.{none_before}
use Rattle.regex_lite_meta.proofs.lazy_dfa.run.Position.on_the_way.Goals as goal

pub returns : goal.returns
returns c = λ table haystack entries s p automaton is on. record {
  p = p;
  is = is;
  from = s;
  begun = none_before table haystack entries s;
  own_from = λ own. refl;
  on = on;
  first = c.in_ok-first.ensures.0;
  own = c.in_ok-first.ensures.1;
  state = tt;
}
