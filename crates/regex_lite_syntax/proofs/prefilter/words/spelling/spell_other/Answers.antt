use Rattle.regex_lite_syntax.proofs.Common.{◌∷◌, [], false≢true, refl, subst, sym}
use Rattle.regex_lite_syntax.specs.Prefilter.Spelling.{AddsSpelled}
use Rattle.regex_lite_syntax.proofs.LeafLemmas.{tree_is-Class}
use Rattle.regex_lite_syntax.proofs.prefilter.words.spelling.spell_other.Goals as goal

pub returns : goal.returns
returns c = record {
  spelled = λ _.
      subst (λ tree. AddsSpelled tree c.args.list.now c.push.new.self)
      (sym (tree_is-Class c.in-Class.is c.deref.ensures)) (record {
        letters = c.in-Some.letter ∷ [];
        added = c.in_ok-push.ensures;
        are = (c.in-Some.letter, refl, c.in-Some.ensures);
      });
  same = λ never. absurd (false≢true (sym never));
}
