use Rattle.regex_lite_meta.proofs.Common.{subst, rules, All, IsBoundary, character_bounds}
use Rattle.regex_lite_meta.proofs.Common.{look_bounds}
use Rattle.regex_lite_meta.proofs.lazy_dfa.BoundaryLemmas.{all_still, each_more, each_of_all}
use Rattle.regex_lite_meta.proofs.lazy_dfa.classes.Classes.of.Goals as goal

pub places-preserved : goal.places-preserved
places-preserved c =
    let v = c.places.invariant in
    let grows = c.add_place.ensures.grows in
    record {
      each = each_more c.args.places.now c.places.q c.places.boundaries c.add_place.new.self grows
          c.index-places-q.result c.index-places-q.is
          (c.add_place.ensures.bounded c.if-not-add_place.false) v.each;
      characters =
          all_still character_bounds c.places.boundaries.boundaries c.add_place.new.self.boundaries
          grows.boundaries v.characters;
    }

pub returns : goal.returns
returns c =
    let v = c.places.invariant in
    let boundaries = c.places.boundaries in
    let all = c.all.ensures in
    record {
      each = each_of_all c.args.places.now c.places.q boundaries (search rules) v.each;
      characters = v.characters;
      contexts = λ looks. subst (λ bs. All (IsBoundary bs) look_bounds) all.same
          (all.contexts looks);
    }
