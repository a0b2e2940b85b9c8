use Rattle.regex_lite_engine.proofs.Common.{◌≡◌, ◌-◌, ap, ◌∙◌, sym, replicate, length}
use Rattle.regex_lite_engine.proofs.Common.{false}
use Rattle.regex_lite_engine.proofs.backtrack.BitLemmas.{none_of_zeros}
use Rattle.regex_lite_engine.proofs.pikevm.PlaceSetLemmas.{none_listed, members_long}
use Rattle.regex_lite_engine.specs.Pikevm.PlaceSets.{members}
use Rattle.regex_lite_engine.proofs.pikevm.place_set.PlaceSet.clear.Goals.{in-Bits, in-Stamps}
use Rattle.regex_lite_engine.proofs.pikevm.place_set.PlaceSet.clear.Goals as goal

pub returns : goal.returns
returns c =
    let places = c.self.inside.places in
    let all : length c.args.self.now ≡ places =
    sym (ap length c.self.view_is) ∙ members_long c.self.inside.marks places in
    let none : members c.match-self.self-inside.marks c.match-self.self-inside.places
    ≡ replicate places false = elim c.match-self.branch [
      | in-Bits w ↦
          ap (λ z. members z.marks z.places) w.self-inside-is ∙ none_of_zeros 1 places
      | in-Stamps w ↦
          ap (λ z. members z.marks z.places) w.self-inside-is
          ∙ none_listed _ places (λ k lt. w.clear.ensures.none (places - k))
    ] in
    none ∙ ap (λ n. replicate n false) (sym all)
