use Rattle.regex_lite_engine.proofs.Common.{◌==◌, ◌-◌, ℕ, List, slice_index, ap}
use Rattle.regex_lite_engine.proofs.backtrack.BitLemmas.{none_of_zeros}
use Rattle.regex_lite_engine.proofs.pikevm.PlaceSetLemmas.{none_listed}
use Rattle.regex_lite_engine.specs.Pikevm.PlaceSets.{is_stamped}
use Rattle.regex_lite_engine.proofs.pikevm.place_set.PlaceSet.empty.Goals as goal

pub returns-then-places-le-FEW : goal.returns-then-places-le-FEW
returns-then-places-le-FEW c = none_of_zeros 1 c.args.places

pub returns : goal.returns
returns c =
    none_listed (λ place. is_stamped c.in_ok-stamps.stamps.items 1 (c.args.places - place))
    c.args.places
    (λ k lt. ap (λ (stamps : List ℕ). slice_index stamps (c.args.places - k - 1) == 1)
    c.in_ok-stamps.ensures.items)
