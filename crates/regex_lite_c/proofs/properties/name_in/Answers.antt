use Rattle.regex_lite_c.proofs.Common.{ℕ, List, Option, option_map, refl, names_left}
use Rattle.std.specs.Borrow.{Bor}
use Rattle.std.proofs.lemmas.Iterator.Consumers.{YieldsList-from_first, nth_from_yields_List}
use Rattle.regex_lite_c.proofs.properties.name_in.Goals as goal

abbrev shown : Option (Bor (List ℕ)) → Option (List ℕ)
shown name = option_map (λ own. own.now) name

pub returns : goal.returns
returns c =
    nth_from_yields_List {v = shown} c.nth.result c.nth.new.self c.args.index c.nth.ensures.ran
    (YieldsList-from_first shown names_left (names_left c.args.names) refl)
