use Rattle.regex_lite_c.proofs.Common.{ℕ, List, Option, option_map, refl, names_left}
use Rattle.std.proofs.Common.{rules}
use Rattle.std.specs.Borrow.{Bor}
use Rattle.std.proofs.lemmas.Iterator.Consumers.{YieldsList-from_first}
use Rattle.std.proofs.lemmas.Iterator.Search.{position_from_yields_List}
use Rattle.regex_lite.specs.Groups.{is_named}
use Rattle.regex_lite_c.proofs.properties.index_in.Goals as goal

abbrev shown : Option (Bor (List ℕ)) → Option (List ℕ)
shown name = option_map (λ own. own.now) name

pub returns : goal.returns
returns c =
    position_from_yields_List {v = shown} (is_named c.args.name.now) c.position.new.self
    (record { 0 = c.args.name }) c.position.result c.position.ensures.ran
    (YieldsList-from_first shown names_left (names_left c.args.names) refl)
    (λ x b q called. search (rules, called))
