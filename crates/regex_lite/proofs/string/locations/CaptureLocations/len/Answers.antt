use Rattle.regex_lite.proofs.Common.{rules}
use Rattle.regex_lite.proofs.string.SlotLemmas.{half}
use Rattle.regex_lite.proofs.string.locations.CaptureLocations.len.Goals as goal

pub returns-clause-len : goal.returns-clause-len
returns-clause-len c = search (rules, half c.self.inside.slots.items)
