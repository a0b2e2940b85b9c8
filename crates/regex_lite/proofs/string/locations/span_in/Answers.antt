use Rattle.regex_lite.proofs.Common.{◌∙◌}
use Rattle.regex_lite.proofs.string.SlotLemmas.{no_span, span_of_slots}
use Rattle.regex_lite.proofs.string.locations.span_in.Goals as goal

pub returns-then-k-slots : goal.returns-then-k-slots
returns-then-k-slots c = no_span c.args.slots.now c.args.k c.if-k-slots.true

pub returns : goal.returns
returns c = c.zip.ensures ∙ span_of_slots c.args.slots.now c.args.k
