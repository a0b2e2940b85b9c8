use Rattle.regex_lite.proofs.Common.{◌≡◌, ℕ, length, replicate, None, Option, ap, ◌∙◌, arith, rules}
use Rattle.regex_lite.proofs.Common.{captures_len, spans_of}
use Rattle.std.proofs.lemmas.List.{length-replicate}
use Rattle.regex_lite.proofs.string.SlotLemmas.{no_spans}
use Rattle.regex_lite.proofs.string.regex.Regex.capture_locations.Goals as goal

pub returns-clause-ok : goal.returns-clause-ok
returns-clause-ok c =
    let reported = c.slots.ensures in
    let none : c.in_ok-slots.slots.items ≡ replicate c.slots.result None = search rules in (
      reported.0,
      reported.1,
      ap spans_of (none ∙ ap (λ n. replicate n None) reported.2) ∙ no_spans
          _,
    )

pub returns-clause-room : goal.returns-clause-room
returns-clause-room c =
    let reported = returns-clause-ok c in (
      reported.0,
      reported.1,
      omega (
        arith,
        ap (λ spans. length spans) reported.2,
        length-replicate {A = Option (ℕ × ℕ)} (captures_len reported.0) None,
      ),
    )
