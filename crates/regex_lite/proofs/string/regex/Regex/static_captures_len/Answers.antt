use Rattle.regex_lite.proofs.Common.{◌≡◌, Some, refl, ◌∙◌, static_captures_len, OfTree}
use Rattle.regex_lite.proofs.StaticNumberLemmas.{static_number}
use Rattle.regex_lite.proofs.string.regex.Regex.static_captures_len.Goals as goal

pub returns-clause-known : goal.returns-clause-known
returns-clause-known c = (
  c.self.invariant.tree,
  rw (← c.self.view_is) c.self.invariant.given,
  c.static_captures_len.ensures ∙ rw c.deref.ensures c.self.invariant.groups.static_captures,
)

pub returns-clause-told : goal.returns-clause-told
returns-clause-told c =
    let known : OfTree c.args.self.now
    (λ tree. c.static_captures_len.result ≡ static_captures_len tree) = (
      c.self.invariant.tree,
      rw (← c.self.view_is) c.self.invariant.given,
      c.static_captures_len.ensures ∙ rw c.deref.ensures c.self.invariant.groups.static_captures,
    ) in
    record {
      each = λ groups are. static_number c.args.self.now are.haystack are.start
          c.static_captures_len.result (Some groups) groups known are.reported refl;
    }
