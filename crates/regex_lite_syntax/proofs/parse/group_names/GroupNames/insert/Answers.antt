use Rattle.regex_lite_syntax.proofs.Common.{◌≡◌, false, [], ◌∷◌, ◌++◌, chars, sym, ap, ◌∙◌}
use Rattle.regex_lite_syntax.proofs.Common.{text_of_name}
use Rattle.std.specs.Rc.{rc_str_bytes}
use Rattle.regex_lite_syntax.specs.Tree.Views.{names_of}
use Rattle.regex_lite_syntax.specs.Parser.KnownNames.{has_name}
use Rattle.regex_lite_syntax.proofs.machine.StateLemmas.{map_pushed}
use Rattle.regex_lite_syntax.proofs.parse.group_names.KnownNameLemmas.{name_given, name_not_given}
use Rattle.regex_lite_syntax.proofs.parse.group_names.KnownNameLemmas.{set_with, knows_more}
use Rattle.regex_lite_syntax.proofs.parse.group_names.GroupNames.insert.Goals as goal

pub returns-then-contains : goal.returns-then-contains
returns-then-contains c =
    let name = c.args.name.now in
    rw (← c.self.view_is) (name_given c.self.inside.in_order.items name
    (sym (c.self.invariant (rc_str_bytes name)) ∙ sym c.contains.ensures ∙ c.if-contains.true))

pub invariant_of-self-in_default : goal.invariant_of-self-in_default
invariant_of-self-in_default c =
    let key = c.in_ok-key.key in
    let last = c.in_ok-clone.field-0 in
    rw c.in_ok-push.ensures.items
    (knows_more c.self.inside.known c.insert.new.self c.self.inside.in_order.items key last
    c.self.invariant (c.in_ok-clone.ensures.cases ∙ sym c.in_ok-key.ensures.cases)
    (set_with c.self.inside.known c.insert.new.self key c.in_default.ensures.updates))

pub returns : goal.returns
returns c =
    let name = c.args.name.now in
    let items = c.self.inside.in_order.items in
    let old = c.self.view_is in
    let none : has_name items (rc_str_bytes name) ≡ false =
    sym (c.self.invariant (rc_str_bytes name)) ∙ sym c.contains.ensures ∙ c.if-contains.false in
    let pushed = map_pushed text_of_name _ _ _ c.in_ok-push.ensures.items
    ∙ ap (λ text. names_of items ++ text ∷ []) (ap chars c.in_ok-clone.ensures.cases) in (
      pushed ∙ ap (λ names. names ++ text_of_name name ∷ []) old,
      rw (← old) (name_not_given items name none),
    )
