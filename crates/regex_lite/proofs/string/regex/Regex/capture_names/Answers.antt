use Rattle.regex_lite.proofs.Common.{map, option_map, ap, ◌∙◌, rc_str_bytes}
use Rattle.regex_lite.proofs.string.GroupNameLemmas.{are_names}
use Rattle.regex_lite.proofs.string.regex.Regex.capture_names.Goals as goal

pub returns : goal.returns
returns c =
    let built = c.self.invariant in
    let names = ap (λ items. map (option_map rc_str_bytes) items)
    (rw c.deref.ensures at c.capture_names.ensures) in
    let reported =
    are_names _ c.self.inside.compiled.graph.capture_names built.tree (c.new.ensures ∙ names)
    built.regular built.groups.captures built.groups.names in
    (built.tree, rw (← c.self.view_is) built.given, reported)
