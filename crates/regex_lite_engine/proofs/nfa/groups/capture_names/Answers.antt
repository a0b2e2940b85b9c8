use Rattle.regex_lite_engine.proofs.Common.{sym, ◌∙◌, arith, rules, tree_of}
use Rattle.regex_lite_syntax.proofs.NameTableLemmas.{unnamed}
use Rattle.regex_lite_engine.proofs.count.NameSizeLemmas.{no_name}
use Rattle.regex_lite_engine.proofs.nfa.groups.capture_names.Goals as goal

pub returns-then-counts-eq0-clause-names : goal.returns-then-counts-eq0-clause-names
returns-then-counts-eq0-clause-names c = λ k.
    let nothing = no_name (tree_of c.args.hir.now)
    (omega (arith, c.requires.names_size, c.if-counts-eq0.true)) k in
    unnamed _ c.in_ok-names.names.items
    (c.in_ok-names.ensures.items_if_clones_equal (λ copy is. search rules)) k ∙ sym nothing
