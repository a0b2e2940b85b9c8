use Rattle.regex_lite_syntax.proofs.Common.{◌≡◌, ℕ, List, ◌++◌, length, take, drop, None, Option}
use Rattle.regex_lite_syntax.proofs.Common.{Global, ap, ◌∙◌, arith, rules, option_or, RcStr, Tree}
use Rattle.regex_lite_syntax.proofs.Common.{name_at, AddsNames, group_name, tree_of}
use Rattle.std.proofs.lemmas.List.{take_at}
use Rattle.regex_lite_syntax.proofs.NameTableLemmas.{unnamed}
use Rattle.regex_lite_syntax.proofs.hir.Hir.capture_names.Goals as goal

-- what is added to a table without names is all that it has
filled : (tree : Tree) (before after : List (Option (RcStr Global)))
    → ((k : ℕ) → name_at before k ≡ None) → AddsNames (group_name tree) before after
    → (k : ℕ) → name_at after k ≡ group_name tree k
filled tree before after none added k =
    added k ∙ ap (λ name. option_or name (group_name tree k)) (none k)

pub returns : goal.returns
returns c =
    let fresh = c.in_ok-names.names in
    let before = c.deref_mut.result.now in
    let after = c.add_names.new.names in
    let long : length after ≡ fresh.len =
    omega (arith, c.add_names.auto.names, c.deref_mut.ensures.len) in
    let none : (k : ℕ) → name_at before k ≡ None =
    unnamed _ before (c.deref_mut.ensures.value
    ∙ c.in_ok-names.ensures.items_if_clones_equal (λ copy is. search rules)) in
    let written_back : take fresh.len (after ++ drop (length after) fresh.items) ≡ after =
    take_at after (drop (length after) fresh.items) fresh.len long in
    record {
      each_group = ap length written_back ∙ long ∙ c.in_ok-names.ensures.len;
      names = λ k. ap (λ names. name_at names k) written_back
          ∙ filled (tree_of c.args.self.now) before after none c.in_ok-add_names.ensures k;
    }
