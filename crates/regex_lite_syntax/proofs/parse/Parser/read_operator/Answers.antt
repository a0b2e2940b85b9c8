use Rattle.regex_lite_syntax.proofs.Common.{◌≡◌, ℕ, ◌+◌, ◌∷◌, ◌++◌, map, get_or, drop, sym, refl}
use Rattle.regex_lite_syntax.proofs.Common.{ap, ◌∙◌, arith, greed, uncounted, uncounted_lazy, Text}
use Rattle.regex_lite_syntax.proofs.Common.{the, tree_of}
use Rattle.regex_lite_syntax.specs.Parser.Machine.{with_items}
use Rattle.regex_lite_syntax.specs.Parser.States.{state}
use Rattle.regex_lite_syntax.proofs.parse.IndexLemmas.{drop_at}
use Rattle.regex_lite_syntax.proofs.machine.StateLemmas.{map_pushed, none_left}
use Rattle.regex_lite_syntax.proofs.machine.ReadStepLemmas.{reads_repeated, reads_no_operator}
use Rattle.regex_lite_syntax.proofs.parse.Parser.read_operator.Goals as goal
use Rattle.regex_lite_syntax.proofs.parse.Parser.read_operator.Goals.{then-lazy, else-lazy}
use Rattle.regex_lite_syntax.proofs.machine.AskLemmas.{asks_bounded}

pub returns-in_default-clause-refused : goal.returns-in_default-clause-refused
returns-in_default-clause-refused c =
    let e = drop_at c.args.chars.now c.args.at c.requires.inside in
    let items = c.args.self.now.here.items in
    let none = none_left items.items (sym items.ok.0 ∙ c.in_default.ensures.cases.0) in
    rw c.into.ensures
    (λ more follows. reads_no_operator c.args.self.now _
    (asks_bounded _ _ _ _ _ (ap (λ t. t ++ more) e) (c.requires.bounded _ e)) none)

pub returns-clause-ok : goal.returns-clause-ok
unfolding state with_items
returns-clause-ok c =
    let p = c.args.self.now in
    let q = c.add_repeated.new.self in
    let xs = c.args.chars.now in
    let i = c.args.at in
    let greedy = greed p.here.flags in
    let e = drop_at xs i c.requires.inside in
    let before = map tree_of c.pop.new.self.items in
    let pushed = map_pushed tree_of _ _ _ c.in-Some.ensures.items in
    let added = λ (u : Text) (d : ℕ). c.in_ok-add_repeated.ensures (drop i xs) u d in
    elim c.if-lazy.branch [
      | then-lazy w ↦
          let there = w.if-lazy.ensures.there refl in
          let two : i + 1 + 1 ≡ i + 2 = omega arith in
          let begins =
          e ∙ ap (λ t. get_or xs i 0 ∷ t) (there.1 ∙ ap (λ n. (the "?") ∷ drop n xs) two) in
          let rest = drop (i + 2) xs in
          rw w.result-is (record {
            further = omega arith;
            in_pattern = omega (arith, there.0);
            reads = reads_repeated p q (drop i xs) rest before (tree_of c.in-Some.item) _ _ _ pushed
                (added rest)
                (uncounted_lazy _ begins (c.requires.bounded _ e) (ap greedy w.if-lazy.true));
          })
      | else-lazy w ↦
          let absent = w.if-lazy.ensures.absent refl in
          let rest = drop (i + 1) xs in
          rw w.result-is (record {
            further = omega arith;
            in_pattern = omega (arith, c.requires.inside);
            reads = reads_repeated p q (drop i xs) rest before (tree_of c.in-Some.item) _ _ _ pushed
                (added rest)
                (uncounted _ e (c.requires.bounded _ e) absent (ap greedy w.if-lazy.false));
          })
    ]
