use Rattle.regex_lite_syntax.proofs.Common.{ℕ, ◌+◌, ◌++◌, map, drop, sym, refl, ap, ◌∙◌, subst}
use Rattle.regex_lite_syntax.proofs.Common.{arith, Gap, greed, counted_lazy, Text, tree_of}
use Rattle.regex_lite_syntax.specs.Parser.Machine.{with_items}
use Rattle.regex_lite_syntax.specs.Parser.States.{state}
use Rattle.regex_lite_syntax.proofs.ExitLemmas.{at_exit}
use Rattle.regex_lite_syntax.proofs.grammar.OperatorLemmas.{counted_greedy}
use Rattle.regex_lite_syntax.proofs.machine.StateLemmas.{map_pushed, none_left}
use Rattle.regex_lite_syntax.proofs.machine.ReadStepLemmas.{reads_repeated, reads_no_operator}
use Rattle.regex_lite_syntax.proofs.machine.ReadStepLemmas.{reads_no_counts}
use Rattle.regex_lite_syntax.proofs.machine.ResumedOperatorLemmas.{counts_read_on}
use Rattle.regex_lite_syntax.proofs.parse.Parser.read_counted_operator.Goals as goal
use Rattle.regex_lite_syntax.proofs.parse.Parser.read_counted_operator.Goals.{then-lazy, else-lazy}
use Rattle.regex_lite_syntax.proofs.machine.AskLemmas.{asks_brace}

pub returns-in_default-clause-refused : goal.returns-in_default-clause-refused
returns-in_default-clause-refused c =
    let items = c.args.self.now.here.items in
    rw c.into.ensures
    (λ more follows. reads_no_operator c.args.self.now _
    (asks_brace _ _ _ (ap (λ t. t ++ more) c.requires.begins))
    (none_left items.items (sym items.ok.0 ∙ c.in_default.ensures.cases.0)))

pub returns-in_err-end-clause-refused : goal.returns-in_err-end-clause-refused
returns-in_err-end-clause-refused c =
    at_exit _ _ c.from_residual.ensures.1
    (λ more follows. reads_no_counts c.args.self.now _ _ (ap (λ t. t ++ more) c.requires.begins)
    (λ past least most counted.
    c.in_err-end.ensures.refused more follows (past, least, most, counted)))

pub returns-in_err-end-clause-completes : goal.returns-in_err-end-clause-completes
returns-in_err-end-clause-completes c =
    let pushed = map_pushed tree_of _ _ _ c.in-Some.ensures.items in
    at_exit _ _ c.from_residual.ensures.1
    (λ short. counts_read_on c.args.self.now _ _ _ _ c.requires.begins pushed
    (c.in_err-end.ensures.completes short))

pub returns-clause-ok : goal.returns-clause-ok
unfolding state with_items
returns-clause-ok c =
    let p = c.args.self.now in
    let q = c.add_repeated.new.self in
    let xs = c.args.chars.now in
    let t = drop c.args.at xs in
    let flags = p.here.flags in
    let begins = c.requires.begins in
    let counted = c.in_ok-end.ensures.ok in
    let gap = c.skip_gap-past_gap.ensures.gap in
    let before = map tree_of c.pop.new.self.items in
    let pushed = map_pushed tree_of _ _ _ c.in-Some.ensures.items in
    let added = λ (u : Text) (d : ℕ). c.in_ok-add_repeated.ensures t u d in
    elim c.if-lazy.branch [
      | then-lazy w ↦
          let there = w.if-lazy.ensures.there refl in
          let to_mark =
          subst (λ u. Gap flags.ignore_whitespace (drop c.in_ok-end.end xs) u) there.1 gap.0 in
          let rest = drop (c.skip_gap-past_gap.result + 1) xs in
          rw w.result-is (record {
            further = omega (arith, c.in_ok-end.ensures.inside, c.skip_gap-past_gap.ensures.inside);
            in_pattern = omega (arith, there.0);
            reads =
                reads_repeated p q t rest before (tree_of c.in-Some.item) _ _ _ pushed (added rest)
                (counted_lazy _ _ begins counted to_mark (ap (greed flags) w.if-lazy.true));
          })
      | else-lazy w ↦
          let rest = drop c.in_ok-end.end xs in
          let operator =
          counted_greedy flags _ _ rest _ _ _ _ begins counted gap (w.if-lazy.ensures.absent refl)
          (ap (greed flags) w.if-lazy.false) in
          rw w.result-is (record {
            further = omega (arith, c.in_ok-end.ensures.inside);
            in_pattern = omega (arith, c.in_ok-end.ensures.inside);
            reads = reads_repeated p q t rest before (tree_of c.in-Some.item) _ _ _ pushed
                (added rest) operator;
          })
    ]
