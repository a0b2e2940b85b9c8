use Rattle.regex_lite_syntax.proofs.Common.{◌+◌, ◌∙◌, ◌∷◌, [], arith, sym, false≢true}
use Rattle.regex_lite_syntax.proofs.prefilter.words.NextLemmas.{next_from, none_found, none_joined}
use Rattle.regex_lite_syntax.proofs.prefilter.words.pair.Pair.find_in_blocks.Goals as goal
use Rattle.regex_lite_syntax.proofs.prefilter.words.pair.Pair.find_in_blocks.Goals.{
  then-may_stand+else-is_some,
  else-may_stand,
}

pub returns-then-is_some-clause-next : goal.returns-then-is_some-clause-next
returns-then-is_some-clause-next g c =
    next_from c.args.word.now c.args.bytes.now c.args.from c.blocks-2.at (c.blocks-2.at + g.row.N)
    c.find_before-found.result c.blocks-2.invariant.order c.blocks-2.invariant.none
    c.find_before-found.ensures.next
    (λ is none. absurd (false≢true (sym is ∙ (sym c.is_some.ensures ∙ c.if-is_some.true))))

pub blocks-2-preserved : goal.blocks-2-preserved
blocks-2-preserved g c = record {
  order = omega arith;
  within = omega arith;
  none = none_joined (c.args.word.now ∷ []) c.args.bytes.now c.args.from c.blocks-2.at
      (c.blocks-2.at + g.row.N) c.blocks-2.invariant.none
      (elim c.if-may_stand.branch [
        | then-may_stand+else-is_some w ↦ none_found c.args.word.now c.args.bytes.now c.blocks-2.at
            (c.blocks-2.at + g.row.N) w.find_before-found.result
            (sym w.is_some.ensures ∙ w.if-is_some.false) w.find_before-found.ensures.next
        | else-may_stand w ↦ c.may_stand.ensures w.if-may_stand.false
      ]);
}

pub returns-then-not-may_stand-clause-next : goal.returns-then-not-may_stand-clause-next
returns-then-not-may_stand-clause-next g c =
    none_joined (c.args.word.now ∷ []) c.args.bytes.now c.args.from c.blocks-2.at c.args.end
    c.blocks-2.invariant.none
    (λ at low high. c.may_stand-then-end.ensures c.if-not-may_stand.true at (omega arith)
    (omega arith))

pub returns-clause-next : goal.returns-clause-next
returns-clause-next g c =
    next_from c.args.word.now c.args.bytes.now c.args.from c.blocks-2.at c.args.end
    c.find_before.result c.blocks-2.invariant.order c.blocks-2.invariant.none
    c.find_before.ensures.next (λ _ none. none)
