use Rattle.regex_lite_syntax.proofs.Common.{◌∙◌, [], ◌∷◌, ap, arith, cases_lt, inl, inr}
use Rattle.regex_lite_syntax.proofs.Common.{subst, sym}
use Rattle.regex_lite_syntax.specs.Prefilter.Needed.{IsNextOf, NeededWords}
use Rattle.regex_lite_syntax.proofs.prefilter.words.NeededSearchLemmas.{next_found, next_not_found}
use Rattle.regex_lite_syntax.proofs.prefilter.words.NeededSearchLemmas.{next_inside, none_at_end, with_pairs}
use Rattle.regex_lite_syntax.proofs.prefilter.words.NextLemmas.{only_word}
use Rattle.regex_lite_syntax.proofs.prefilter.words.needed.Needed.next_word.Goals as goal

-- where there is one word
one_word : (c : goal.After-find) → IsNextOf c.args.self.now.words c.args.bytes.now c.args.from
    c.find.result
one_word c =
    let words = c.self.inside.words in
    subst (λ words. IsNextOf words c.args.bytes.now c.args.from c.find.result)
    (ap (λ word. word ∷ []) c.word.ensures
    ∙ only_word words (sym c.len.ensures.len ∙ c.if-len-eq1.true)
    ∙ ap (λ (n : NeededWords). n.words) c.self.view_is)
    c.find.ensures

pub returns-then-len-eq1-clause-next : goal.returns-then-len-eq1-clause-next
returns-then-len-eq1-clause-next c = one_word c

pub returns-then-len-eq1-clause-inside : goal.returns-then-len-eq1-clause-inside
returns-then-len-eq1-clause-inside c =
    next_inside c.args.self.now.words c.args.bytes.now c.args.from c.find.result
    (with_pairs c.self.inside.words c.args.self.now.words c.self.inside.pairs
    (ap (λ (n : NeededWords). n.words) c.self.view_is) c.self.invariant) (one_word c)

-- what is found in some of the bytes
found_some : (c : goal.Then-is_some) → IsNextOf c.args.self.now.words c.args.bytes.now
    c.args.from c.next_below-found.result
found_some c =
    let v = c.blocks-2.invariant in
    next_found c.args.self.now.words c.args.bytes.now c.args.from c.blocks-2.at c.min-end.result
    c.next_below-found.result (sym c.is_some.ensures ∙ c.if-is_some.true) v.low v.none
    c.next_below-found.ensures

pub returns-then-is_some-clause-next : goal.returns-then-is_some-clause-next
returns-then-is_some-clause-next c = found_some c

pub returns-then-is_some-clause-inside : goal.returns-then-is_some-clause-inside
returns-then-is_some-clause-inside c =
    next_inside c.args.self.now.words c.args.bytes.now c.args.from c.next_below-found.result
    (with_pairs c.self.inside.words c.args.self.now.words c.self.inside.pairs
    (ap (λ (n : NeededWords). n.words) c.self.view_is) c.self.invariant) (found_some c)

pub blocks-2-preserved : goal.blocks-2-preserved
blocks-2-preserved c =
    let v = c.blocks-2.invariant in
    record {
      low = omega arith;
      high = omega arith;
      some = omega arith;
      none = next_not_found c.args.self.now.words c.args.bytes.now c.args.from c.blocks-2.at
          c.min-end.result c.next_below-found.result (sym c.is_some.ensures ∙ c.if-is_some.false)
          v.none c.next_below-found.ensures;
    }

pub returns-clause-next : goal.returns-clause-next
returns-clause-next c = λ at low stands.
    let words = c.args.self.now.words in
    elim (cases_lt at c.blocks-2.at) [
      | inl before ↦ c.blocks-2.invariant.none at low before stands
      | inr later ↦
          none_at_end words c.args.bytes.now at
          (with_pairs c.self.inside.words words c.self.inside.pairs
          (ap (λ (n : NeededWords). n.words) c.self.view_is) c.self.invariant)
          (omega (arith, later, c.blocks-2-test.false)) stands
    ]
