use Rattle.regex_lite_engine.proofs.Common.{◌≡◌, ℕ, suc, ◌+◌, Bool, List, [], ◌∷◌, length, None}
use Rattle.regex_lite_engine.proofs.Common.{chars, sym, refl, ap, ◌∙◌, arith, rules, after}
use Rattle.regex_lite_engine.proofs.Common.{may_go_on}
use Rattle.std.proofs.Common.{filter}
use Rattle.regex_lite_syntax.proofs.prefilter.prefix_index.ThirdLemmas.{all_go_on, none_later}
use Rattle.regex_lite_engine.proofs.search.list_patterns.keep_by_third.Goals as goal
use Rattle.regex_lite_engine.proofs.search.list_patterns.keep_by_third.Goals.{
  then-is_empty-via-then-is_empty,
  then-is_empty-via-else-is_empty+then-is_none,
}

of_none : (test : ℕ → Bool) (numbers : List ℕ) → length numbers ≡ 0 → numbers ≡ filter test numbers
of_none test [] none = refl
of_none test (k ∷ numbers) none = absurd (omega (arith, none))

pub returns-then-is_empty-clause-kept : goal.returns-then-is_empty-clause-kept
returns-then-is_empty-clause-kept c = λ p is.
    let h = chars c.args.haystack.now in
    let numbers = c.args.numbers.now.items in
    elim c.then-is_empty.branch [
      | then-is_empty-via-then-is_empty w ↦
          let none : length numbers ≡ 0 = search rules in
          of_none (may_go_on c.args.prefixes.now.third_masks (after h (suc p))) numbers none
      | then-is_empty-via-else-is_empty+then-is_none w ↦
          let end : c.args.second.after ≡ None = search rules in
          all_go_on c.args.prefixes.now.third_masks numbers
          ∙ ap (λ o. filter (may_go_on c.args.prefixes.now.third_masks o) numbers)
          (sym (none_later h p (sym is.ahead ∙ end)))
    ]

pub returns-in-Some-clause-kept : goal.returns-in-Some-clause-kept
returns-in-Some-clause-kept c = λ p is.
    let h = chars c.args.haystack.now in
    let next : p + 1 ≡ suc p = omega arith in
    let third = c.next.ensures p is in
    c.keep.ensures.kept
    ∙ ap (λ o. filter (may_go_on c.args.prefixes.now.third_masks o) c.args.numbers.now.items)
    (sym c.in-Some.is ∙ third.ahead ∙ ap (after h) next)

pub returns-in_default-clause-kept : goal.returns-in_default-clause-kept
returns-in_default-clause-kept c = λ p is.
    let h = chars c.args.haystack.now in
    let next : p + 1 ≡ suc p = omega arith in
    let third = c.next.ensures p is in
    all_go_on c.args.prefixes.now.third_masks c.args.numbers.now.items
    ∙ ap (λ o. filter (may_go_on c.args.prefixes.now.third_masks o) c.args.numbers.now.items)
    (sym c.in_default.is ∙ third.ahead ∙ ap (after h) next)
