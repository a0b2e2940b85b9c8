use Rattle.regex_lite_syntax.proofs.Common.{◌≡◌, ◌+◌, List, [], ◌∷◌, ◌++◌, drop, sym, refl, ap, ◌∙◌}
use Rattle.regex_lite_syntax.proofs.Common.{subst, arith, append-nil, ClassItems, WholeGap, Denies}
use Rattle.regex_lite_syntax.proofs.Common.{Completable, IfCutShort, Set, Text, the}
use Rattle.std.proofs.Math.Bool.{or-false}
use Rattle.regex_lite_syntax.specs.Parser.ClassReadings.{item_set}
use Rattle.regex_lite_syntax.proofs.ExitLemmas.{at_exit}
use Rattle.regex_lite_syntax.proofs.grammar.LongerGapLemmas.{begins_longer}
use Rattle.regex_lite_syntax.proofs.parse.IndexLemmas.{left_at_end, some_at}
use Rattle.regex_lite_syntax.proofs.parse.bracket.ClassItemLemmas.{has_items, items_push}
use Rattle.regex_lite_syntax.proofs.parse.bracket.ClassItemLemmas.{items_next, nothing_left}
use Rattle.regex_lite_syntax.proofs.parse.bracket.CompletedClassLemmas.{ClassTo, closes_now}
use Rattle.regex_lite_syntax.proofs.parse.bracket.CompletedClassLemmas.{closes_after}
use Rattle.regex_lite_syntax.proofs.parse.bracket.CompletedItemLemmas.{ItemsTo}
use Rattle.regex_lite_syntax.proofs.parse.CompletionLemmas.{completes_part}
use Rattle.regex_lite_syntax.proofs.parse.bracket.LongerItemLemmas.{whole_follows}
use Rattle.regex_lite_syntax.proofs.parse.bracket.ClassSetLemmas.{holds_more}
use Rattle.regex_lite_syntax.proofs.parse.bracket.read_items.Goals as goal

pub returns-then-end-chars-clause-refused : goal.returns-then-end-chars-clause-refused
returns-then-end-chars-clause-refused c =
    let verbose = c.args.verbose in
    let xs = c.args.chars.now in
    let left = left_at_end xs c.items.end c.if-end-chars.true in
    subst (λ e. Denies e (λ t. (rest : Text) × (sets : List Set) × ClassItems verbose sets t rest)
    (drop c.args.at xs)) (sym c.into.ensures) (λ more follows found.
    let nothing : more ≡ [] = follows refl in
    let items = c.items.invariant.back more (λ _. nothing) found.1 found.0 found.2 in
    nothing_left verbose items.0 found.0
    (subst (λ u. ClassItems verbose items.0 u found.0) (ap (λ u. u ++ more) left ∙ nothing)
    items.1))

pub returns-in_err-past-clause-refused : goal.returns-in_err-past-clause-refused
returns-in_err-past-clause-refused c =
    let u = drop c.items.end c.args.chars.now in
    let some = some_at c.args.chars.now c.items.end
    (omega (arith, c.if-end-chars.false, c.items.invariant.inside)) in
    at_exit _ _ c.from_residual.ensures.1 (λ more follows found.
    let items = c.items.invariant.back more (λ ends. absurd (some ends)) found.1 found.0 found.2 in
    c.in_err-past.ensures.refused more follows (has_items c.args.verbose items.0 (u ++ more) found.0
    (begins_longer more (the "]") u (c.items-test.ensures.absent refl) some) items.1))

pub items-init : goal.items-init
items-init c = record {
  inside = (omega arith, c.requires.inside);
  past_gap = c.requires.past_gap;
  sets = [];
  holds = λ d. sym (or-false _);
  goes = λ more follows all rest items. items;
  back = λ more follows all rest items. (all, items);
  closes = λ ends. closes_now c.args.verbose (drop c.args.at c.args.chars.now) ends;
}

pub items-preserved : goal.items-preserved
items-preserved c =
    let verbose = c.args.verbose in
    let xs = c.args.chars.now in
    let past = drop c.in_ok-past.past xs in
    let so_far = c.items.invariant in
    let s = item_set c.in_ok-past.item in
    let item = c.in_ok-past.ensures.ok in
    let gap = c.skip_gap-end.ensures.gap in
    let some = some_at c.args.chars.now c.items.end
    (omega (arith, c.if-end-chars.false, so_far.inside)) in
    let here = λ (more : Text). so_far.goes more (λ ends. absurd (some ends)) in
    record {
      inside = (omega (arith, c.in_ok-past.ensures.inside), c.skip_gap-end.ensures.inside.1);
      past_gap = gap.1;
      sets = so_far.sets ++ s ∷ [];
      holds = λ d. holds_more _ _ _ so_far.sets s d (so_far.holds d) (c.in_ok-push_item.ensures d);
      goes = λ more follows all rest items.
          items_push _ so_far.sets all s _ _ _ _ rest (here more)
          (c.in_ok-past.ensures.stays more) (whole_follows more _ _ _ gap follows) items;
      back = λ more follows all rest items.
          let here = so_far.back more (λ ends. absurd (some ends)) all rest items in
          items_next _ here.0 s _ _ _ rest (c.in_ok-past.ensures.stays more)
          (whole_follows more _ _ _ gap follows) here.1;
      closes = λ ends.
          closes_after verbose (drop c.args.at xs) (drop c.items.end xs) past so_far.sets s
          (subst (λ u. WholeGap verbose past u) ends gap) c.in_ok-past.ensures.stays here;
    }

pub returns-clause-ok : goal.returns-clause-ok
returns-clause-ok c =
    let verbose = c.args.verbose in
    let xs = c.args.chars.now in
    let t = drop c.args.at xs in
    let rest = drop (c.items.end + 1) xs in
    let so_far = c.items.invariant in
    let closes = append-nil (drop c.items.end xs) ∙ (c.items-test.ensures.there refl).1 in (
      so_far.sets,
      subst (λ sets. ClassItems verbose sets t rest) (append-nil so_far.sets)
          (subst (λ u. ClassItems verbose (so_far.sets ++ []) u rest) (append-nil t)
          (so_far.goes [] (λ ends. refl) [] rest closes)),
      so_far.holds,
    )

pub returns-then-end-chars-clause-completes : goal.returns-then-end-chars-clause-completes
returns-then-end-chars-clause-completes c =
    let xs = c.args.chars.now in
    let left = left_at_end xs c.items.end c.if-end-chars.true in
    subst (λ e. IfCutShort e (Completable (ClassTo c.args.verbose) (drop c.args.at xs)))
    (sym c.into.ensures) (λ short. c.items.invariant.closes left)

pub returns-in_err-past-clause-completes : goal.returns-in_err-past-clause-completes
returns-in_err-past-clause-completes c =
    let verbose = c.args.verbose in
    let xs = c.args.chars.now in
    let so_far = c.items.invariant in
    let some = some_at xs c.items.end
    (omega (arith, c.if-end-chars.false, c.items.invariant.inside)) in
    at_exit _ _ c.from_residual.ensures.1 (λ short.
    completes_part (ItemsTo verbose) (ClassTo verbose) (drop c.items.end xs) (drop c.args.at xs)
    (λ more rest found. (
      so_far.sets ++ found.0 ∷ found.1,
      so_far.goes more (λ ends. absurd (some ends)) (found.0 ∷ found.1) rest found.2,
    )) (c.in_err-past.ensures.completes short))
