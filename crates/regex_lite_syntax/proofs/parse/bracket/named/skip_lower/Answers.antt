use Rattle.regex_lite_syntax.proofs.Common.{◌≡◌, ◌+◌, ◌<◌, ◌++◌, length, drop, IsTrue, sym, subst}
use Rattle.regex_lite_syntax.proofs.Common.{arith, AllPass, is_lower}
use Rattle.regex_lite_syntax.proofs.grammar.WordLemmas.{pass_push, spelled_push, slice_more}
use Rattle.regex_lite_syntax.proofs.parse.IndexLemmas.{drop_char}
use Rattle.regex_lite_syntax.proofs.parse.bracket.named.skip_lower.Goals as goal

pub loop-end-preserved : goal.loop-end-preserved
loop-end-preserved c =
    let xs = c.args.chars.now in
    let end = c.loop-end.end in
    let below : end < length xs = c.loop-end-test.true in
    let letter : IsTrue (is_lower c.index-chars-end.result) =
    sym c.if-is_ascii_lowercase.ensures.value in
    let here = drop_char xs end c.index-chars-end.result below c.index-chars-end.is in
    let longer =
    slice_more xs c.args.at end _ c.loop-end.invariant.inside.0 below c.index-chars-end.is in
    record {
      inside = (omega arith, omega arith);
      letters = subst (λ w. AllPass is_lower w) (sym longer)
          (pass_push is_lower _ _ c.loop-end.invariant.letters letter);
      spelled = subst (λ w. drop c.args.at xs ≡ w ++ drop (end + 1) xs) (sym longer)
          (spelled_push _ _ _ _ _ c.loop-end.invariant.spelled here);
    }
