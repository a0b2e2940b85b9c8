use Rattle.regex_lite_syntax.proofs.Common.{None, Some, sym, subst, IfSome, IsCharBoundary}
use Rattle.regex_lite_syntax.specs.Prefilter.Finders.{Finds, IsPairOf}
use Rattle.regex_lite_syntax.specs.Prefilter.WordLists.{all_words}
use Rattle.regex_lite_syntax.specs.Prefilter.Words.{IsNextWord}
use Rattle.regex_lite_syntax.proofs.prefilter.words.NextLemmas.{next_boundary, next_of_one}
use Rattle.regex_lite_syntax.proofs.prefilter.words.NextLemmas.{none_of_one}
use Rattle.regex_lite_syntax.proofs.prefilter.words.Words.find.Goals as goal

pub returns-in_err-at-in-Pair : goal.returns-in_err-at-in-Pair
returns-in_err-at-in-Pair c =
    let words = all_words c.self.inside.list in
    let bytes = c.args.bytes.now in
    let pair : IsPairOf words c.in-Pair.pair =
    subst (λ finder. Finds words finder) c.in-Pair.is c.self.invariant.1 in
    let none = none_of_one words c.word.result.now bytes c.args.from pair.alone c.word.ensures
    c.in_err-at-in-Pair.ensures in
    record {
      next = subst (λ next. IsNextWord c.args.self.now bytes c.args.from next)
          (sym c.from_residual.ensures)
          (subst (λ seen. IsNextWord seen bytes c.args.from None) c.self.view_is none);
      boundary = subst (λ next. IfSome next (λ next. IsCharBoundary bytes next.0))
          (sym c.from_residual.ensures) tt;
    }

pub returns-in_ok-at-in-Pair : goal.returns-in_ok-at-in-Pair
returns-in_ok-at-in-Pair c =
    let words = all_words c.self.inside.list in
    let bytes = c.args.bytes.now in
    let at = c.in_ok-at-in-Pair.at in
    let pair : IsPairOf words c.in-Pair.pair =
    subst (λ finder. Finds words finder) c.in-Pair.is c.self.invariant.1 in
    let next = next_of_one words c.word.result.now bytes c.args.from at pair.alone c.word.ensures
    c.in_ok-at-in-Pair.ensures in
    record {
      next = subst (λ seen. IsNextWord seen bytes c.args.from (Some (at, 0))) c.self.view_is next;
      boundary = next_boundary words bytes c.args.from (Some (at, 0)) c.self.invariant.0 next;
    }

pub returns-in-Shifts : goal.returns-in-Shifts
returns-in-Shifts c =
    let words = all_words c.self.inside.list in
    let bytes = c.args.bytes.now in
    let next = c.find-in-Shifts.result in
    record {
      next = subst (λ seen. IsNextWord seen bytes c.args.from next) c.self.view_is
          c.find-in-Shifts.ensures;
      boundary = next_boundary words bytes c.args.from next c.self.invariant.0
          c.find-in-Shifts.ensures;
    }
