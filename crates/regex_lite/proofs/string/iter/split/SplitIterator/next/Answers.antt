use Rattle.regex_lite.proofs.Common.{◌≡◌, ℕ, false, [], ◌∷◌, drop, slice_range, Option, unwrap_or}
use Rattle.regex_lite.proofs.Common.{sym, ap, ◌∙◌, subst, rules, ahead_of}
use Rattle.std.proofs.lemmas.Bool.{MatchBool-at_false}
use Rattle.regex_lite.specs.Pieces.{IsCut}
use Rattle.regex_lite.proofs.string.PieceLemmas.{chosen, cut_cons, cut_nil}
use Rattle.regex_lite.proofs.string.iter.split.SplitIterator.next.Goals as goal

pub returns-in-Some-clause-steps : goal.returns-in-Some-clause-steps
returns-in-Some-clause-steps c =
    let s = c.in-Some.ensures.steps in
    let it = c.self.inside.matches in
    let hay = it.haystack in
    let from = unwrap_or it.ended 0 in
    let goes_on : c.self.inside.is_done ≡ false = search rules in
    rw (← c.self.view_is) (
      goes_on,
      λ list left.
          let rest =
          subst (λ (e : Option ℕ). IsCut (ahead_of c.next.new.self) (unwrap_or e 0) list) s.3
          (MatchBool-at_false (list ≡ []) _ goes_on left) in
          let start =
          c.unwrap_or-from.ensures ∙ ap (λ at. unwrap_or at 0) c.cursor-cursor.ensures.ended in
          let piece : c.range.result.now ≡ slice_range hay from c.in-Some.found.start =
          c.range.ensures.value
          ∙ ap (λ bytes. slice_range bytes c.unwrap_or-from.result c.start.result)
          c.cursor-cursor.ensures.haystack ∙ ap (λ n. slice_range hay n c.start.result) start
          ∙ ap (slice_range hay from) c.start.ensures in
          chosen (c.range.result.now ∷ list ≡ []) _ goes_on
          (subst (λ p. IsCut (ahead_of it) from (p ∷ list)) (sym piece)
          (cut_cons (ahead_of it) (ahead_of c.next.new.self) from s.0 _ list s.4 s.1.span rest)),
    )

pub returns-in-None-clause-steps : goal.returns-in-None-clause-steps
returns-in-None-clause-steps c =
    let s = c.in-None.ensures.steps in
    let it = c.self.inside.matches in
    let hay = it.haystack in
    let from = unwrap_or it.ended 0 in
    let goes_on : c.self.inside.is_done ≡ false = search rules in
    rw (← c.self.view_is) (
      goes_on,
      λ list left.
          let start =
          c.unwrap_or-from.ensures ∙ ap (λ at. unwrap_or at 0) c.cursor-cursor.ensures.ended in
          let piece : c.range_from.result.now ≡ drop from hay = c.range_from.ensures.value
          ∙ ap (drop c.unwrap_or-from.result) c.cursor-cursor.ensures.haystack
          ∙ ap (λ n. drop n hay) start in
          let last : c.range_from.result.now ∷ list ≡ drop from hay ∷ [] =
          ap (λ p. p ∷ list) piece ∙ ap (λ rest. drop from hay ∷ rest) left in
          chosen (c.range_from.result.now ∷ list ≡ []) _ goes_on
          (subst (IsCut (ahead_of it) from) (sym last) (cut_nil (ahead_of it) from s.over)),
    )
