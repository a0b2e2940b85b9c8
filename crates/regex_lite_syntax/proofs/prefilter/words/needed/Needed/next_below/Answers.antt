use Rattle.regex_lite_syntax.proofs.Common.{◌≡◌, ◌+◌, ◌<◌, ◌∙◌, Some, arith, ap, length, subst, sym}
use Rattle.regex_lite_syntax.specs.Prefilter.Needed.{NeededWords}
use Rattle.regex_lite_syntax.specs.Prefilter.Words.{word_at}
use Rattle.regex_lite_syntax.proofs.prefilter.words.NeededSearchLemmas.{LooksFor, all_looked_for}
use Rattle.regex_lite_syntax.proofs.prefilter.words.NeededSearchLemmas.{looks_for_none, one_found}
use Rattle.regex_lite_syntax.proofs.prefilter.words.NeededSearchLemmas.{one_not_found}
use Rattle.regex_lite_syntax.proofs.prefilter.words.needed.Needed.next_below.Goals as goal
use Rattle.regex_lite_syntax.proofs.prefilter.words.needed.Needed.next_below.Goals.{
  in-Some,
  in_default,
}

pub words-init : goal.words-init
words-init c =
    looks_for_none c.args.self.now.words c.args.bytes.now c.args.from c.args.limit c.requires.order

pub words-preserved : goal.words-preserved
words-preserved c =
    let words = c.args.self.now.words in
    let bytes = c.args.bytes.now in
    let k = c.words.k in
    let word = c.word.result.now in
    let same : word ≡ word_at words k
    = c.word.ensures ∙ ap (λ (n : NeededWords). word_at n.words k) c.self.view_is in
    let all = ap (λ (n : NeededWords). length n.words) c.self.view_is in
    let inside : k < length words = omega (arith, all) in
    elim c.match-at.branch [
      | in-Some w ↦
          let at = w.in-Some.at in
          subst (λ found. LooksFor words (k + 1) bytes c.args.from c.args.limit found
          c.match-at.end) (sym w.found-is)
          (subst (LooksFor words (k + 1) bytes c.args.from c.args.limit (Some at)) (sym w.end-is)
          (one_found words word bytes c.args.from c.args.limit k c.words.end at c.words.found
          inside same w.in-Some.ensures.before c.words.invariant w.in-Some.ensures.next))
      | in_default w ↦
          subst (λ found. LooksFor words (k + 1) bytes c.args.from c.args.limit found
          c.match-at.end) (sym w.found-is)
          (subst (LooksFor words (k + 1) bytes c.args.from c.args.limit c.words.found)
          (sym w.end-is)
          (one_not_found words word bytes c.args.from c.args.limit k c.words.end c.words.found
          same c.words.invariant w.in_default.ensures.next))
    ]

pub returns : goal.returns
returns c =
    let all = ap (λ (n : NeededWords). length n.words) c.self.view_is in
    all_looked_for c.args.self.now.words c.args.bytes.now c.args.from c.args.limit c.words.k
    c.words.end c.words.found (omega (arith, all)) c.words.invariant
