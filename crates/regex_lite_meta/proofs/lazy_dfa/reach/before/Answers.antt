use Rattle.regex_lite_meta.proofs.Common.{◌-◌, IsCharBoundary, IsHere, chars, sym, ap, ◌∙◌, subst}
use Rattle.regex_lite_meta.proofs.Common.{position_at}
use Rattle.regex_lite_meta.proofs.lazy_dfa.ReachLemmas.{step_back}
use Rattle.regex_lite_meta.proofs.lazy_dfa.reach.before.Goals as goal

pub at-requires : goal.at-requires
at-requires c =
    let h = c.args.haystack.now in
    let there = c.requires in
    let back = step_back h there.0 c.in_ok-c.c c.args.here c.utf8.haystack there.1 c.in_ok-c.was in
    subst (λ n. IsCharBoundary h (c.args.here.at - n)) (sym c.byte_len.ensures) back.3

pub returns : goal.returns
returns c = λ p is.
    let h = c.args.haystack.now in
    let back = step_back h p c.in_ok-c.c c.args.here c.utf8.haystack is c.in_ok-c.was in (
      back.0,
      subst (λ z. IsHere (chars h) z c.at.result)
          (ap (λ n. position_at h (c.args.here.at - n)) c.byte_len.ensures ∙ back.4)
          c.at.ensures.here,
      back.1,
    )
