use Rattle.regex_lite.proofs.Common.{◌<◌, sym, ap, ◌∙◌, subst, text_at, Groups}
use Rattle.regex_lite.proofs.string.GroupLemmas.{no_text, first_text}
use Rattle.regex_lite.proofs.string.captures_in.CapturesIn.next_text.Goals as goal

pub returns-in-Some : goal.returns-in-Some
returns-in-Some g c =
    first_text c.args.self.now c.args.from c.loop-k.k (c.in-Some.start, c.in-Some.end)
    (g.T.Text.bytes c.part.result) c.loop-k.invariant
    (subst (λ n. c.loop-k.k < n) c.groups-k-end.ensures c.loop-k-test.true)
    (sym c.span.ensures.span ∙ c.in-Some.is) (c.part.ensures
    ∙ ap (λ (own : Groups). text_at own.haystack (c.in-Some.start, c.in-Some.end)) c.self.view_is)

pub loop-k-preserved : goal.loop-k-preserved
loop-k-preserved g c =
    no_text c.args.self.now c.loop-k.k
    (subst (λ n. c.loop-k.k < n) c.groups-k-end.ensures c.loop-k-test.true)
    (sym c.span.ensures.span ∙ c.in_default.is) ∙ c.loop-k.invariant
