use Rattle.regex_lite_engine.proofs.Common.{◌≡◌, ◌≤◌, false, length, refl, subst, ap, arith}
use Rattle.regex_lite_engine.proofs.Common.{sym, ◌∙◌, IsPassed, PrefixSets}
use Rattle.regex_lite_engine.proofs.OffsetLemmas.{boundary_at}
use Rattle.regex_lite_engine.proofs.search.SkipLemmas.{never_between}
use Rattle.regex_lite_engine.proofs.search.skip.first_prefix.Goals as goal
use Rattle.regex_lite_engine.proofs.search.skip.first_prefix.Goals.{
  else-from-eq0-via-then-from-eq0+else-prefixes,
  else-from-eq0-via-else-from-eq0,
}

pub returns-then-prefixes-clause-boundary : goal.returns-then-prefixes-clause-boundary
returns-then-prefixes-clause-boundary c =
    boundary_at c.args.haystack.now 0 0 c.utf8.haystack (omega arith, refl)

pub returns-clause-passed : goal.returns-clause-passed
returns-clause-passed c =
    let prefixes = c.args.filter.now.prefixes in
    let bytes = c.args.haystack.now in
    let same = c.as_bytes.ensures.value in
    let found = c.next_offset.ensures in
    let start : c.args.from ≡ 0 → prefixes.first.at_start ≡ false = λ first.
    elim c.else-from-eq0.branch [
      | else-from-eq0-via-then-from-eq0+else-prefixes w ↦
          ap (λ (h : PrefixSets). h.first.at_start) (sym c.prefixes-prefixes.ensures)
          ∙ w.if-prefixes.false
      | else-from-eq0-via-else-from-eq0 w ↦ absurd (w.if-from-eq0.false first)
    ] in
    never_between prefixes bytes c.args.from c.next_offset.result c.utf8.haystack start
    (subst (λ z. c.next_offset.result ≤ length z) same found.high)
    (λ k from below. subst (λ h. IsPassed h bytes k) c.prefixes-prefixes.ensures
    (subst (λ z. IsPassed c.prefixes-prefixes.result.now z k) same (found.passed k from below)))
