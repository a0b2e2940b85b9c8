use Rattle.regex_lite_engine.proofs.Common.{◌≤◌, length, chars, sym, ap, ◌∙◌, subst, arith, refl, ◌≡◌}
use Rattle.regex_lite_engine.proofs.Common.{table_of_list, IsPassedByAll, MayBegin, IsTrue, None}
use Rattle.regex_lite_syntax.specs.Prefilter.FirstSet.{may_begin}
use Rattle.regex_lite_engine.proofs.OffsetLemmas.{boundary_at}
use Rattle.regex_lite_engine.proofs.search.ListSkipLemmas.{dead_between}
use Rattle.regex_lite_engine.proofs.search.list_skip.GraphListStartFinder.first_known.Goals as goal
use Rattle.regex_lite_engine.proofs.search.list_skip.GraphListStartFinder.first_known.Goals.{
  else-from-eq0-via-then-from-eq0+else-may_begin,
  else-from-eq0-via-else-from-eq0,
}

pub first_char-requires : goal.first_char-requires
first_char-requires c = boundary_at c.args.haystack.now 0 0 c.utf8.haystack (omega arith, refl)

pub returns-then-may_begin-clause-boundary : goal.returns-then-may_begin-clause-boundary
returns-then-may_begin-clause-boundary c =
    boundary_at c.args.haystack.now 0 0 c.utf8.haystack (omega arith, refl)

pub returns-clause-passed : goal.returns-clause-passed
returns-clause-passed c =
    let list = c.args.self.now in
    let bytes = c.args.haystack.now in
    let prefixes = c.prefixes-prefixes.result.now in
    let same = c.as_bytes.ensures.value in
    let found = c.next_offset.ensures in
    let start : c.args.from ≡ 0 → MayBegin prefixes.any (chars bytes) 0 → ⊥ = λ zero may.
    elim c.else-from-eq0.branch [
      | else-from-eq0-via-then-from-eq0+else-may_begin w ↦
          let never = subst IsTrue (ap (may_begin prefixes.any None) (sym w.first_char.ensures)
          ∙ sym w.may_begin.ensures ∙ w.if-may_begin.false) may in
          cc
      | else-from-eq0-via-else-from-eq0 w ↦ absurd (omega (arith, zero, w.if-from-eq0.false))
    ] in
    dead_between (table_of_list list) list.entries prefixes c.prefixes-prefixes.ensures bytes
    c.utf8.haystack c.args.from c.next_offset.result
    (subst (λ z. c.next_offset.result ≤ length z) same found.boundary.0)
    (λ k from below. subst (λ z. IsPassedByAll prefixes z k) same (found.passed k from below)) start
