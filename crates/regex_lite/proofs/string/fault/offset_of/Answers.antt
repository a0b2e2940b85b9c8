use Rattle.regex_lite.proofs.Common.{◌≡◌, ℕ, suc, ◌+◌, ◌<◌, List, length, IsUtf8, chars, sym, refl}
use Rattle.regex_lite.proofs.Common.{ap, ◌∙◌, subst, inl, inr, add-one, arith, search_start}
use Rattle.regex_lite.proofs.Common.{IsNextOffset}
use Rattle.std.specs.Prelude.{IsCharBoundary}
use Rattle.std.proofs.lemmas.List.{take_all}
use Rattle.regex_lite_engine.specs.Search.Offsets.{IsOffset}
use Rattle.regex_lite_engine.proofs.OffsetLemmas.{boundary_at}
use Rattle.regex_lite_engine.proofs.PositionLemmas.{position_is, position_of, start_position}
use Rattle.regex_lite.proofs.string.fault.offset_of.Goals as goal

pub loop-init : goal.loop-init
loop-init c = (omega arith, refl)

pub next_offset-at-requires : goal.next_offset-at-requires
next_offset-at-requires c =
    boundary_at c.args.text.now c.loop.counter c.loop.at c.utf8.text c.loop.invariant

-- before the end, the next offset is that of the next position
module _ (bytes : List ℕ) (utf8 : IsUtf8 bytes) (p at next : ℕ) (here : IsOffset (chars bytes) p at)
    (more : p < length (chars bytes)) where
  past_end : length bytes < next → search_start bytes next ≡ suc p → ⊥
  past_end above starts =
      let all = ap (λ own. length (chars own)) (take_all next bytes (omega (arith, above))) in
      omega (arith, all, starts, above, more)

  inside : IsCharBoundary bytes next → search_start bytes next ≡ suc p
      → IsOffset (chars bytes) (p + 1) next
  inside edge starts =
      let is = sym (start_position bytes next edge) ∙ starts ∙ sym (add-one p) in
      subst (λ q. IsOffset (chars bytes) q next) is (position_is bytes next utf8 edge)

  next_at : IsNextOffset bytes at next → IsOffset (chars bytes) (p + 1) next
  next_at is =
      let starts = is.starts ∙ ap suc (position_of bytes utf8 p at here) in
      elim is.can_start [
        | inl above ↦ absurd (past_end above starts)
        | inr edge ↦ inside edge starts
      ]

pub loop-preserved : goal.loop-preserved
loop-preserved c =
    next_at c.args.text.now c.utf8.text c.loop.counter c.loop.at c.next_offset-at.result
    c.loop.invariant (omega (arith, c.loop-test.true, c.requires)) c.next_offset-at.ensures
