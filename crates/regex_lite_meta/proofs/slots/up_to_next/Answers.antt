use Rattle.regex_lite_meta.proofs.Common.{◌≡◌, ℕ, suc, ◌+◌, List, Some, None, IsUtf8, chars, sym}
use Rattle.regex_lite_meta.proofs.Common.{ap}
use Rattle.regex_lite_meta.proofs.Common.{◌∙◌, subst, inl, inr, arith, take, drop, take_all}
use Rattle.regex_lite_meta.proofs.Common.{slice_get_within, len_utf8, IsOffset, position_at}
use Rattle.std.proofs.Common.{slice_range}
use Rattle.std.proofs.lemmas.List.{take_at}
use Rattle.std.proofs.lemmas.Option.{slice_get_cases}
use Rattle.regex_lite_syntax.specs.Text.{after}
use Rattle.regex_lite_engine.proofs.OffsetLemmas.{boundary_at, offset_next}
use Rattle.regex_lite_engine.proofs.PositionLemmas.{chars_cut, position_is, position_of}
use Rattle.regex_lite_meta.proofs.slots.up_to_next.Goals as goal

module _ (bytes : List ℕ) (utf8 : IsUtf8 bytes) (p at : ℕ) (here : IsOffset (chars bytes) p at)
  where
    -- the character there, if there is one
    at_position : (next : _) → after (chars bytes) (position_at bytes at) ≡ next
        → after (chars bytes) p ≡ next
    at_position next = subst (λ i. after (chars bytes) i ≡ next) (position_of bytes utf8 p at here)

    -- without one, the text ends there
    all_up_to : after (chars bytes) p ≡ None → chars bytes ≡ take (p + 1) (chars bytes)
    all_up_to none = elim (slice_get_cases (chars bytes) p).1 [
      | inl (c, less, some, same) ↦ let clash : None ≡ Some c = sym none ∙ some in absurd cc
      | inr (past, same) ↦ sym (take_all (p + 1) (chars bytes) (omega (arith, past)))
    ]

    -- the next offset, after this character
    module _ (c past : ℕ) (next : after (chars bytes) p ≡ Some c) (is : past ≡ at + len_utf8 c) where
      pub is_past : IsOffset (chars bytes) (suc p) past
      is_past = (
        let less = slice_get_within (chars bytes) p c next in omega (arith, less),
        is ∙ ap (λ z. z + len_utf8 c) here.1 ∙ sym (offset_next (chars bytes) p c next),
      )

      pub chars_up_to : (part : List ℕ) → part ≡ slice_range bytes 0 past
          → chars part ≡ take (p + 1) (chars bytes)
      chars_up_to part cut =
          let is_part : part ≡ take past bytes = cut ∙ ap (λ n. take n bytes) (omega arith) in
          let next_one : suc p ≡ p + 1 = omega arith in
          ap chars is_part
          ∙ sym (ap (take (suc p))
          (chars_cut bytes past utf8 (boundary_at bytes (suc p) past utf8 is_past))
          ∙ take_at (chars (take past bytes)) (chars (drop past bytes)) (suc p)
          (position_of bytes utf8 (suc p) past is_past))
          ∙ ap (λ n. take n (chars bytes)) next_one

pub range-requires-clause-end_boundary : goal.range-requires-clause-end_boundary
range-requires-clause-end_boundary c =
    let a = c.args in
    let bytes = a.haystack.now in
    let here = position_is bytes a.at c.utf8.haystack c.requires in
    boundary_at bytes (suc (position_at bytes a.at)) c.in-Some.past c.utf8.haystack
    (is_past bytes c.utf8.haystack (position_at bytes a.at) a.at here c.in-Some.field-0-0
    c.in-Some.past c.in-Some.ensures.0 c.in-Some.ensures.1)

pub returns-in-None : goal.returns-in-None
returns-in-None c = λ p here.
    let bytes = c.args.haystack.now in
    all_up_to bytes c.utf8.haystack p c.args.at here
    (at_position bytes c.utf8.haystack p c.args.at here None c.in-None.ensures)

pub returns-in-Some : goal.returns-in-Some
returns-in-Some c = λ p here.
    let bytes = c.args.haystack.now in
    chars_up_to bytes c.utf8.haystack p c.args.at here c.in-Some.field-0-0 c.in-Some.past
    (at_position bytes c.utf8.haystack p c.args.at here (Some c.in-Some.field-0-0)
    c.in-Some.ensures.0) c.in-Some.ensures.1 c.range.result.now c.range.ensures.value
