-- Positions at which no match of several patterns can begin, and the bytes of their characters.
use Rattle.regex_lite_engine.proofs.Common.{◌≡◌, ℕ, zero, suc, ◌+◌, ◌<◌, ◌≤◌, false, ◌&&◌, List}
use Rattle.regex_lite_engine.proofs.Common.{length, slice_get, slice_index, Some, IsUtf8, chars}
use Rattle.regex_lite_engine.proofs.Common.{sym, ap, ◌∙◌, subst, inl, inr, arith, slice_get_within}
use Rattle.regex_lite_engine.proofs.Common.{may_start, IsPassedByAll, MayBegin, offset, IsHere}
use Rattle.regex_lite_engine.proofs.Common.{AreDeadAt, PassesTo, IsPrefixIndexOf, PrefixIndex, Here}
use Rattle.std.proofs.Common.{◌||◌}
use Rattle.regex_lite_syntax.specs.Prefilter.Rows.{start_row, has}
use Rattle.regex_lite_engine.specs.Graph.Places.{Place}
use Rattle.regex_lite_engine.proofs.search.FirstByteLemmas.{ascii_there, begins_later, first_byte}
use Rattle.regex_lite_engine.proofs.Common.{None, Option, Text, after, is_some, IsTrue}
use Rattle.regex_lite_engine.proofs.OffsetLemmas.{offset_less, positions_order}
use Rattle.regex_lite_engine.proofs.search.FirstByteLemmas.{inside, next_at, whole}
use Rattle.regex_lite_syntax.proofs.LookupLemmas.{there_is}
use Rattle.regex_lite_engine.proofs.search.SkipLemmas.{AllBetween}

before_character : (h : Text) (p : ℕ) (o : Option ℕ) → o ≡ after h p → IsTrue (is_some o)
    → p < length h
before_character h p None is some = cc
before_character h p (Some c) is some = slice_get_within h p c (sym is)

-- a search that stands before a character isn't at the end
pub before_end : (bs : List ℕ) (p : ℕ) (x : Here) → IsUtf8 bs → IsHere (chars bs) p x
    → IsTrue (is_some x.after) → x.at < length bs
before_end bs p x u is some =
    let within = before_character (chars bs) p x.after is.ahead some in
    let less = offset_less (chars bs) p (length (chars bs)) within (omega arith) in
    let at = is.bytes in
    omega (arith, at, less, whole bs u)

module _ (table : List (Place ℕ)) (entries : List ℕ) (prefixes : PrefixIndex)
    (w : IsPrefixIndexOf table entries prefixes) (bs : List ℕ) (u : IsUtf8 bs) where
  -- none begins after the haystack's start where the bytes say so
  dead_later : (i : ℕ) → suc i < length (chars bs) → offset (chars bs) (suc i) < length bs
      → IsPassedByAll prefixes bs (offset (chars bs) (suc i))
      → AreDeadAt table (chars bs) entries (suc i)
  dead_later i within short (inl off) number entry is =
      let next = there_is (chars bs) (suc i) within in
      w.any (chars bs) (suc i) (begins_later prefixes.any (chars bs) i
      (there_is (chars bs) i (omega (arith, within)))
      (next.0, next.1, first_byte prefixes.any bs (suc i) next.0 u next.1 within short ∙ off))
      number entry is
  dead_later i within short (inr (more, (first_in, second_in, off))) number entry is =
      w.each (chars bs) (suc i) number entry is
      (ap (λ o. may_start prefixes o (slice_get (chars bs) (suc i))
      (slice_get (chars bs) (suc (suc i))) number) before_is
      ∙ ap (λ o. may_start prefixes (Some before) o (slice_get (chars bs) (suc (suc i))) number)
      first_is
      ∙ ap (λ o. may_start prefixes (Some before) (Some first) o number) second_is
      ∙ ap (λ z. z || (false && has prefixes.rows start_row number))
      (w.walkable.not_in_rows first second number first_in second_in
      (omega (arith, slice_get_within entries number entry is, w.count)) off))
    where
      at : ℕ
      at = offset (chars bs) (suc i)

      first : ℕ
      first = slice_index bs at

      second : ℕ
      second = slice_index bs (at + 1)

      before : ℕ
      before = (there_is (chars bs) i (omega (arith, within))).0

      before_is : slice_get (chars bs) i ≡ Some before
      before_is = (there_is (chars bs) i (omega (arith, within))).1

      first_is : slice_get (chars bs) (suc i) ≡ Some first
      first_is = ascii_there bs (suc i) u within short first_in

      second_is : slice_get (chars bs) (suc (suc i)) ≡ Some second
      second_is =
          let later = next_at bs (suc i) u within more first_in in
          ascii_there bs (suc (suc i)) u (inside bs (suc i) u within more first_in)
          (omega (arith, later, more))
          (subst (λ k. slice_index bs k < 128) (sym later) second_in)
          ∙ ap (λ k. Some (slice_index bs k)) later

  -- nor where a search stands between two characters
  pub dead_here : (p : ℕ) (x : Here) → IsHere (chars bs) p x → IsTrue (is_some x.before)
      → IsTrue (is_some x.after) → IsPassedByAll prefixes bs x.at
      → AreDeadAt table (chars bs) entries p
  dead_here zero x is behind ahead passed = absurd (no_character (ap is_some is.behind) behind)
    where
      no_character : is_some x.before ≡ false → IsTrue (is_some x.before) → ⊥
      no_character none some = let never : IsTrue false = subst IsTrue none some in cc
  dead_here (suc i) x is behind ahead passed =
      let within = before_character (chars bs) (suc i) x.after is.ahead ahead in
      let short = before_end bs (suc i) x u is ahead in
      dead_later i within (subst (λ at. at < length bs) is.bytes short)
      (subst (IsPassedByAll prefixes bs) is.bytes passed)

  -- nor between these offsets, if none does at the haystack's start
  pub dead_between : (from to : ℕ) → to ≤ length bs
      → ((k : ℕ) → from ≤ k → k < to → IsPassedByAll prefixes bs k)
      → (from ≡ 0 → MayBegin prefixes.any (chars bs) 0 → ⊥)
      → AllBetween (AreDeadAt table (chars bs) entries) (chars bs) from to
  dead_between from to most pass start i within above below =
      dead i within above (pass (offset (chars bs) i) above below) (omega (arith, below, most))
    where
      dead : (i : ℕ) → i < length (chars bs) → from ≤ offset (chars bs) i
          → IsPassedByAll prefixes bs (offset (chars bs) i) → offset (chars bs) i < length bs
          → AreDeadAt table (chars bs) entries i
      dead zero within above off short = w.any (chars bs) 0 (start (omega (arith, above)))
      dead (suc i) within above off short = dead_later i within short off
