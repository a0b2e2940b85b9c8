use Rattle.regex_lite_meta.proofs.Common.{◌≡◌, ℕ, suc, ◌+◌, List, [], Some, IsUtf8, chars, take}
use Rattle.regex_lite_meta.proofs.Common.{IsCharBoundary, sym, ap, ◌∙◌, subst, arith, places_of}
use Rattle.regex_lite_meta.proofs.Common.{best_at, IsOffset, position_at, Row}
use Rattle.regex_lite_engine.specs.Graph.Places.{Place}
use Rattle.regex_lite_engine.specs.Pikevm.Machine.{BestState}
use Rattle.regex_lite_engine.specs.Search.NumberedOutcomes.{IsNumberedOutcome}
use Rattle.regex_lite_engine.proofs.OffsetLemmas.{boundary_at}
use Rattle.regex_lite_engine.proofs.laws.search.AlikeLemmas.{seen}
use Rattle.regex_lite_meta.proofs.lazy_dfa.SpanEndLemmas.{from_boundary, is_end, span_end}
use Rattle.regex_lite_meta.proofs.slots.find_short.Goals as goal

module _ (table : List (Place ℕ)) (entry : ℕ) (haystack : List ℕ) (span : ℕ × ℕ) (s : ℕ)
    (known : IsNumberedOutcome table (chars haystack) entry s (best_at (Some span) [])) where
  end_boundary : IsUtf8 haystack → IsCharBoundary haystack span.1
  end_boundary utf8 =
      boundary_at haystack known.0.end span.1 utf8 (is_end table haystack entry s span known)

  -- what is seen from the match's end
  module _ (part : List ℕ) (utf8 : IsUtf8 part)
      (cut : (p : ℕ) → IsOffset (chars haystack) p span.1
      → chars part ≡ take (p + 1) (chars haystack)) where
    is_seen : chars part ≡ seen (chars haystack) known.0.end
    is_seen =
        let next_one : known.0.end + 1 ≡ suc known.0.end = omega arith in
        cut known.0.end (is_end table haystack entry s span known)
        ∙ ap (λ n. take n (chars haystack)) next_one

    begins_there : IsCharBoundary part span.0
    begins_there = from_boundary table haystack entry s span known part utf8 is_seen

    found_there : (reported : ℕ × ℕ) (row : Row) → reported.1 ≡ span.1
        → IsNumberedOutcome table (chars part) entry (position_at part span.0)
        (best_at (Some reported) row)
        → IsNumberedOutcome table (chars haystack) entry s (best_at (Some span) row)
    found_there = span_end table haystack entry s span known part utf8 is_seen

pub up_to_next-seen-requires : goal.up_to_next-seen-requires
up_to_next-seen-requires c =
    let a = c.args in
    end_boundary (places_of a.pattern.now.table.now) a.pattern.now.entry a.haystack.now a.span
    c.requires.known.0 c.requires.known.1 c.utf8.haystack

pub search-requires-clause-boundary : goal.search-requires-clause-boundary
search-requires-clause-boundary c =
    let a = c.args in
    let next = c.up_to_next-seen in
    begins_there (places_of a.pattern.now.table.now) a.pattern.now.entry a.haystack.now a.span
    c.requires.known.0 c.requires.known.1 next.result.now next.utf8 next.ensures

pub returns-clause-found : goal.returns-clause-found
returns-clause-found c = λ reported s known.
    let a = c.args in
    let table = places_of a.pattern.now.table.now in
    let next = c.up_to_next-seen in
    let row = ap (λ (best : BestState). best.row) c.set_row.ensures ∙ c.row.ensures in
    subst (λ row. IsNumberedOutcome table (chars a.haystack.now) a.pattern.now.entry s
    (best_at (Some a.span) row)) (sym row)
    (found_there table a.pattern.now.entry a.haystack.now a.span s known next.result.now next.utf8
    next.ensures (c.in-Some.field-0-0, c.in-Some.last) _ (omega (arith, c.if-last-end.false))
    c.in-Some.ensures.found)
