-- What a search for a pattern returns is its first match by offsets.
use Rattle.regex_lite.proofs.Common.{◌≡◌, ℕ, ◌<◌, ◌≤◌, ◌↔◌, List, length, Some, None, IsUtf8, chars}
use Rattle.regex_lite.proofs.Common.{unwrap_or, sym, refl, ap, ◌∙◌, subst, inl, inr, arith}
use Rattle.regex_lite.proofs.Common.{IsCharBoundary-start, IsTree, Text, Tree, captures_len}
use Rattle.regex_lite.proofs.Common.{HasMatchFrom, Found, IsFound, offset, search_start}
use Rattle.regex_lite.proofs.Common.{IsPatternTree, Expression, OfTree, Groups, span_at, whole_span}
use Rattle.regex_lite.proofs.Common.{haystack_of_match, span_of_match, MatchesFrom, offsets}
use Rattle.regex_lite.proofs.Common.{TellsMatch, TellsGroups, Match}
use Rattle.std.proofs.lemmas.List.{take_all}
use Rattle.std.proofs.lemmas.Str.{encodes-chars}
use Rattle.regex_lite_syntax.specs.Grammar.{HasTree}
use Rattle.regex_lite_syntax.specs.Tree.Matches.{IsPosition, Matches}
use Rattle.regex_lite_engine.specs.Graph.WrittenOut.{place_of_pattern, start_address, end_address}
use Rattle.regex_lite_engine.specs.Search.Answer.{IsMatchFrom}
use Rattle.regex_lite_engine.specs.Search.Marks.{marks_of_way}
use Rattle.regex_lite_engine.specs.Search.Offsets.{IsOffset}
use Rattle.regex_lite_engine.proofs.OffsetLemmas.{offset_grows, offset_most, positions_order}
use Rattle.regex_lite_engine.proofs.PositionLemmas.{position_is, start_position}
use Rattle.regex_lite_engine.proofs.laws.PatternTreeLemmas.{regular_tree}
use Rattle.regex_lite_engine.proofs.laws.PatternWayLemmas.{match_way}
use Rattle.regex_lite_engine.proofs.laws.answer.AnswerLemmas.{found_match}
use Rattle.regex_lite_engine.proofs.laws.answer.ReachLemmas.{walk_inside}
use Rattle.regex_lite.specs.MatchOffsets.{IsFirstMatch, MatchesAt, MatchesIn}
use Rattle.regex_lite.specs.MatchOffsets.{MatchesNowhere, PrefersSpan}
use Rattle.regex_lite.specs.OffsetLaws.{FindsFirst}
use Rattle.regex_lite.specs.Searches.{CanStartAt}
use Rattle.regex_lite.proofs.OneTreeLemmas.{one_tree}
use Rattle.regex_lite.proofs.string.FoundLemmas.{group_0}
use Rattle.regex_lite.proofs.string.ReportedLemmas.{same_pair}
use Rattle.regex_lite_engine.proofs.laws.answer.AnswerAtLemmas.{way_of_found}

-- a match of the pattern's tree ends in the haystack
end_inside : (tree : Tree) (haystack : Text) (i j : ℕ) → IsPatternTree tree
    → IsPosition haystack i → Matches haystack tree i j → IsPosition haystack j
end_inside tree haystack i j given inside matches =
    let way = match_way tree haystack i j (regular_tree tree given) matches in
    walk_inside haystack (place_of_pattern tree) way.0 (start_address, i) (end_address, j) way.1.0
    inside

module _ (haystack : List ℕ) (utf8 : IsUtf8 haystack) (start : ℕ)
    (can : CanStartAt haystack start) where
  abbrev h : Text
  h = chars haystack

  abbrev s : ℕ
  s = search_start haystack start

  offset_inside : (i : ℕ) → offset h i ≤ length haystack
  offset_inside i = subst (λ bytes. offset h i ≤ length bytes) (encodes-chars haystack utf8)
      (offset_most h i)

  -- a search that is asked for from above the length starts after all positions
  pub starts_after : length haystack < start → length h < s
  starts_after above =
      let whole = take_all start haystack (omega (arith, above)) in
      let all = ap (λ bytes. length (chars bytes)) whole in
      omega (arith, all, above)

  -- where the search starts, or later, no position has an offset below the start
  pub offset_from : (i : ℕ) → IsPosition h i → s ≤ i → start ≤ offset h i
  offset_from i inside later = each can
    where
      each : CanStartAt haystack start → start ≤ offset h i
      each (inl above) =
          let none = starts_after above in absurd (omega (arith, none, later, inside))
      each (inr edge) =
          let own = position_is haystack start utf8 edge in
          let same = ap (offset h) (start_position haystack start edge) in
          let grows = offset_grows h s i later in
          omega (arith, own.1, same, grows)

  -- and each position with another offset is one of those
  pub starts_before : (i : ℕ) → start ≤ offset h i → s ≤ i
  starts_before i later = each can
    where
      each : CanStartAt haystack start → s ≤ i
      each (inl above) = absurd (omega (arith, above, later, offset_inside i))
      each (inr edge) =
          let own = position_is haystack start utf8 edge in
          let same = start_position haystack start edge in
          let low : offset h s ≤ offset h i = omega (arith, own.1, ap (offset h) same, later) in
          positions_order h s i (omega (arith, same, own.0)) low

  module _ (re : Expression) where
    -- the pattern matches where its tree does
    pub matched_at : (tree : Tree) (i j : ℕ) → IsTree re.flags (chars re.pattern) tree
        → IsPosition h i → Matches h tree i j → MatchesAt re haystack (offset h i)
    matched_at tree i j given inside matches =
        let ends = end_inside tree h i j (re.flags, _, given) inside matches in
        (offset h j, (tree, given, (i, j, (inside, refl), (ends, refl), matches)))

    -- and its tree where the pattern does
    pub tree_matched : (tree : Tree) (at : ℕ) → IsTree re.flags (chars re.pattern) tree
        → MatchesAt re haystack at
        → (i : ℕ) × (j : ℕ) × IsOffset h i at × Matches h tree i j
    tree_matched tree at given (end, (own, given_too, (i, j, start, stop, matches))) =
        let one = one_tree re.flags (chars re.pattern) own tree given_too given in
        (i, j, start, subst (λ t. Matches h t i j) one matches)

    -- from the start on it matches at or after the position from which the search goes
    pub match_from : (tree : Tree) (at : ℕ) → IsTree re.flags (chars re.pattern) tree → start ≤ at
        → MatchesAt re haystack at
        → (i : ℕ) × (j : ℕ) × (at ≡ offset h i) × IsMatchFrom tree h s i j
    match_from tree at given later matches =
        let own = tree_matched tree at given matches in
        let from = starts_before own.0 (subst (λ n. start ≤ n) own.2.1 later) in (
          own.0,
          own.1,
          own.2.1,
          record { from = from; inside = own.2.0; matches = own.3 },
        )

    pub nowhere : (tree : Tree) → IsTree re.flags (chars re.pattern) tree
        → (HasMatchFrom tree h s → ⊥) → MatchesNowhere re haystack start
    nowhere tree given none at later matches =
        let own = match_from tree at given later matches in none (own.0, own.1, own.3)

    -- what is found is the first match
    pub first_found : (tree : Tree) (found : Found) → IsTree re.flags (chars re.pattern) tree
        → IsFound tree h s found
        → IsFirstMatch re haystack start (offsets h (found.start, found.end))
    first_found tree found given is =
        let of_pattern : IsPatternTree tree = (re.flags, _, given) in
        let own = found_match tree h (regular_tree tree of_pattern) s found is in
        let starts : IsOffset h found.start (offset h found.start) = (is.inside, refl) in
        let ends : IsOffset h found.end (offset h found.end) =
        (end_inside tree h found.start found.end of_pattern is.inside own.matches, refl) in
        record {
          from = offset_from found.start is.inside is.from;
          matches = (tree, given, (found.start, found.end, starts, ends, own.matches));
          least = λ at later matches.
              let other = match_from tree at given later matches in
              subst (λ n. offset h found.start ≤ n) (sym other.2)
              (offset_grows h found.start other.0 (is.least other.0 other.1 other.3));
          preferred =
              (tree, given, (found.start, found.end, is.way, starts, ends, is.most_preferred));
        }

    -- and the first match is what is found
    pub found_first : (span : ℕ × ℕ) → IsFirstMatch re haystack start span
        → OfTree re (λ tree. (found : Found) × IsFound tree h s found
        × (span ≡ offsets h (found.start, found.end)))
    found_first span first = each first.preferred
      where
        each : PrefersSpan re haystack span → OfTree re (λ tree. (found : Found)
            × IsFound tree h s found × (span ≡ offsets h (found.start, found.end)))
        each (tree, given, (i, j, way, at, end, best)) = (
          tree,
          given,
          (
            record { start = i; end = j; marks = marks_of_way tree h i way },
            record {
              from = starts_before i (subst (λ n. start ≤ n) at.1 first.from);
              inside = at.0;
              least = λ k l m.
                  let later = offset_from k m.inside m.from in
                  let low = first.least (offset h k) later
                  (matched_at tree k l given m.inside m.matches) in
                  positions_order h i k at.0 (subst (λ n. n ≤ offset h k) at.1 low);
              way = way;
              most_preferred = best;
              marks = refl;
            },
            same_pair at.1 end.1,
          ),
        )

    reported_first : (m : Match) → TellsMatch re haystack start (Some m)
        → (haystack_of_match m ≡ haystack) × IsFirstMatch re haystack start (span_of_match m)
    reported_first m (tree, given, (found, is, of)) = (
      of.haystack,
      subst (IsFirstMatch re haystack start) (sym of.span) (first_found tree found given is),
    )

    first_reported : (m : Match) → haystack_of_match m ≡ haystack
        → IsFirstMatch re haystack start (span_of_match m)
        → TellsMatch re haystack start (Some m)
    first_reported m same first =
        let own = found_first (span_of_match m) first in
        (own.0, own.1, (own.2.0, own.2.1, record { haystack = same; span = own.2.2 }))

    reported_none : TellsMatch re haystack start None
        ↔ (HasTree re.flags (chars re.pattern) × MatchesNowhere re haystack start)
    reported_none = (
      λ (tree, given, none). ((tree, given), nowhere tree given none),
      λ ((tree, given), none). (
        tree,
        given,
        λ (i, j, m). none (offset h i) (offset_from i m.inside m.from)
            (matched_at tree i j given m.inside m.matches),
      ),
    )

    groups_first : (groups : Groups) → TellsGroups re haystack start (Some groups)
        → IsFirstMatch re haystack start (whole_span groups)
    groups_first groups (tree, given, (found, is, are)) =
        let whole : whole_span groups ≡ offsets h (found.start, found.end) =
        ap (λ spans. unwrap_or (span_at spans 0) (0, 0)) are.spans
        ∙ ap (λ span. unwrap_or span (0, 0))
        (group_0 h tree found (captures_len tree) (re.flags, _, given)
        (way_of_found tree h s found is) (omega arith)) in
        subst (IsFirstMatch re haystack start) (sym whole) (first_found tree found given is)

    from_on : MatchesFrom re haystack start
        ↔ ((at : ℕ) × (start ≤ at) × MatchesAt re haystack at)
    from_on = (
      λ (tree, given, (i, j, m)). (
        offset h i,
        offset_from i m.inside m.from,
        matched_at tree i j given m.inside m.matches,
      ),
      λ (at, later, matches).
          let own = match_from matches.1.0 at matches.1.1 later matches in
          (matches.1.0, matches.1.1, (own.0, own.1, own.3)),
    )

    pub finds_first : FindsFirst re haystack start
    finds_first = record {
      matches = from_on;
      found = λ m. (reported_first m, λ (same, first). first_reported m same first);
      none = reported_none;
      groups = groups_first;
      no_groups = reported_none;
    }

pub from_the_start : (re : Expression) (haystack : List ℕ) → IsUtf8 haystack
    → MatchesFrom re haystack 0 ↔ MatchesIn re haystack
from_the_start re haystack utf8 =
    let own = from_on haystack utf8 0 (inr (IsCharBoundary-start haystack utf8)) re in (
      λ from. let found = own.0 from in (found.0, found.2),
      λ (at, matches). own.1 (at, omega arith, matches),
    )
