-- What an anchored search for a pattern returns is what the search from there on returns, where
-- that starts there.
use Rattle.regex_lite.proofs.Common.{◌≡◌, ℕ, Bool, false, ◌↔◌, List, length, IsTrue, Some, IsUtf8}
use Rattle.regex_lite.proofs.Common.{chars, unwrap_or, sym, ap, ◌∙◌, subst, inl, inr, arith}
use Rattle.regex_lite.proofs.Common.{IsTree, Text, Tree, captures_len, Found, IsFound, offset}
use Rattle.regex_lite.proofs.Common.{search_start, IsPatternTree, Expression, OfTree}
use Rattle.regex_lite.proofs.Common.{Groups, span_at, whole_span, span_of_match, offsets}
use Rattle.regex_lite.proofs.Common.{spans_from, TellsAnswer, IsMatchOf, AreGroupsOf}
use Rattle.regex_lite_syntax.proofs.OptionLemmas.{same_some}
use Rattle.regex_lite_syntax.specs.Tree.Matches.{IsPosition, Matches}
use Rattle.regex_lite_engine.specs.Search.AnswerAt.{HasMatchAt, IsFoundAt}
use Rattle.regex_lite_engine.proofs.PositionLemmas.{position_is, same_position, start_position}
use Rattle.regex_lite_engine.proofs.laws.answer.AnswerAtLemmas.{found_at, found_from, way_of_found}
use Rattle.regex_lite.specs.Anchored.{TellsAnswerAt}
use Rattle.regex_lite.specs.AnchoredLaws.{IsSearchAt}
use Rattle.regex_lite.specs.MatchOffsets.{MatchesAt}
use Rattle.regex_lite.specs.Searches.{CanStartAt}
use Rattle.regex_lite.proofs.laws.FirstMatchLemmas.{matched_at, starts_after, starts_before}
use Rattle.regex_lite.proofs.laws.FirstMatchLemmas.{tree_matched}
use Rattle.regex_lite.proofs.string.FoundLemmas.{group_0}
use Rattle.regex_lite.proofs.string.LawfulLemmas.{regex_lawful}

-- what is returned of an anchored search is what the search from there on returns
module _ {A : Type 0} (says : Tree → Found → A → Type 0) (re : Expression) (haystack : List ℕ)
    (start : ℕ) (reported : A) where
  pub reported_from : TellsAnswerAt false says re haystack start (Some reported)
      → TellsAnswer says re haystack start (Some reported)
  reported_from (tree, given, (found, is, so)) = (
    tree,
    given,
    (found, found_from tree (chars haystack) (search_start haystack start) found is, so),
  )

  -- and where an anchored search finds something, that is what the search from there on finds
  pub reported_there : OfTree re (λ tree. (found : Found)
      × IsFoundAt false tree (chars haystack) (search_start haystack start) found)
      → TellsAnswer says re haystack start (Some reported)
      → TellsAnswerAt false says re haystack start (Some reported)
  reported_there (other, given_too, (there, is_there)) (tree, given, (found, is, so)) =
      let p = search_start haystack start in
      let same = same_some ((regex_lawful re (chars haystack)).one p (Some found) (Some there)
      (tree, given, is) (other, given_too, found_from other (chars haystack) p there is_there)) in
      let here = ap (λ (f : Found). f.start) same ∙ is_there.start in (
        tree,
        given,
        (found, found_at tree (chars haystack) p found is (omega (arith, here)), so),
      )

module _ (haystack : List ℕ) (utf8 : IsUtf8 haystack) (start : ℕ)
    (can : CanStartAt haystack start) where
  abbrev h : Text
  h = chars haystack

  abbrev s : ℕ
  s = search_start haystack start

  -- the search goes from the position that has the start as its offset
  pub start_is : IsPosition h s → offset h s ≡ start
  start_is inside = each can
    where
      each : CanStartAt haystack start → offset h s ≡ start
      each (inl above) =
          let none = starts_after haystack utf8 start can above in
          absurd (omega (arith, none, inside))
      each (inr edge) =
          let own = position_is haystack start utf8 edge in
          let same = ap (offset h) (start_position haystack start edge) in
          omega (arith, own.1, same)

  pub only_start : (i : ℕ) → IsPosition h i → offset h i ≡ start → i ≡ s
  only_start i inside same =
      let from = starts_before haystack utf8 start can i (omega (arith, same)) in
      let there : IsPosition h s = omega (arith, from, inside) in
      same_position h i s inside there (same ∙ sym (start_is there))

  -- the pattern matches there where its tree does
  pub matched_there : (re : Expression) (tree : Tree) → IsTree re.flags (chars re.pattern) tree
      → HasMatchAt false tree h s → MatchesAt re haystack start
  matched_there re tree given (inside, (j, may, matches)) =
      subst (MatchesAt re haystack) (start_is inside)
      (matched_at haystack utf8 start can re tree s j given inside matches)

  -- and its tree where the pattern does
  pub tree_matched_there : (re : Expression) (tree : Tree)
      → IsTree re.flags (chars re.pattern) tree → MatchesAt re haystack start
      → HasMatchAt false tree h s
  tree_matched_there re tree given matches =
      let own = tree_matched haystack utf8 start can re tree start given matches in
      let here = only_start own.0 own.2.0 (sym own.2.1) in (
        subst (IsPosition h) here own.2.0,
        (own.1, tt, subst (λ i. Matches h tree i own.1) here own.3),
      )

  pub has_reported_there : (re : Expression) (found : Bool)
      → OfTree re (λ tree. IsTrue found ↔ HasMatchAt false tree h s)
      → IsTrue found ↔ MatchesAt re haystack start
  has_reported_there re found (tree, given, reported) = (
    λ yes_found. matched_there re tree given (reported.0 yes_found),
    λ matches. reported.1 (tree_matched_there re tree given matches),
  )

  -- what is returned of an anchored search is what the search from there on returns, where its span
  -- starts there
  module _ {A : Type 0} (says : Tree → Found → A → Type 0) (span_of : A → ℕ × ℕ)
      (of_found : (tree : Tree) (p : ℕ) (found : Found) (reported : A) → IsPatternTree tree
      → IsFound tree h p found → says tree found reported
      → span_of reported ≡ offsets h (found.start, found.end)) (re : Expression) where
    pub reported_by_start : (reported : A) → TellsAnswerAt false says re haystack start
        (Some reported) ↔ (TellsAnswer says re haystack start (Some reported)
        × ((span_of reported).0 ≡ start))
    reported_by_start reported = (
      λ at. (reported_from says re haystack start reported at, starts at),
      λ (from, same). back from same,
    )
      where
        starts : TellsAnswerAt false says re haystack start (Some reported) → (span_of reported).0
            ≡ start
        starts (tree, given, (found, is, so)) =
            ap (λ (span : ℕ × ℕ). span.0) (of_found tree s found reported (re.flags, _, given)
            (found_from tree h s found is) so)
            ∙ ap (offset h) is.start
            ∙ start_is (subst (IsPosition h) is.start is.of_way.inside)

        back : TellsAnswer says re haystack start (Some reported) → (span_of reported).0 ≡ start
            → TellsAnswerAt false says re haystack start (Some reported)
        back (tree, given, (found, is, so)) same =
            let span = of_found tree s found reported (re.flags, _, given) is so in
            let here = only_start found.start is.inside
            (sym (ap (λ (span : ℕ × ℕ). span.0) span) ∙ same) in
            (tree, given, (found, found_at tree h s found is (omega (arith, here)), so))

  -- the groups of what is found have its span
  pub whole_of_found : (tree : Tree) (p : ℕ) (found : Found) (groups : Groups)
      → IsPatternTree tree → IsFound tree h p found → AreGroupsOf tree haystack found groups
      → whole_span groups ≡ offsets h (found.start, found.end)
  whole_of_found tree p found groups given is are =
      ap (λ spans. unwrap_or (span_at spans 0) (0, 0)) are.spans
      ∙ ap (λ span. unwrap_or span (0, 0))
      (group_0 h tree found (captures_len tree) given (way_of_found tree h p found is)
      (omega arith))

  pub search_at : (re : Expression) → IsSearchAt re haystack start
  search_at re = record {
    match = reported_by_start (λ tree. IsMatchOf haystack) span_of_match
        (λ tree p found m given is of. of.span) re;
    groups = reported_by_start (λ tree. AreGroupsOf tree haystack) whole_span whole_of_found re;
    locations = λ spans. reported_by_start (λ tree found m. IsMatchOf haystack found m
        × (spans ≡ spans_from h found.marks 0 (length spans))) span_of_match
        (λ tree p found m given is of. of.0.span) re;
  }
