-- What one search shows by itself.
use Rattle.regex_lite.proofs.Common.{ℕ, Bool, ◌↔◌, List, Some, None, Option, chars, sym, refl, ◌∙◌}
use Rattle.regex_lite.proofs.Common.{subst, IsTree, Tree, HasMatchFrom, search_start, Expression}
use Rattle.regex_lite.proofs.Common.{TellsMatchOfList, MatchesFrom, IsMatchOf, TellsMatch}
use Rattle.regex_lite.proofs.Common.{AreGroupsOf, TellsLocations, Match}
use Rattle.std.proofs.Common.{is_some}
use Rattle.regex_lite.specs.MatchOffsets.{HaveTrees}
use Rattle.regex_lite.specs.RegexListSearches.{TellsLocationsOfList, TellsWhichMatch}
use Rattle.regex_lite.specs.ResultLaws.{EachShows, EachShowsOfList, IsReportedOfEach}
use Rattle.regex_lite.proofs.AgreementLemmas.{answer_reported}
use Rattle.regex_lite.proofs.ListBuildLemmas.{numbered_tree, own_tree}
use Rattle.regex_lite.proofs.OneTreeLemmas.{has_reported, matches_reported, one_tree}
use Rattle.regex_lite.proofs.PairedLemmas.{paired_length}
use Rattle.regex_lite.proofs.string.ListReportedLemmas.{list_answer_reported}

module _ (re : Expression) (haystack : List ℕ) (start : ℕ) where
  match_of_locations : (spans : List (Option (ℕ × ℕ))) (reported : Option Match)
      → TellsLocations re haystack start spans reported → TellsMatch re haystack start reported
  match_of_locations spans None own = own
  match_of_locations spans (Some reported) (tree, given, (found, is, (of, spans_are))) =
      (tree, given, (found, is, of))

  pub each_shows : EachShows re haystack start
  each_shows = record {
    match = answer_reported re haystack start (λ tree. IsMatchOf haystack);
    groups = answer_reported re haystack start (λ tree. AreGroupsOf tree haystack);
    end = λ reported tells. matches_reported re haystack start reported (is_some reported) refl
        tells;
    locations = match_of_locations;
  }

module _ (list : List Expression) (haystack : List ℕ) (start : ℕ) where
  match_of_list_locations : (spans : List (Option (ℕ × ℕ))) (reported : Option (ℕ × Match))
      → TellsLocationsOfList list haystack start spans reported
      → TellsMatchOfList list haystack start reported
  match_of_list_locations spans None own = own
  match_of_list_locations spans (Some reported) (trees, given, (found, is, (of, spans_are))) =
      (trees, given, (found, is, of))

  -- the tree of a pattern matches where the pattern does
  own_matches : (re : Expression) (tree : Tree) → IsTree re.flags (chars re.pattern) tree
      → MatchesFrom re haystack start
      → HasMatchFrom tree (chars haystack) (search_start haystack start)
  own_matches re tree given (other, given_too, has) =
      subst (λ t. HasMatchFrom t (chars haystack) (search_start haystack start))
      (one_tree re.flags (chars re.pattern) other tree given_too given) has

  which_match : (matched : List Bool) → TellsWhichMatch list haystack start matched
      ↔ (HaveTrees list × IsReportedOfEach list haystack start matched)
  which_match matched = (
    λ (trees, given, tells). (
      (trees, given),
      record {
        all = tells.all ∙ sym (paired_length _ list trees given);
        each = λ number re there.
            let own = numbered_tree list trees number re given there in
            has_reported re haystack start _ (own.0, own.2, tells.each number own.0 own.1);
      },
    ),
    λ ((trees, given), reported). (
      trees,
      given,
      record {
        all = reported.all ∙ paired_length _ list trees given;
        each = λ number tree there.
            let own = own_tree list trees number tree given there in
            let so = reported.each number own.0 own.1 in (
              λ is. own_matches own.0 tree own.2 (so.0 is),
              λ has. so.1 (tree, own.2, has),
            );
      },
    ),
  )

  pub each_shows_of_list : EachShowsOfList list haystack start
  each_shows_of_list = record {
    match = list_answer_reported list haystack start (λ tree. IsMatchOf haystack);
    groups = list_answer_reported list haystack start (λ tree. AreGroupsOf tree haystack);
    which = which_match;
    locations = match_of_list_locations;
  }
