-- The slots that a searcher keeps for several patterns determine the groups of the last match.
use Rattle.regex_lite.proofs.Common.{◌≡◌, ℕ, ◌*◌, ◌<◌, List, length, take, Some, IsUtf8, Option}
use Rattle.regex_lite.proofs.Common.{chars, sym, ◌∙◌, subst, StoredGroups, Found}
use Rattle.regex_lite.proofs.Common.{IsFoundInList, groups_of, groups_at, Expression, Groups}
use Rattle.regex_lite.proofs.Common.{whole_span, AreGroups, AreGroupsFoundInList, IsAnswerOf}
use Rattle.regex_lite.proofs.Common.{IsAnswerOfPatterns, span_of_match, AreTrees}
use Rattle.regex_lite.proofs.Common.{AreSlotsForAllGroups, offsets, all_slots}
use Rattle.regex_lite.proofs.Common.{CompiledList, Match}
use Rattle.regex_lite_syntax.proofs.OptionLemmas.{same_some}
use Rattle.regex_lite.specs.CompiledList.{IsBuiltList}
use Rattle.regex_lite.specs.Scanning.{IsMatchOfSearch}
use Rattle.regex_lite.proofs.ListBuildLemmas.{one_list, own_tree}
use Rattle.regex_lite.proofs.string.ListGroupLemmas.{found_groups, found_there}
use Rattle.regex_lite.proofs.string.ListSlotLemmas.{width_kept}
use Rattle.regex_lite.proofs.string.ScanLemmas.{whole_of_groups}
use Rattle.regex_lite_engine.proofs.laws.answer.AnswerAtLemmas.{way_of_found}
use Rattle.regex_lite_engine.specs.Search.Answer.{IsOfWay}

-- what is returned is this answer of some search for the patterns, and these are its slots
abbrev pub IsMatchOfPatterns : List Expression → (haystack : List ℕ) → (slots : List (Option ℕ))
    → ℕ × Found → ℕ × Match → Type 0
IsMatchOfPatterns list haystack slots answer reported =
    IsMatchOfSearch (λ own. own.1) (λ own. own.0) (IsAnswerOfPatterns list (chars haystack))
    haystack slots answer reported

-- the groups of what was found have its span
whole_in_list : (list : List Expression) (bytes : List ℕ) (s : ℕ) (answer : ℕ × Found)
    (groups : Groups) → IsAnswerOfPatterns list (chars bytes) s (Some answer)
    → AreGroupsFoundInList list bytes answer.0 answer.1 groups
    → whole_span groups ≡ offsets (chars bytes) (answer.1.start, answer.1.end)
whole_in_list list bytes s (number, found) groups (trees, given, is) (re, at, are) =
    let own = own_tree list trees number is.tree given is.numbered in
    whole_of_groups re bytes found.start found groups
    (subst (λ e. IsAnswerOf e (chars bytes) found.start (Some found)) (same_some (sym own.1 ∙ at))
    (is.tree, own.2, is.answer)) are

-- so those of the last match have its span
pub span_of_last_in_list : (list : List Expression) (bytes : List ℕ) (kept : List (Option ℕ))
    (own : ℕ × Found) (reported : ℕ × Match) (groups : Groups)
    → IsMatchOfPatterns list bytes kept own reported
    → AreGroupsFoundInList list bytes own.0 own.1 groups → whole_span groups ≡ span_of_match
    reported.1
span_of_last_in_list list bytes kept own reported groups (s, is, last) are =
    whole_in_list list bytes s own groups is are ∙ sym last.is_match.span

-- the slots that are kept determine the groups of the last match
module _ (bytes : List ℕ) (utf8 : IsUtf8 bytes) (list : List Expression) (compiled : CompiledList)
    (built : IsBuiltList compiled) (given : AreTrees list built.trees)
    (kept slots : List (Option ℕ)) (room : AreSlotsForAllGroups list (length kept))
    (own : ℕ × Found)
    (reported : ℕ × Match) (last : IsMatchOfPatterns list bytes kept own reported) where
  answer : IsFoundInList built.trees (chars bytes) last.0 reported.0 own.1
  answer = subst (λ number. IsFoundInList built.trees (chars bytes) last.0 number own.1)
      (sym last.2.number) (subst (λ trees. IsFoundInList trees (chars bytes) last.0 own.0 own.1)
      (one_list list last.1.0 built.trees last.1.1 given) last.1.2)

  way : IsOfWay answer.tree (chars bytes) own.1
  way = way_of_found answer.tree (chars bytes) own.1.start own.1 answer.answer

  width : length kept ≡ compiled.kept_slots
  width = width_kept list compiled built given (length kept) room

  -- its pattern is there
  pub last_there : reported.0 < length compiled.graph.groups
  last_there = found_there bytes utf8 list compiled built given reported.0 answer.tree
      answer.numbered own.1 way kept
      last.2.has_slots (span_of_match reported.1) last.2.is_match.span width slots

  -- all slots hold groups, which are those of what was found
  pub last_groups : (shared : StoredGroups) → shared ≡ groups_at compiled.graph.groups reported.0
      → slots ≡ take (2 * length shared.capture_names) (all_slots kept (span_of_match reported.1))
      → AreGroups (groups_of bytes slots shared)
      × ((groups : Groups) → groups ≡ groups_of bytes slots shared
      → AreGroupsFoundInList list bytes own.0 own.1 groups)
  last_groups shared stored filled =
      let all = found_groups bytes utf8 list compiled built given reported.0 answer.tree
      answer.numbered own.1 way kept last.2.has_slots (span_of_match reported.1)
      last.2.is_match.span width slots shared stored filled
      in
      let re = own_tree list built.trees reported.0 answer.tree given answer.numbered in (
        all.0,
        λ groups are. subst (λ number. AreGroupsFoundInList list bytes number own.1 groups)
            last.2.number (re.0, re.1, (answer.tree, re.2, all.1 groups are)),
      )
