-- The slots of an outcome determine the groups of what was found of several patterns.
use Rattle.regex_lite.proofs.Common.{◌≡◌, ℕ, ◌*◌, ◌<◌, ◌≤◌, List, [], length, take, Some, None}
use Rattle.regex_lite.proofs.Common.{IsUtf8, Option, chars, sym, refl, ap, ◌∙◌, subst, arith}
use Rattle.regex_lite.proofs.Common.{length-take-le, slice_get-get_or, Tree, HasTree, StoredGroups}
use Rattle.regex_lite.proofs.Common.{Found, HasSlots}
use Rattle.regex_lite.proofs.Common.{IsPatternTree, names_of, NamesGroups, groups_of}
use Rattle.regex_lite.proofs.Common.{groups_at, Expression, Groups, AreGroups, AreTrees}
use Rattle.regex_lite.proofs.Common.{TellsGroupsOfList, offsets, AreGroupsOf, all_slots}
use Rattle.regex_lite.proofs.Common.{most_groups, CompiledList}
use Rattle.std.proofs.lemmas.Option.{slice_get_within, unwrap_or-slice_get}
use Rattle.regex_lite_engine.specs.Graph.StoredList.{HasGroupsOfList, StoredList, TellsGroupsOf}
use Rattle.regex_lite_engine.specs.Search.Answer.{IsOfWay}
use Rattle.regex_lite_engine.specs.Search.Outcomes.{IsSpanOutcomeOfList}
use Rattle.regex_lite_engine.proofs.laws.PatternTreeLemmas.{regular_tree}
use Rattle.regex_lite.specs.CompiledList.{IsBuiltList}
use Rattle.regex_lite.specs.RegexListSearches.{AreOfPattern}
use Rattle.regex_lite.proofs.string.CapturedLemmas.{AreAllSlots, captured, held_all}
use Rattle.regex_lite.proofs.string.GroupNameLemmas.{are_names}
use Rattle.regex_lite.specs.ReportedWays.{IsReportedOfWay}
use Rattle.regex_lite.proofs.ListBuildLemmas.{one_list, pattern_tree}
use Rattle.regex_lite.proofs.string.ListSlotLemmas.{enough_kept, in_whole, most_at}
use Rattle.regex_lite.proofs.string.ListReportedLemmas.{of_pattern}
use Rattle.regex_lite.proofs.string.ReportedLemmas.{same_pair}

-- what is stored of the groups of a pattern is so of its tree
pub named_groups : (tree : Tree) (groups : StoredGroups) → IsPatternTree tree
    → TellsGroupsOf tree groups → NamesGroups tree (names_of groups) groups.static_captures_len
named_groups tree groups given tells = record {
  names_are = are_names _ groups.capture_names tree refl (regular_tree tree given) tells.captures
      tells.names;
  static_is = tells.static_captures;
}

-- the groups of a pattern that is there
pub stored_at : (trees : List Tree) (graph : StoredList) (number : ℕ) (tree : Tree)
    → HasGroupsOfList trees graph → HasTree trees number tree
    → (number < length graph.groups) × TellsGroupsOf tree (groups_at graph.groups number)
stored_at trees graph number tree groups there =
    let less = slice_get_within trees number tree there in
    let within : number < length graph.groups = omega (arith, less, groups.all) in
    let own = slice_get-get_or graph.groups number no_groups within in (
      within,
      groups.each number tree (groups_at graph.groups number) there
          (own ∙ ap Some (sym (unwrap_or-slice_get graph.groups number no_groups))),
    )
  where
    no_groups : StoredGroups
    no_groups = record { capture_names = []; static_captures_len = None }

-- the groups of what is found of a pattern of the list
module _ (bytes : List ℕ) (utf8 : IsUtf8 bytes) (list : List Expression) (compiled : CompiledList)
    (built : IsBuiltList compiled) (given : AreTrees list built.trees) (number : ℕ) (tree : Tree)
    (numbered : HasTree built.trees number tree) (found : Found)
    (way : IsOfWay tree (chars bytes) found) (kept : List (Option ℕ))
    (held : HasSlots (chars bytes) kept found.marks) (span : ℕ × ℕ)
    (same : span ≡ offsets (chars bytes) (found.start, found.end))
    (width : length kept ≡ compiled.kept_slots) (slots : List (Option ℕ)) where
  own_grammar : IsPatternTree tree
  own_grammar = pattern_tree list built.trees given number tree numbered

  -- the pattern is there
  pub found_there : number < length compiled.graph.groups
  found_there = (stored_at built.trees compiled.graph number tree built.groups numbered).0

  module _ (shared : StoredGroups) (stored : shared ≡ groups_at compiled.graph.groups number)
      (filled : slots ≡ take (2 * length shared.capture_names) (all_slots kept span)) where
    tells : TellsGroupsOf tree shared
    tells =
        rw stored (stored_at built.trees compiled.graph number tree built.groups numbered).1

    cut_held : AreAllSlots (chars bytes) tree found slots
    cut_held =
        let all = all_slots kept span in
        let all_held = held_all (chars bytes) tree found own_grammar way kept span held same in
        let few : length shared.capture_names ≤ most_groups compiled.graph.groups =
        rw stored (most_at compiled.graph.groups number found_there) in
        let enough = enough_kept kept span (most_groups compiled.graph.groups)
        (length shared.capture_names) (width ∙ built.slots) few in
        let two = 2 * length shared.capture_names in
        rw (filled) (
          λ k slot there. all_held k slot (in_whole all two k slot there),
          length-take-le two all enough ∙ ap (λ n. 2 * n) tells.captures,
        )

    -- all slots hold groups, which are those of what was found
    pub found_groups : AreGroups (groups_of bytes slots shared)
        × ((groups : Groups) → groups ≡ groups_of bytes slots shared
        → AreGroupsOf tree bytes found groups)
    found_groups =
        let own = captured bytes utf8 tree own_grammar found way slots cut_held shared
        (named_groups tree shared own_grammar tells) in
        (own.0, λ groups are. subst (AreGroupsOf tree bytes found) (sym are) own.1)

-- so of what a search of the graph tells of a way
module _ (bytes : List ℕ) (utf8 : IsUtf8 bytes) (list : List Expression)
    (compiled : CompiledList) (built : IsBuiltList compiled) (given : AreTrees list built.trees)
    (number : ℕ) (trees : List Tree) (own : AreTrees list trees) (tree : Tree)
    (numbered : HasTree trees number tree) where
  there : HasTree built.trees number tree
  there = subst (λ all. HasTree all number tree) (one_list list trees built.trees own given)
      numbered

  -- its pattern is there
  pub listed_there : number < length compiled.graph.groups
  listed_there = (stored_at built.trees compiled.graph number tree built.groups there).0

  module _ (found : Found) (slots : List (Option ℕ)) (span : ℕ × ℕ)
      (reported : IsReportedOfWay tree bytes span slots found)
      (width : length slots ≡ compiled.kept_slots) (all : List (Option ℕ))
      (shared : StoredGroups) (stored : shared ≡ groups_at compiled.graph.groups number)
      (filled : all ≡ take (2 * length shared.capture_names) (all_slots slots span)) where
    -- all slots hold groups, which are those of the way
    pub listed_groups : AreGroups (groups_of bytes all shared)
        × ((groups : Groups) → groups ≡ groups_of bytes all shared
        → AreGroupsOf tree bytes found groups)
    listed_groups =
        found_groups bytes utf8 list compiled built given number tree there found reported.of_way
        slots reported.tells.slots span
        (sym (same_pair (sym reported.tells.start) (sym reported.tells.end))) width all shared
        stored filled

-- the groups of what a search finds are what is returned
pub groups_of_listed : (list : List Expression) (bytes : List ℕ) (start : ℕ) (trees : List Tree)
    (number : ℕ) (span : ℕ × ℕ) (slots : List (Option ℕ)) → AreTrees list trees
    → (own : IsSpanOutcomeOfList trees bytes start slots (Some (number, span)))
    → (reported : ℕ × Groups) → reported.0 ≡ number → AreGroupsOf own.1.tree bytes own.0 reported.1
    → TellsGroupsOfList list bytes start (Some reported)
groups_of_listed list bytes start trees number span slots given own reported same are =
    subst (λ n. TellsGroupsOfList list bytes start (Some (n, reported.1))) (sym same)
    (trees, given, (own.0, own.1, are))

-- which are those of a match of the pattern
pub listed_of_pattern : (bytes : List ℕ) (start : ℕ) (list : List Expression) (number : ℕ)
    (groups : Groups) → TellsGroupsOfList list bytes start (Some (number, groups))
    → AreOfPattern list (number, groups)
listed_of_pattern bytes start list number groups reported =
    let alone = of_pattern (λ tree. AreGroupsOf tree bytes) list bytes start number groups
    reported in
    record {
      re = alone.0;
      numbered = alone.1;
      of_match = record { haystack = bytes; start = start; reported = alone.2 };
    }
