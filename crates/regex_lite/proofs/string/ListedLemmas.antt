-- One pattern of a list, by its number: what is reported of its tree is what is returned.
use Rattle.regex_lite.proofs.Common.{◌≡◌, ℕ, ◌*◌, ◌<◌, ◌↔◌, Bool, List, get_or, length, slice_get}
use Rattle.regex_lite.proofs.Common.{IsTrue, IsUtf8, IfSome, Some, None, Option, chars, sym, ap}
use Rattle.regex_lite.proofs.Common.{◌∙◌}
use Rattle.regex_lite.proofs.Common.{subst, arith, slice_get-get_or, IsTree, Tree, captures_len}
use Rattle.regex_lite.proofs.Common.{HasTree, AreRegularPatterns, StoredGroups, IsGraphOfList}
use Rattle.regex_lite.proofs.Common.{HasMatchFrom, Found, search_start, IsPatternTree, Outcome}
use Rattle.regex_lite.proofs.Common.{groups_of, groups_at, Expression, OfTree, LiesIn, Groups}
use Rattle.regex_lite.proofs.Common.{AreGroups, haystack_of_match, span_of_match, AreTrees}
use Rattle.regex_lite.proofs.Common.{MatchesFrom, TellsAnswer, TellsMatch, AreGroupsOf, TellsGroups}
use Rattle.regex_lite.proofs.Common.{kept_slots, all_slots, CompiledList, Match}
use Rattle.regex_lite_syntax.specs.Tree.{empty}
use Rattle.regex_lite_syntax.proofs.OptionLemmas.{not_there, same_some}
use Rattle.regex_lite_engine.specs.Graph.StoredList.{StoredList}
use Rattle.regex_lite_engine.specs.Search.Outcomes.{IsOutcome}
use Rattle.regex_lite.specs.CompiledList.{IsBuiltList}
use Rattle.regex_lite.specs.ListedPattern.{OfPattern}
use Rattle.regex_lite.specs.RegexList.{OfTrees}
use Rattle.regex_lite.specs.RegexListSearches.{AreOfPattern}
use Rattle.regex_lite.proofs.ListBuildLemmas.{one_list, own_tree}
use Rattle.regex_lite.proofs.OneTreeLemmas.{has_reported}
use Rattle.regex_lite.proofs.PairedLemmas.{paired_length}
use Rattle.regex_lite.proofs.string.CapturedLemmas.{all_reported, captured}
use Rattle.regex_lite.proofs.string.ListGroupLemmas.{named_groups, stored_at}
use Rattle.regex_lite.proofs.string.ReportedLemmas.{match_reported, same_pair, span_lies}
use Rattle.regex_lite_engine.proofs.laws.answer.AnswerAtLemmas.{way_of_found}

module _ (list : List Expression) (compiled : CompiledList) (built : IsBuiltList compiled)
    (given : AreTrees list built.trees) (number : ℕ) (within : number < length list) where
  each : length list ≡ length built.trees
  each = paired_length (λ re tree. IsTree re.flags (chars re.pattern) tree) list built.trees given

  -- the graph has an entry of the pattern
  pub has_entry : number < length compiled.graph.entries
  has_entry = let all = each in omega (arith, within, all, built.graph.each_entry)

  -- and says whether it reads
  pub has_reading : number < length compiled.graph.reads
  has_reading = let all = each in omega (arith, within, all, built.reads.all)

  abbrev pub tree_at : Tree
  tree_at = get_or built.trees number empty

  -- it has a tree
  pub there : HasTree built.trees number tree_at
  there =
      let all = each in
      slice_get-get_or built.trees number empty (omega (arith, within, all))

  pub own : (re : Expression) × (slice_get list number ≡ Some re)
      × IsTree re.flags (chars re.pattern) tree_at
  own = own_tree list built.trees number tree_at given there

  own_grammar : IsPatternTree tree_at
  own_grammar = (own.0.flags, _, own.2)

  -- what holds of the tree holds of the pattern's
  pub listed_tree : (P : Tree → Type 0) → P tree_at → OfPattern list number (λ re. OfTree re P)
  listed_tree P holds = (own.0, own.1, (tree_at, own.2, holds))

  -- whether the tree matches is whether the pattern does
  pub listed_any : (bytes : List ℕ) (start : ℕ) (found : Bool)
      → (IsTrue found ↔ HasMatchFrom tree_at (chars bytes) (search_start bytes start))
      → OfPattern list number (λ re. IsTrue found ↔ MatchesFrom re bytes start)
  listed_any bytes start found reported =
      (own.0, own.1, has_reported own.0 bytes start found (tree_at, own.2, reported))

  -- nothing is returned where the tree has no match
  pub listed_none : {A : Type 0} (says : Tree → Found → A → Type 0) (bytes : List ℕ) (start : ℕ)
      → IsOutcome tree_at bytes start None
      → OfPattern list number (λ re. TellsAnswer says re bytes start None)
  listed_none says bytes start none = (own.0, own.1, (tree_at, own.2, none))

  -- what a search of the graph tells of each tree with the number it tells of this one
  pub listed_outcome : (graph : StoredList) (bytes : List ℕ) (start : ℕ)
      (reported other : Option Outcome)
      → graph ≡ compiled.graph
      → ((trees : List Tree) (tree : Tree) → AreRegularPatterns trees → IsGraphOfList trees graph
      → HasTree trees number tree → IsOutcome tree bytes start reported)
      → reported ≡ other → IsOutcome tree_at bytes start other
  listed_outcome graph bytes start reported other same tells is =
      subst (IsOutcome tree_at bytes start) is
      (tells built.trees tree_at built.regular
      (subst (IsGraphOfList built.trees) (sym same) built.graph) there)

  -- as many slots are kept as its groups need
  pub listed_slots : (slots count : ℕ) (reported : Option Outcome) (outcome : Outcome)
      → OfTrees list (λ trees. (tree : Tree) → HasTree trees number tree
      → slots ≡ 2 * captures_len tree)
      → ((groups : ℕ) → slots ≡ 2 * groups → count ≡ kept_slots groups)
      → IfSome reported (λ own. length own.slots.items ≡ count) → reported ≡ Some outcome
      → length outcome.slots.items ≡ kept_slots (captures_len tree_at)
  listed_slots slots count None outcome room kept len is = absurd (not_there is)
  listed_slots slots count (Some reported) outcome (trees, other, two) kept len is =
      ap (λ (own : Outcome). length own.slots.items) (sym (same_some is)) ∙ len
      ∙ kept (captures_len tree_at) (two tree_at
      (subst (λ all. HasTree all number tree_at) (one_list list built.trees trees given other)
      there))

  module _ (bytes : List ℕ) (utf8 : IsUtf8 bytes) (start : ℕ) (outcome : Outcome)
      (reported : IsOutcome tree_at bytes start (Some outcome)) where
    -- the match lies in the haystack
    pub listed_span : LiesIn bytes (outcome.start, outcome.end)
    listed_span =
        span_lies bytes utf8 start own.0 (outcome.start, outcome.end) outcome.slots.items
        (tree_at, own.2, reported)

    -- it is what is returned
    pub listed_match : (m : Match) → haystack_of_match m ≡ bytes
        → span_of_match m ≡ (outcome.start, outcome.end)
        → OfPattern list number (λ re. TellsMatch re bytes start (Some m))
    listed_match m haystack span = (
      own.0,
      own.1,
      match_reported bytes utf8 start own.0 (outcome.start, outcome.end) outcome.slots.items
          (tree_at, own.2, reported) m haystack span,
    )

    module _ (enough : length outcome.slots.items ≡ kept_slots (captures_len tree_at))
        (slots : List (Option ℕ))
        (filled : slots ≡ all_slots outcome.slots.items (outcome.start, outcome.end))
        (shared : StoredGroups) (stored : shared ≡ groups_at compiled.graph.groups number) where
      -- the slots hold groups, which are what is returned
      pub listed_groups : AreGroups (groups_of bytes slots shared)
          × ((groups : Groups) → groups ≡ groups_of bytes slots shared
          → OfPattern list number (λ re. TellsGroups re bytes start (Some groups)))
      listed_groups =
          let s = search_start bytes start in
          let found = reported.0 in
          let way = way_of_found tree_at (chars bytes) s found reported.1 in
          let all = all_reported (chars bytes) tree_at found own_grammar way outcome.slots.items
          slots (outcome.start, outcome.end) filled enough reported.2.slots
          (same_pair reported.2.start reported.2.end) in
          let shares = named_groups tree_at shared own_grammar
          (rw stored (stored_at built.trees compiled.graph number tree_at built.groups there).1) in
          let are = captured bytes utf8 tree_at own_grammar found way slots all shared shares
          in (
            are.0,
            λ groups is. (
              own.0,
              own.1,
              (
                tree_at,
                own.2,
                (found, reported.1, subst (AreGroupsOf tree_at bytes found) (sym is) are.1),
              ),
            ),
          )

-- these are the groups of a match of the pattern
pub listed_of_match : (list : List Expression) (number : ℕ) (bytes : List ℕ) (start : ℕ)
    (groups : Groups) → OfPattern list number (λ re. TellsGroups re bytes start (Some groups))
    → AreOfPattern list (number, groups)
listed_of_match list number bytes start groups (re, numbered, reported) = record {
  re = re;
  numbered = numbered;
  of_match = record { haystack = bytes; start = start; reported = reported };
}
