-- From the outcome of a search of the graph to what the search for the pattern returns.
use Rattle.regex_lite.proofs.Common.{◌≡◌, ℕ, ◌≤◌, List, [], length, take, IfSome, Some, None}
use Rattle.regex_lite.proofs.Common.{IsUtf8, Option, option_map, chars, sym, refl, ap, ◌∙◌}
use Rattle.regex_lite.proofs.Common.{subst, arith}
use Rattle.regex_lite.proofs.Common.{IsTree, Tree, captures_len, IsGraphOf, StoredGroups, Found}
use Rattle.regex_lite.proofs.Common.{search_start, IsSpanOutcome, Outcome, IsBuilt, stored_groups}
use Rattle.regex_lite.proofs.Common.{names_of, NamesGroups, groups_of, Expression, OfTree, LiesIn}
use Rattle.regex_lite.proofs.Common.{Groups, span_at, group_span, AreGroups, haystack_of_match}
use Rattle.regex_lite.proofs.Common.{span_of_match, offsets, spans_from, TellsMatch, AreGroupsOf}
use Rattle.regex_lite.proofs.Common.{TellsGroups, TellsLocations, kept_slots, all_slots, Compiled}
use Rattle.regex_lite.proofs.Common.{Match}
use Rattle.regex_lite_syntax.specs.Tree.Regular.{IsRegular}
use Rattle.regex_lite_engine.specs.Search.Answer.{IsOfWay}
use Rattle.regex_lite_engine.proofs.laws.answer.AnswerAtLemmas.{way_of_found}
use Rattle.regex_lite.specs.ReportedWays.{IsReportedOfWay, TellsOfWay}
use Rattle.regex_lite_engine.specs.Graph.Stored.{StoredGraph}
use Rattle.regex_lite_syntax.proofs.OptionLemmas.{not_there, same_some}
use Rattle.regex_lite.specs.Scanning.{AreSlotsForGroups, TellsSpan}
use Rattle.regex_lite.proofs.string.CapturedLemmas.{AreAllSlots, all_reported, built_shares}
use Rattle.regex_lite.proofs.string.CapturedLemmas.{captured}
use Rattle.regex_lite.proofs.string.FoundLemmas.{first_reported, found_lies, group_0, length_spans}
use Rattle.regex_lite.proofs.OneTreeLemmas.{one_tree}

pub same_pair : {a b i j : ℕ} → a ≡ i → b ≡ j → ◌≡◌ {A = ℕ × ℕ} (a, b) (i, j)
same_pair {a} {b} {i} {j} start end = rw (start, end) refl

-- what a search of the graph returns, whatever its tree
abbrev pub TellsOutcome : StoredGraph → (Outcomes : Tree → Option Outcome → Type 0)
    → Option Outcome → Type 0
TellsOutcome graph Outcomes reported =
    (tree : Tree) → IsRegular tree → IsGraphOf tree graph → Outcomes tree reported

-- what holds for a regex's graph holds for its tree
pub outcome_of : (re : Expression) (compiled : Compiled) (built : IsBuilt compiled)
    (graph : StoredGraph) (Outcomes : Tree → Option Outcome → Type 0) (reported : Option Outcome)
    (outcome : Outcome)
    → IsTree re.flags (chars re.pattern) built.tree → graph ≡ compiled.graph
    → TellsOutcome graph Outcomes reported → reported ≡ Some outcome
    → OfTree re (λ tree. Outcomes tree (Some outcome))
outcome_of re compiled built graph Outcomes reported outcome given same tells is = (
  built.tree,
  given,
  subst (Outcomes built.tree) is
      (tells built.tree built.regular (subst (IsGraphOf built.tree) (sym same) built.graph)),
)

-- and so does what holds of the graph that a searcher holds
pub of_held : (compiled : Compiled) → IsBuilt compiled → (graph : StoredGraph)
    → graph ≡ compiled.graph → (property : Tree → Type 0)
    → ((tree : Tree) → IsRegular tree → IsGraphOf tree graph → property tree)
    → OfTree compiled.pattern property
of_held compiled built graph same property tells = (
  built.tree,
  built.given,
  tells built.tree built.regular (subst (IsGraphOf built.tree) (sym same) built.graph),
)

module _ (bytes : List ℕ) (utf8 : IsUtf8 bytes) (start : ℕ) (re : Expression) (span : ℕ × ℕ)
    (slots : List (Option ℕ))
    (own : OfTree re (λ tree. IsSpanOutcome tree bytes start slots (Some span))) where
  abbrev found : Found
  found = own.2.0

  span_is : offsets (chars bytes) (found.start, found.end) ≡ span
  span_is = same_pair (sym own.2.2.start) (sym own.2.2.end)

  -- the match lies in the haystack
  pub span_lies : LiesIn bytes span
  span_lies = subst (LiesIn bytes) span_is
      (found_lies bytes utf8 own.0 (re.flags, _, own.1) found
      (way_of_found own.0 (chars bytes) (search_start bytes start) found own.2.1))

  -- it is what is returned
  pub match_reported : (m : Match) → haystack_of_match m ≡ bytes → span_of_match m ≡ span
      → TellsMatch re bytes start (Some m)
  match_reported m haystack is = (
    own.0,
    own.1,
    (
      found,
      own.2.1,
      record {
        haystack = haystack;
        span = is ∙ sym span_is;
      },
    ),
  )

  -- a way is reported
  pub way_reported : TellsOfWay re bytes span slots
  way_reported = record {
    tree = own.0;
    given = own.1;
    found = found;
    reported = record {
      of_way = way_of_found own.0 (chars bytes) (search_start bytes start) found own.2.1;
      tells = own.2.2;
    };
  }

  -- it is reported with its slots
  pub span_reported : TellsSpan re bytes start slots (Some (tt {0}, span))
  span_reported = (
    found,
    (own.0, own.1, own.2.1),
    record { number = refl; span = sym span_is; has_slots = own.2.2.slots },
  )

-- what a search of the graph tells of a way, as a regex returns it
module _ (bytes : List ℕ) (utf8 : IsUtf8 bytes) (re : Expression) (span : ℕ × ℕ)
    (slots : List (Option ℕ)) (tree : Tree) (found : Found)
    (own : IsTree re.flags (chars re.pattern) tree)
    (reported : IsReportedOfWay tree bytes span slots found)
    (compiled : Compiled) (built : IsBuilt compiled)
    (given : IsTree re.flags (chars re.pattern) built.tree)
    (enough : length slots ≡ kept_slots (captures_len built.tree)) (all : List (Option ℕ))
    (filled : all ≡ all_slots slots span) (shared : StoredGroups)
    (same : shared ≡ stored_groups compiled) where
  one : tree ≡ built.tree
  one = one_tree re.flags (chars re.pattern) tree built.tree own given

  way : IsOfWay built.tree (chars bytes) found
  way = subst (λ t. IsOfWay t (chars bytes) found) one reported.of_way

  all_held : AreAllSlots (chars bytes) built.tree found all
  all_held = all_reported (chars bytes) built.tree found (compiled.pattern.flags, _, built.given)
      way slots all span filled enough reported.tells.slots
      (same_pair reported.tells.start reported.tells.end)

  -- all slots hold groups, which are those of the way
  pub groups_reported : AreGroups (groups_of bytes all shared)
      × ((groups : Groups) → groups ≡ groups_of bytes all shared
      → AreGroupsOf tree bytes found groups)
  groups_reported =
      let held = captured bytes utf8 built.tree (compiled.pattern.flags, _, built.given) found way
      all all_held shared
      (subst (λ c. NamesGroups built.tree (names_of c) c.static_captures_len) (sym same)
      (built_shares compiled built)) in (
        held.0,
        λ groups are.
            subst (λ t. AreGroupsOf t bytes found groups) (sym one)
            (subst (AreGroupsOf built.tree bytes found) (sym are) held.1),
      )

-- a search for the groups has as many slots as are kept for them
pub slots_are : (re : Expression) (reported : Option Outcome) (outcome : Outcome) (n : ℕ)
    → AreSlotsForGroups re n → IfSome reported (λ o. length o.slots.items ≡ n) → reported ≡ Some
    outcome → AreSlotsForGroups re (length outcome.slots.items)
slots_are re None outcome n enough len is = absurd (not_there is)
slots_are re (Some o) outcome n (tree, given, enough) len is = (
  tree,
  given,
  ap (λ (own : Outcome). length own.slots.items) (sym (same_some is)) ∙ len ∙ enough,
)

-- where none are kept there is room for those of the whole match
pub room_of_whole : (reported : Option Outcome) (outcome : Outcome) (n : ℕ)
    (whole : List (Option ℕ)) → IfSome reported (λ o. length o.slots.items ≡ n) → reported ≡ Some
    outcome → (n ≡ 0 → length whole ≡ 2) → outcome.slots.items ≡ [] → length whole ≡ 2
room_of_whole None outcome n whole len is room none = absurd (not_there is)
room_of_whole (Some o) outcome n whole len is room none =
    room (sym len ∙ ap (λ (own : Outcome). length own.slots.items) (same_some is)
    ∙ ap length none)

-- the regex has as many groups as it says
pub room_reported : (re : Expression) (bytes : List ℕ) (start n : ℕ) (reported : Option Groups)
    (groups : Groups) → OfTree re (λ tree. n ≤ captures_len tree)
    → TellsGroups re bytes start reported → reported ≡ Some groups → n ≤ length groups.spans
room_reported re bytes start n None groups room tells is = absurd cc
room_reported re bytes start n (Some own) groups (tree, given, few)
    (other, given_too, (found, f, are)) is =
    let all = length_spans (chars bytes) found.marks 0 (captures_len other) in
    let as_many = ap (λ (g : Groups). length g.spans) (sym (same_some is))
    ∙ ap (λ spans. length spans) are.spans ∙ all in
    let count = ap captures_len (one_tree re.flags (chars re.pattern) tree other given given_too) in
    omega (arith, few, as_many, count)

-- the first groups, and the match, of what is returned
pub locations_reported : (re : Expression) (bytes : List ℕ) (start n : ℕ) (reported : Option Groups)
    (groups : Groups) (m : Option Match) (spans : List (Option (ℕ × ℕ)))
    → TellsGroups re bytes start reported → reported ≡ Some groups
    → option_map span_of_match m ≡ group_span groups 0
    → IfSome m (λ own. haystack_of_match own ≡ groups.haystack) → spans ≡ take n groups.spans
    → TellsLocations re bytes start spans m
locations_reported re bytes start n None groups m spans tells is found within first = absurd cc
locations_reported re bytes start n (Some own) groups m spans (tree, given, (f, is_found, of_own))
    is found within first =
    each m found within
  where
    are : AreGroupsOf tree bytes f groups
    are = subst (λ g. AreGroupsOf tree bytes f g) (same_some is) of_own

    whole : group_span groups 0 ≡ Some (offsets (chars bytes) (f.start, f.end))
    whole = ap (λ all. span_at all 0) are.spans
        ∙ group_0 (chars bytes) tree f (captures_len tree) (re.flags, _, given)
        (way_of_found tree (chars bytes) (search_start bytes start) f is_found) (omega arith)

    first_are : spans ≡ spans_from (chars bytes) f.marks 0 (length spans)
    first_are =
        let all = first ∙ ap (take n) are.spans in
        let reported_first = first_reported (chars bytes) f.marks n 0 (captures_len tree) in
        all ∙ reported_first ∙ ap (λ s. spans_from (chars bytes) f.marks 0 (length s)) (sym all)

    each : (m : Option Match) → option_map span_of_match m ≡ group_span groups 0
        → IfSome m (λ own. haystack_of_match own ≡ groups.haystack)
        → TellsLocations re bytes start spans m
    each None found within = absurd (not_there (found ∙ whole))
    each (Some m) found within = (
      tree,
      given,
      (
        f,
        is_found,
        (
          record {
            haystack = within ∙ are.haystack;
            span = same_some (found ∙ whole);
          },
          first_are,
        ),
      ),
    )
