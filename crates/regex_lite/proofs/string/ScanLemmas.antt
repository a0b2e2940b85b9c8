-- The slots that a searcher keeps determine the groups of the last match, and after an empty match
-- that is the answer.
use Rattle.regex_lite.proofs.Common.{◌≡◌, ℕ, ◌<◌, ◌⊎◌, List, length, Some, IsUtf8, Option, chars}
use Rattle.regex_lite.proofs.Common.{unwrap_or, sym, refl, ap, ◌∙◌, subst, inl, inr, arith}
use Rattle.regex_lite.proofs.Common.{cases_order, nat_tests, Text, Tree, captures_len, StoredGroups}
use Rattle.regex_lite.proofs.Common.{Found, IsFound, offset, position_at, IsOnward, IsWithin}
use Rattle.regex_lite.proofs.Common.{AreLawful, IsEmptyAnswerFrom, groups_of, Expression, Groups}
use Rattle.regex_lite.proofs.Common.{span_at, whole_span, AreGroups, AreGroupsFound, IsAnswerOf}
use Rattle.regex_lite.proofs.Common.{span_of_match, Scanning, offsets, IsMatchOf, kept_slots}
use Rattle.regex_lite.proofs.Common.{all_slots, Match}
use Rattle.regex_lite_engine.proofs.OffsetLemmas.{offset_less}
use Rattle.regex_lite_engine.proofs.PositionLemmas.{position_of}
use Rattle.regex_lite.specs.Ahead.{AheadOf, ahead_by}
use Rattle.regex_lite.specs.Compiled.{AreOfRegex, SharesGroups}
use Rattle.regex_lite.specs.Items.{Came, GroupsCame}
use Rattle.regex_lite.specs.Scanning.{AreSlotsForGroups, IsMatchOfSearch}
use Rattle.regex_lite.proofs.string.CapturedLemmas.{AreAllSlots, all_reported, captured}
use Rattle.regex_lite.proofs.string.FoundLemmas.{group_0}
use Rattle.regex_lite.proofs.string.NextLemmas.{next_answer}
use Rattle.regex_lite.proofs.OneTreeLemmas.{one_tree}
use Rattle.regex_lite_engine.proofs.laws.answer.AnswerAtLemmas.{way_of_found}
use Rattle.regex_lite_engine.specs.Search.Answer.{IsOfWay}

-- what is returned is this answer of some search for the pattern, and these are its slots
abbrev pub IsMatchOfRegex : Expression → (haystack : List ℕ) → (slots : List (Option ℕ)) → Found
    → Unit {0} × Match → Type 0
IsMatchOfRegex re haystack slots found reported =
    IsMatchOfSearch (λ own. own) (λ own. tt {0}) (IsAnswerOf re (chars haystack)) haystack slots
    found reported

module _ (bytes : List ℕ) (utf8 : IsUtf8 bytes) (re : Expression) (kept slots : List (Option ℕ))
    (room : AreSlotsForGroups re (length kept)) (shared : StoredGroups)
    (shares : SharesGroups re shared) (found : Found) (reported : Unit {0} × Match)
    (filled : slots ≡ all_slots kept (span_of_match reported.1))
    (last : IsMatchOfRegex re bytes kept found reported) where
  abbrev tree : Tree
  tree = shares.0

  enough : length kept ≡ kept_slots (captures_len tree)
  enough = subst (λ own. length kept ≡ kept_slots (captures_len own))
      (one_tree re.flags (chars re.pattern) room.0 tree room.1 shares.1) room.2

  is_found : IsFound tree (chars bytes) last.0 found
  is_found = subst (λ own. IsFound own (chars bytes) last.0 found)
      (one_tree re.flags (chars re.pattern) last.1.0 tree last.1.1 shares.1) last.1.2

  way : IsOfWay tree (chars bytes) found
  way = way_of_found tree (chars bytes) last.0 found is_found

  all_held : AreAllSlots (chars bytes) tree found slots
  all_held = all_reported (chars bytes) tree found (re.flags, _, shares.1) way kept slots
      (span_of_match reported.1) filled enough last.2.has_slots last.2.is_match.span

  -- all slots hold groups, which are those of what was found
  pub groups_kept : AreGroups (groups_of bytes slots shared)
      × AreGroupsFound re bytes found (groups_of bytes slots shared)
  groups_kept =
      let own = captured bytes utf8 tree (re.flags, _, shares.1) found way slots
      all_held shared shares.2 in
      (own.0, (tree, shares.1, own.1))

-- groups that were found are those of the regex
pub of_regex : (re : Expression) (bytes : List ℕ) (found : Found) (groups : Groups)
    → AreGroupsFound re bytes found groups → AreOfRegex re groups
of_regex re bytes found groups (tree, given, are) =
    (tree, given, record { names_are = are.names; static_is = are.static_captures })

-- the groups of what was found have its span
pub whole_of_groups : (re : Expression) (bytes : List ℕ) (s : ℕ) (found : Found) (groups : Groups)
    → IsAnswerOf re (chars bytes) s (Some found) → AreGroupsFound re bytes found groups
    → whole_span groups ≡ offsets (chars bytes) (found.start, found.end)
whole_of_groups re bytes s found groups (tree, given, is) (own, given_too, are) =
    ap (λ spans. unwrap_or (span_at spans 0) (0, 0)) are.spans ∙ ap (λ span. unwrap_or span (0, 0))
    (group_0 (chars bytes) own found (captures_len own) (re.flags, _, given_too)
    (subst (λ t. IsOfWay t (chars bytes) found)
    (one_tree re.flags (chars re.pattern) tree own given given_too)
    (way_of_found tree (chars bytes) s found is)) (omega arith))

-- so those of the last match have its span
pub span_of_last : (re : Expression) (bytes : List ℕ) (kept : List (Option ℕ)) (found : Found)
    (reported : Unit {0} × Match) (groups : Groups) → IsMatchOfRegex re bytes kept found reported
    → AreGroupsFound re bytes found groups → whole_span groups ≡ span_of_match reported.1
span_of_last re bytes kept found reported groups (s, is, last) are =
    whole_of_groups re bytes s found groups is are ∙ sym last.is_match.span

-- a match came, whatever found it
module _ {F S A N : Type 0} (sought : F → S) (slots : F → List (Option ℕ)) (found_of : A → Found)
    (number_of : A → N) (IsAnswerTo : S → Text → (s : ℕ) → Option A → Type 0)
    (old new : Scanning F) (reported : N × Match)
    (came : Came sought slots found_of number_of IsAnswerTo old reported new) where
  same_sought : sought new.finder ≡ sought old.finder
  same_sought = ap (λ (a : AheadOf S). a.sought) came.4.passed

  -- some search answered it
  answered : (s : ℕ) × IsAnswerTo (sought old.finder) (chars old.haystack) s (Some came.0)
  answered =
      let own = next_answer found_of (IsAnswerTo (sought old.finder) (chars old.haystack))
      (ahead_by sought old).ended came.0 came.4.comes in
      (own.0, own.1)

  -- it is the last match, with these slots
  pub last_match : IsMatchOfSearch found_of number_of
      (IsAnswerTo (sought new.finder) (chars old.haystack)) old.haystack (slots new.finder) came.0
      reported
  last_match = rw (same_sought) (answered.0, answered.1, came.1)

  -- its groups came with it
  pub groups_came : (AreFound : S → (haystack : List ℕ) → A → Groups → Type 0) (groups : Groups)
      → AreFound (sought new.finder) old.haystack came.0 groups
      → whole_span groups ≡ span_of_match reported.1
      → GroupsCame sought found_of number_of IsAnswerTo AreFound old (reported.0, groups) new
  groups_came AreFound groups are is = (
    came.0,
    came.1.number,
    subst (λ own. AreFound own old.haystack came.0 groups) same_sought are,
    subst (IsOnward old.ended) (sym is) came.2,
    came.3 ∙ ap (λ (own : ℕ × ℕ). Some own.1) (sym is),
    came.4,
  )

-- an empty match is the answer from its end
module _ {A : Type 0} (found_of : A → Found) (bytes : List ℕ) (utf8 : IsUtf8 bytes)
    (Answers : (s : ℕ) → Option A → Type 0) (lawful : AreLawful found_of (chars bytes) Answers)
    (s : ℕ) (answer : A) (is : Answers s (Some answer)) (m : Match)
    (of : IsMatchOf bytes (found_of answer) m) where
  within : IsWithin (chars bytes) s (found_of answer)
  within = lawful.within s answer is

  start : m.start ≡ offset (chars bytes) (found_of answer).start
  start = ap (λ (own : ℕ × ℕ). own.0) of.span

  end : m.end ≡ offset (chars bytes) (found_of answer).end
  end = ap (λ (own : ℕ × ℕ). own.1) of.span

  at : position_at bytes m.end ≡ (found_of answer).end
  at = ap (position_at bytes) end
      ∙ position_of bytes utf8 (found_of answer).end (offset (chars bytes) (found_of answer).end)
      (within.inside, refl)

  same : (span_of_match m).0 ≡ (span_of_match m).1 → (found_of answer).start ≡ (found_of answer).end
  same empty = each (cases_order (found_of answer).start (found_of answer).end)
    where
      each : ((found_of answer).start ≡ (found_of answer).end)
          ⊎ (((found_of answer).start < (found_of answer).end)
          ⊎ ((found_of answer).end < (found_of answer).start))
          → (found_of answer).start ≡ (found_of answer).end
      each (inl e) = e
      each (inr (inl less)) =
          let below = offset_less (chars bytes) (found_of answer).start (found_of answer).end less
          within.inside in
          absurd (omega (arith, start, end, below, empty))
      each (inr (inr more)) = absurd (omega (arith, within.ordered, more))

  pub empty_from : (span_of_match m).0 ≡ (span_of_match m).1
      → IsEmptyAnswerFrom found_of Answers bytes (span_of_match m).1
  empty_from empty =
      let one = same empty in (
        answer,
        subst (λ p. Answers p (Some answer)) (sym at)
            (lawful.further s (found_of answer).end answer
            (omega (arith, within.from, within.ordered)) (omega (arith, one)) is),
        grind (arith, nat_tests, at, one),
      )
