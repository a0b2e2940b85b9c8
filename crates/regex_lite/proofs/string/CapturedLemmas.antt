-- The slots of an outcome, or its span, determine the groups of what was found.
use Rattle.regex_lite.proofs.Common.{◌≡◌, ℕ, zero, suc, ◌*◌, ◌≤◌, List, [], ◌∷◌, length, IfSome}
use Rattle.regex_lite.proofs.Common.{Some, None, IsUtf8, Option, option_map, chars, sym, refl, ap}
use Rattle.regex_lite.proofs.Common.{◌∙◌, subst, arith, filter_map, option_zip, Text, Tree}
use Rattle.regex_lite.proofs.Common.{captures_len, static_captures_len, StoredGroups, Found}
use Rattle.regex_lite.proofs.Common.{offset, HasSlots, IsPatternTree, IsBuilt}
use Rattle.regex_lite.proofs.Common.{stored_groups, names_of, NamesGroups, groups_of, LiesIn}
use Rattle.regex_lite.proofs.Common.{text_at, spans_of, span_at, group_span, texts_from, AreGroups}
use Rattle.regex_lite.proofs.Common.{offsets, spans_from, AreGroupsOf, kept_slots, all_slots}
use Rattle.regex_lite.proofs.Common.{Compiled}
use Rattle.std.proofs.Common.{IsSome}
use Rattle.regex_lite_engine.specs.Search.Answer.{IsOfWay}
use Rattle.regex_lite_engine.proofs.laws.PatternTreeLemmas.{regular_tree}
use Rattle.regex_lite_engine.proofs.laws.groups.SpanLemmas.{groups_inside}
use Rattle.regex_lite_syntax.proofs.OptionLemmas.{same_some}
use Rattle.regex_lite.proofs.string.SlotLemmas.{none_kept, some_kept}
use Rattle.regex_lite.proofs.string.FoundLemmas.{slots_reported, length_spans}
use Rattle.regex_lite.proofs.string.FoundLemmas.{groups_lie, group_0, enough_texts}
use Rattle.regex_lite.proofs.string.GroupNameLemmas.{are_names}

-- both offsets of a span are there
both_there : (a b : Option ℕ) (i j : ℕ) → option_zip a b ≡ Some (i, j) → (a ≡ Some i) × (b ≡ Some j)
both_there None b i j e = absurd cc
both_there (Some a) None i j e = absurd cc
both_there (Some a) (Some b) i j e = (
  ap (option_map (λ (own : ℕ × ℕ). own.0)) e,
  ap (option_map (λ (own : ℕ × ℕ). own.1)) e,
)

-- the slots are those of what was found, two for each group
abbrev pub AreAllSlots : Text → Tree → Found → (slots : List (Option ℕ)) → Type 0
AreAllSlots haystack tree found slots =
    HasSlots haystack slots found.marks × (length slots ≡ 2 * captures_len tree)

module _ (haystack : Text) (tree : Tree) (found : Found) (given : IsPatternTree tree)
    (is : IsOfWay tree haystack found) where
  -- the slots of group 0 are the match's start and end
  whole_slots : (span : ℕ × ℕ) → span ≡ offsets haystack (found.start, found.end)
      → HasSlots haystack (all_slots [] span) found.marks
  whole_slots span same = each
    where
      marked : (found.marks 0 ≡ Some found.start) × (found.marks 1 ≡ Some found.end)
      marked = both_there (found.marks 0) (found.marks 1) found.start found.end
          (groups_inside tree haystack found (regular_tree tree given) is).whole

      each : HasSlots haystack (all_slots [] span) found.marks
      each zero slot at = sym (same_some at) ∙ ap (λ (own : ℕ × ℕ). Some own.0) same
          ∙ ap (option_map (offset haystack)) (sym marked.0)
      each (suc zero) slot at = sym (same_some at) ∙ ap (λ (own : ℕ × ℕ). Some own.1) same
          ∙ ap (option_map (offset haystack)) (sym marked.1)
      each (suc (suc k)) slot at = absurd cc

  -- all slots hold those of the match, however many were kept
  pub held_all : (kept : List (Option ℕ)) (span : ℕ × ℕ) → HasSlots haystack kept found.marks
      → span ≡ offsets haystack (found.start, found.end)
      → HasSlots haystack (all_slots kept span) found.marks
  held_all [] span held same = whole_slots span same
  held_all (slot ∷ kept) span held same = held

  -- these are all slots of the match, where as many were kept as its groups need
  each_reported : (kept : List (Option ℕ)) (span : ℕ × ℕ) → length kept ≡ kept_slots
      (captures_len tree) → HasSlots haystack kept found.marks → span ≡ offsets haystack
      (found.start, found.end) → AreAllSlots haystack tree found (all_slots kept span)
  each_reported [] span len held same =
      (whole_slots span same, none_kept (captures_len tree) len (omega arith))
  each_reported (slot ∷ kept) span len held same =
      (held, some_kept (captures_len tree) (length kept) len)

  pub all_reported : (kept slots : List (Option ℕ)) (span : ℕ × ℕ) → slots ≡ all_slots kept span
      → length kept ≡ kept_slots (captures_len tree) → HasSlots haystack kept found.marks
      → span ≡ offsets haystack (found.start, found.end) → AreAllSlots haystack tree found slots
  all_reported kept slots span filled enough held same =
      subst (AreAllSlots haystack tree found) (sym filled)
      (each_reported kept span enough held same)

-- a regex shares what is known of the groups of its tree
pub built_shares : (compiled : Compiled) (built : IsBuilt compiled)
    → NamesGroups built.tree (names_of (stored_groups compiled)) compiled.graph.static_captures_len
built_shares compiled built = record {
  names_are = are_names _ compiled.graph.capture_names built.tree refl built.regular
      built.groups.captures built.groups.names;
  static_is = built.groups.static_captures;
}

module _ (bytes : List ℕ) (utf8 : IsUtf8 bytes) (tree : Tree) (given : IsPatternTree tree)
    (found : Found) (is : IsOfWay tree (chars bytes) found) (slots : List (Option ℕ))
    (all : AreAllSlots (chars bytes) tree found slots) (shared : StoredGroups)
    (shares : NamesGroups tree (names_of shared) shared.static_captures_len) where
  abbrev spans : List (Option (ℕ × ℕ))
  spans = spans_from (chars bytes) found.marks 0 (captures_len tree)

  spans_are : spans_of slots ≡ spans
  spans_are = slots_reported (chars bytes) found.marks slots 0 (captures_len tree) 0 refl all.1
      (λ k slot at. all.0 k slot at
      ∙ ap (λ n. option_map (offset (chars bytes)) (found.marks n)) (omega arith))

  some_group_0 : IsSome (group_span (groups_of bytes slots shared) 0)
  some_group_0 = subst IsSome (sym (ap (λ all. span_at all 0) spans_are
      ∙ group_0 (chars bytes) tree found (captures_len tree) given is (omega arith))) refl

  -- the slots hold groups, which are those of what was found
  pub captured : AreGroups (groups_of bytes slots shared)
      × AreGroupsOf tree bytes found (groups_of bytes slots shared)
  captured = (
    record {
      inside = λ k. subst (λ all. IfSome (span_at all k) (LiesIn bytes)) (sym spans_are)
          (groups_lie bytes utf8 tree given found is (captures_len tree) k);
      each = ap length spans_are ∙ length_spans (chars bytes) found.marks 0 (captures_len tree)
          ∙ sym shares.names_are.each_group;
      whole = some_group_0;
      enough = each shared.static_captures_len shares.static_is;
    },
    record {
      haystack = refl;
      spans = spans_are;
      names = shares.names_are;
      static_captures = shares.static_is;
      whole = some_group_0;
    },
  )
    where
      each : (known : Option ℕ) → known ≡ static_captures_len tree
          → IfSome known (λ n. n ≤ length (texts_from (groups_of bytes slots shared) 0))
      each None e = tt
      each (Some n) e =
          subst (λ all. n ≤ length (filter_map (option_map (text_at bytes)) all)) (sym spans_are)
          (enough_texts bytes utf8 tree given found is n (sym e))
