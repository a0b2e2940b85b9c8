-- Group 0 is the match, enough groups are all of them, and their names are known.
use Rattle.regex_lite.proofs.Common.{◌≡◌, ℕ, zero, suc, ◌<◌, ◌≤◌, List, [], ◌∷◌, map, length}
use Rattle.regex_lite.proofs.Common.{IfSome, Some, None, Option, option_map, chars, unwrap_or, sym}
use Rattle.regex_lite.proofs.Common.{refl, ap, ◌∙◌, subst, arith, length-map, filter_map, Tree}
use Rattle.regex_lite.proofs.Common.{captures_len, Found, search_start, Expression, text_at, Groups}
use Rattle.regex_lite.proofs.Common.{span_at, group_span, whole_span, one_less, AreWithin}
use Rattle.regex_lite.proofs.Common.{haystack_of_match, span_of_match, found_span, TellsMatchOfList}
use Rattle.regex_lite.proofs.Common.{TellsGroupsOfList, TellsMatch, TellsGroups, Match}
use Rattle.std.proofs.Common.{IsSome}
use Rattle.std.proofs.lemmas.List.{ext_get_or}
use Rattle.std.proofs.lemmas.Str.{encodes-chars}
use Rattle.std.proofs.Math.Utf8.{encodes}
use Rattle.regex_lite_syntax.proofs.OptionLemmas.{same_some}
use Rattle.regex_lite.specs.Expression.{AreNames}
use Rattle.regex_lite.specs.GroupLaws.{AllGroupsTakePart, AreEqualNames, AreTexts, GroupsHaveNames}
use Rattle.regex_lite.specs.GroupLaws.{GroupsHaveTheirSpans, ListMatchIsGroup0, MatchIsGroup0}
use Rattle.regex_lite.specs.GroupLaws.{OneNameList}
use Rattle.regex_lite.specs.Replacements.{AreGroupsOfEach}
use Rattle.regex_lite.proofs.AgreementLemmas.{same_whole}
use Rattle.regex_lite.proofs.ListBuildLemmas.{pattern_tree}
use Rattle.regex_lite.proofs.OneTreeLemmas.{of_both}
use Rattle.regex_lite.proofs.laws.NextMatchLemmas.{first_stands, within_first}
use Rattle.regex_lite.proofs.laws.RegexListLemmas.{same_found}
use Rattle.regex_lite.proofs.laws.ReplacedLemmas.{span_is}
use Rattle.regex_lite.proofs.string.FoundLemmas.{group_0}
use Rattle.regex_lite_engine.proofs.laws.answer.AnswerAtLemmas.{way_of_found}

module _ (haystack : List ℕ) (start : ℕ) (groups : Groups) (reported : Match) where
  abbrev IsGroup0 : Type 0
  IsGroup0 = (haystack_of_match reported ≡ groups.haystack)
      × (group_span groups 0 ≡ Some (span_of_match reported))

  group_0_reported : (re : Expression) → TellsGroups re haystack start (Some groups)
      → TellsMatch re haystack start (Some reported) → IsGroup0
  group_0_reported re (tree, given, (found, is, are)) (other, given_too, (f, is_too, of)) = (
    of.haystack ∙ sym are.haystack,
    sym (same_whole re haystack start (Some reported) (Some groups) refl
        (other, given_too, (f, is_too, of)) (tree, given, (found, is, are))),
  )

  match_reported : (re : Expression) → TellsGroups re haystack start (Some groups) → IsGroup0
      → TellsMatch re haystack start (Some reported)
  match_reported re (tree, given, (found, is, are)) (same, span) =
      let whole = ap (λ spans. span_at spans 0) are.spans
      ∙ group_0 (chars haystack) tree found (captures_len tree) (re.flags, _, given)
      (way_of_found tree (chars haystack) (search_start haystack start) found is) (omega arith) in (
        tree,
        given,
        (
          found,
          is,
          record { haystack = same ∙ are.haystack; span = same_some (sym span ∙ whole) },
        ),
      )

  list_group_0_reported : (list : List Expression) (number other : ℕ)
      → TellsGroupsOfList list haystack start (Some (number, groups))
      → TellsMatchOfList list haystack start (Some (other, reported))
      → (other ≡ number) × (haystack_of_match reported ≡ groups.haystack)
      × (group_span groups 0 ≡ Some (span_of_match reported))
  list_group_0_reported list number other (trees, given, (found, is, are))
      (others, given_too, (f, is_too, of)) =
      let both = same_found list haystack start (Some (other, reported)) (Some (number, groups))
      refl (others, given_too, (f, is_too, of)) (trees, given, (found, is, are)) in
      (same_some both.0, of.haystack ∙ sym are.haystack, sym both.1)

  list_match_reported : (list : List Expression) (number : ℕ)
      → TellsGroupsOfList list haystack start (Some (number, groups)) → IsGroup0
      → TellsMatchOfList list haystack start (Some (number, reported))
  list_match_reported list number (trees, given, (found, is, are)) (same, span) =
      let whole = ap (λ spans. span_at spans 0) are.spans
      ∙ group_0 (chars haystack) is.tree found (captures_len is.tree)
      (pattern_tree list trees given number is.tree is.numbered)
      (way_of_found is.tree (chars haystack) found.start found is.answer) (omega arith) in (
        trees,
        given,
        (
          found,
          is,
          record { haystack = same ∙ are.haystack; span = same_some (sym span ∙ whole) },
        ),
      )

pub match_is_group_0 : MatchIsGroup0
match_is_group_0 re haystack start groups tells reported = (
  group_0_reported haystack start groups reported re tells,
  match_reported haystack start groups reported re tells,
)

pub list_match_is_group_0 : ListMatchIsGroup0
list_match_is_group_0 list haystack start number groups tells other reported = (
  list_group_0_reported haystack start groups reported list number other tells,
  λ (same, there, span).
      subst (λ n. TellsMatchOfList list haystack start (Some (n, reported))) (sym same)
      (list_match_reported haystack start groups reported list number tells (there, span)),
)

spans_of_groups : (re : Expression) (hay : List ℕ) (limit ended : Option ℕ) (found : List Found)
    (groups : List Groups) → AreWithin re (chars hay) limit ended found
    → AreGroupsOfEach re hay found groups
    → map whole_span groups ≡ map (found_span (chars hay)) found
spans_of_groups re hay limit ended [] [] are each = refl
spans_of_groups re hay limit ended [] (own ∷ groups) are each = absurd each
spans_of_groups re hay limit ended (f ∷ found) [] are each = absurd each
spans_of_groups re hay limit ended (f ∷ found) (own ∷ groups) are (of_found, each) =
    let h = chars hay in
    let stands = first_stands re h limit ended f found are in
    let first = span_is re hay (unwrap_or ended 0) f stands own of_found in
    let later = spans_of_groups re hay (one_less limit) (Some f.end) found groups
    (within_first re h limit ended f found are).1 each in
    ap (λ s. s ∷ map whole_span groups) first ∙ ap (λ l. found_span h f ∷ l) later

pub groups_have_spans : GroupsHaveTheirSpans
groups_have_spans a found groups are each =
    spans_of_groups a.sought a.haystack a.limit a.ended found groups are each

-- where as many have a text as there are, each is there
module _ (hay : List ℕ) where
  abbrev texts : List (Option (ℕ × ℕ)) → List (List ℕ)
  texts spans = filter_map (option_map (text_at hay)) spans

  no_more : (spans : List (Option (ℕ × ℕ))) → length (texts spans) ≤ length spans
  no_more [] = omega arith
  no_more (None ∷ spans) = let rest = no_more spans in omega (arith, rest)
  no_more (Some span ∷ spans) = let rest = no_more spans in omega (arith, rest)

  all_there : (spans : List (Option (ℕ × ℕ))) (k : ℕ) → length spans ≤ length (texts spans)
      → k < length spans → IsSome (span_at spans k)
  all_there [] k enough less = absurd (omega (arith, less))
  all_there (None ∷ spans) k enough less =
      let rest = no_more spans in absurd (omega (arith, rest, enough))
  all_there (Some span ∷ spans) zero enough less = refl
  all_there (Some span ∷ spans) (suc k) enough less =
      all_there spans k (omega (arith, enough)) (omega (arith, less))

pub all_take_part : AllGroupsTakePart
all_take_part groups are static k less =
    all_there groups.haystack groups.spans k
    (subst (λ known. IfSome known (λ n. n ≤ length (texts groups.haystack groups.spans))) static
    are.enough) less

same_bytes : (names others : List (Option (List ℕ)))
    → map (option_map chars) names ≡ map (option_map chars) others → AreTexts names
    → AreTexts others → names ≡ others
same_bytes [] [] same p q = refl
same_bytes [] (other ∷ others) same p q = absurd cc
same_bytes (name ∷ names) [] same p q = absurd cc
same_bytes (None ∷ names) (None ∷ others) same p q =
    let later : map (option_map chars) names ≡ map (option_map chars) others = cc in
    let rest = same_bytes names others later (λ k. p (suc k)) (λ k. q (suc k)) in
    ap (λ (l : List (Option (List ℕ))). None ∷ l) rest
same_bytes (None ∷ names) (Some other ∷ others) same p q = absurd cc
same_bytes (Some name ∷ names) (None ∷ others) same p q = absurd cc
same_bytes (Some name ∷ names) (Some other ∷ others) same p q =
    let first : chars name ≡ chars other = cc in
    let own : name ≡ other =
    sym (encodes-chars name (p 0 name refl)) ∙ ap encodes first
    ∙ encodes-chars other (q 0 other refl) in
    let later : map (option_map chars) names ≡ map (option_map chars) others = cc in
    let rest = same_bytes names others later (λ k. p (suc k)) (λ k. q (suc k)) in
    rw (own, rest) refl

same_names : (tree : Tree) (names others : List (Option (List ℕ))) → AreNames names tree
    → AreNames others tree → AreEqualNames names others
same_names tree names others p q = record {
  characters = characters;
  bytes = same_bytes names others characters;
}
  where
    characters : map (option_map chars) names ≡ map (option_map chars) others
    characters = ext_get_or None (map (option_map chars) names) (map (option_map chars) others)
        (length-map names (option_map chars) ∙ p.each_group ∙ sym q.each_group
        ∙ sym (length-map others (option_map chars)))
        (λ k less. p.name k ∙ sym (q.name k))

pub one_name_list : OneNameList
one_name_list re names others are are_too =
    let both = of_both re (AreNames names) (AreNames others) are are_too in
    same_names both.0 names others both.2.0 both.2.1

pub groups_have_names : GroupsHaveNames
groups_have_names re haystack start groups (tree, given, (found, is, are)) =
    (tree, given, are.names)
