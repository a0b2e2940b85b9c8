-- What a template without a `$`, and the template `$0`, replace matches with.
use Rattle.regex_lite.proofs.Common.{◌≡◌, ℕ, zero, suc, ◌<◌, List, [], ◌∷◌, ◌++◌, map, drop}
use Rattle.regex_lite.proofs.Common.{slice_range, Some, None, Option, option_map, chars, unwrap_or}
use Rattle.regex_lite.proofs.Common.{sym, refl, ap, ◌∙◌, subst, inr, arith, append_assoc, Text}
use Rattle.regex_lite.proofs.Common.{IsInterpolation, Found, span, offset, Ahead, Expression}
use Rattle.regex_lite.proofs.Common.{text_at, Groups, span_at, group_span, whole_span}
use Rattle.regex_lite.proofs.Common.{AreGroupsFound, one_less, AreWithin, found_span, offsets}
use Rattle.regex_lite.proofs.Common.{spans_from, texts_of}
use Rattle.std.proofs.Common.{Contains, codes}
use Rattle.std.proofs.lemmas.List.{append-nil}
use Rattle.regex_lite_engine.specs.Interpolation.{GroupTexts, nothing}
use Rattle.regex_lite_engine.specs.Interpolation.{numbered, piece_and_rest, reference}
use Rattle.regex_lite_engine.specs.Search.Marks.{Marks}
use Rattle.regex_lite_engine.proofs.laws.templates.OneTextLemmas.{one_text, plain_text}
use Rattle.regex_lite.specs.Groups.{group_text}
use Rattle.regex_lite.specs.PieceLaws.{FixedTextIsTemplate, LentReplacersReplaceAlike}
use Rattle.regex_lite.specs.PieceLaws.{TemplateAppends, TemplateFixed, WholeMatchesGiveHaystack}
use Rattle.regex_lite.specs.Replacements.{AreGroupsOfEach, IsChain, IsReplaced, replaced_by}
use Rattle.regex_lite.specs.Replacing.{Answer}
use Rattle.regex_lite.proofs.laws.BetweenLemmas.{cut_around}
use Rattle.regex_lite.proofs.laws.NextMatchLemmas.{StandsFrom, first_stands}
use Rattle.regex_lite.proofs.laws.NextMatchLemmas.{same_within, within_first}

first_span : (haystack : Text) (marks : Marks) (count : ℕ) → 0 < count
    → span_at (spans_from haystack marks 0 count) 0 ≡ option_map (offsets haystack) (span marks 0)
first_span haystack marks zero some = absurd (omega (arith, some))
first_span haystack marks (suc count) some = refl

-- group 0 of the groups of what is found is what is found
module _ (re : Expression) (hay : List ℕ) (s : ℕ) (found : Found) (stands : StandsFrom s found)
    (groups : Groups) (are : AreGroupsFound re hay found groups) where
  group_0_is : group_span groups 0 ≡ Some (found_span (chars hay) found)
  group_0_is = ap (λ spans. span_at spans 0) are.2.spans
      ∙ first_span (chars hay) found.marks _ (omega arith)
      ∙ ap (option_map (offsets (chars hay))) stands.whole

  pub span_is : whole_span groups ≡ found_span (chars hay) found
  span_is = ap (λ own. unwrap_or own (0, 0)) group_0_is

  text_is : unwrap_or (group_text groups 0) [] ≡ text_at hay (found_span (chars hay) found)
  text_is = ap (λ own. unwrap_or (option_map (text_at groups.haystack) own) []) group_0_is
      ∙ ap (λ bytes. text_at bytes (found_span (chars hay) found)) are.2.haystack

whole_reference : (groups : GroupTexts)
    → IsInterpolation groups (codes "$0") (unwrap_or (groups.at 0) [])
whole_reference groups =
    piece_and_rest (numbered 0) [] [] (reference (48 ∷ []) (48 ∷ []) refl
    (inr (record { some = omega arith; is_name = refl; is_rest = refl })) refl)
    (nothing refl refl) (sym (append-nil (unwrap_or (groups.at 0) [])))

-- `$0` gives the text of the whole match
whole_text : (groups : GroupTexts) (template text : List ℕ) → template ≡ codes "$0"
    → IsInterpolation groups template text → text ≡ unwrap_or (groups.at 0) []
whole_text groups template text is gives =
    let one = one_text groups (codes "$0") in
    one.2 text (subst (λ t. IsInterpolation groups t text) is gives)
    ∙ sym (one.2 (unwrap_or (groups.at 0) []) (whole_reference groups))

has_dollar : (template : List ℕ) → template ≡ codes "$0" → Contains template 36
has_dollar template is = subst (λ t. Contains t 36) (sym is) (0, omega arith, refl)

module _ {R : Type 0} (template : R → List ℕ) (re : Expression) (hay : List ℕ) where
  abbrev Chain : R → ℕ → List Groups → List ℕ → (last : R) → Type 0
  Chain = IsChain (TemplateFixed template) (TemplateAppends template) hay

  whole_chain : (limit ended : Option ℕ) (from : ℕ) (list : List Found) (groups : List Groups)
      (rep : R) (new : List ℕ) (last : R) → from ≡ offset (chars hay) (unwrap_or ended 0)
      → template rep ≡ codes "$0" → AreWithin re (chars hay) limit ended list
      → AreGroupsOfEach re hay list groups → Chain rep from groups new last → new ≡ drop from hay
  whole_chain limit ended from [] [] rep new last start is are each chain = chain.0
  whole_chain limit ended from [] (own ∷ groups) rep new last start is are each chain =
      absurd each
  whole_chain limit ended from (found ∷ list) [] rep new last start is are each chain =
      absurd each
  whole_chain limit ended from (found ∷ list) (own ∷ groups) rep new last start is are
      (of_found, each) (text, rest, after, ((complete, gives, all), same), new_is, chain) =
      let h = chars hay in
      let stands = first_stands re h limit ended found list are in
      let at = span_is re hay (unwrap_or ended 0) found stands own of_found in
      let text_at_match = all ∙ whole_text (texts_of own) (template rep) complete is gives
      ∙ text_is re hay (unwrap_or ended 0) found stands own of_found in
      let end = ap (λ (s : ℕ × ℕ). s.1) at in
      let later : rest ≡ drop (whole_span own).1 hay =
      whole_chain (one_less limit) (Some found.end) (whole_span own).1 list groups after rest last
      end (ap template same ∙ is) (within_first re h limit ended found list are).1 each chain in
      new_is ∙ ap (λ (s : ℕ × ℕ). slice_range hay from s.0 ++ text ++ rest) at
      ∙ ap (λ t. slice_range hay from (offset h found.start) ++ t ++ rest) text_at_match
      ∙ append_assoc (slice_range hay from (offset h found.start))
      (text_at hay (found_span h found)) rest
      ∙ cut_around hay (unwrap_or ended 0) from found rest start stands
      (later ∙ ap (λ n. drop n hay) end)

  plain_chain : (limit ended : Option ℕ) (from : ℕ) (list : List Found) (groups : List Groups)
      (rep : R) (new : List ℕ) (last : R) → ¬ (Contains (template rep) 36)
      → AreWithin re (chars hay) limit ended list → AreGroupsOfEach re hay list groups
      → Chain rep from groups new last
      → new ≡ replaced_by (template rep) hay from (map (found_span (chars hay)) list)
  plain_chain limit ended from [] [] rep new last lacks are each chain = chain.0
  plain_chain limit ended from [] (own ∷ groups) rep new last lacks are each chain = absurd each
  plain_chain limit ended from (found ∷ list) [] rep new last lacks are each chain = absurd each
  plain_chain limit ended from (found ∷ list) (own ∷ groups) rep new last lacks are
      (of_found, each) (text, rest, after, ((complete, gives, all), same), new_is, chain) =
      let h = chars hay in
      let Spans : List Found → List (ℕ × ℕ) = map (found_span h) in
      let stands = first_stands re h limit ended found list are in
      let at = span_is re hay (unwrap_or ended 0) found stands own of_found in
      let as_it_is = all ∙ plain_text (texts_of own) (template rep) complete lacks gives in
      let kept = ap template same in
      let later =
      plain_chain (one_less limit) (Some found.end) (whole_span own).1 list groups after
      rest last (subst (λ t. ¬ (Contains t 36)) (sym kept) lacks)
      (within_first re h limit ended found list are).1 each chain
      ∙ ap (λ t. replaced_by t hay (whole_span own).1 (Spans list)) kept in
      new_is ∙ ap (λ t. slice_range hay from (whole_span own).0 ++ t ++ rest) as_it_is
      ∙ ap (λ t. slice_range hay from (whole_span own).0 ++ template rep ++ t) later
      ∙ ap (λ (s : ℕ × ℕ). slice_range hay from s.0 ++ template rep
      ++ replaced_by (template rep) hay s.1 (Spans list)) at

  whole_replaced : (limit : Option ℕ) (rep after last : R) (fixed : Option (List ℕ))
      (new : List ℕ)
      → template rep ≡ codes "$0" → TemplateFixed template rep fixed after
      → IsReplaced (TemplateFixed template) (TemplateAppends template) fixed after
      (record { sought = re; haystack = hay; limit = limit; ended = None }) new last
      → new ≡ hay
  whole_replaced limit rep after last None new is (has, same) in_turn =
      whole_chain limit None 0 in_turn.found in_turn.groups after new last refl
      (ap template same ∙ is)
      in_turn.are_ahead in_turn.each in_turn.chain
  whole_replaced limit rep after last (Some text) new is ((own, lacks), same) by =
      absurd (lacks (has_dollar (template rep) is))

pub whole_matches : (R : Type 0) → WholeMatchesGiveHaystack R
whole_matches R template rep re hay limit new is (last, (fixed, after, fixed_is, replaced)) =
    whole_replaced template re hay limit rep after last fixed new is fixed_is replaced

pub fixed_text : (R : Type 0) → FixedTextIsTemplate R
fixed_text R template rep a new other last lacks by in_turn =
    let h = chars a.haystack in
    let same =
    same_within a.sought h a.limit a.ended by.found in_turn.found by.are_ahead in_turn.are_ahead in
    by.replaced
    ∙ ap (λ found. replaced_by (template rep) a.haystack 0 (map (found_span h) found)) same
    ∙ sym (plain_chain template a.sought a.haystack a.limit a.ended 0 in_turn.found in_turn.groups
    rep other last lacks in_turn.are_ahead in_turn.each in_turn.chain)

module _ {R Lent : Type 0} (Fixed : R → Option (List ℕ) → R → Type 0)
    (Appends : R → Groups → List ℕ → Answer → R → Type 0) (lender : Lent → R) where
  abbrev LentFixed : Lent → Option (List ℕ) → Lent → Type 0
  LentFixed old text after = Fixed (lender old) text (lender after)

  abbrev LentAppends : Lent → Groups → List ℕ → Answer → Lent → Type 0
  LentAppends old groups text answer after = Appends (lender old) groups text answer (lender after)

  lent_chain : (hay : List ℕ) (rep : Lent) (from : ℕ) (groups : List Groups) (new : List ℕ)
      (last : Lent) → IsChain LentFixed LentAppends hay rep from groups new last
      → IsChain Fixed Appends hay (lender rep) from groups new (lender last)
  lent_chain hay rep from [] new last (is, left) = (is, ap lender left)
  lent_chain hay rep from (own ∷ groups) new last (text, rest, after, appends, new_is, chain) = (
    text,
    rest,
    lender after,
    appends,
    new_is,
    lent_chain hay after (whole_span own).1 groups rest last chain,
  )

  lent_replaced : (fixed : Option (List ℕ)) (rep : Lent) (a : Ahead) (new : List ℕ)
      (last : Lent) → IsReplaced LentFixed LentAppends fixed rep a new last
      → IsReplaced Fixed Appends fixed (lender rep) a new (lender last)
  lent_replaced (Some text) rep a new last (by, left) = (by, ap lender left)
  lent_replaced None rep a new last in_turn = record {
    found = in_turn.found;
    are_ahead = in_turn.are_ahead;
    groups = in_turn.groups;
    each = in_turn.each;
    chain = lent_chain a.haystack rep 0 in_turn.groups new last in_turn.chain;
  }

pub lent_alike : {R : Type 0} (Fixed : R → Option (List ℕ) → R → Type 0)
    (Appends : R → Groups → List ℕ → Answer → R → Type 0) (Lent : Type 0)
    → LentReplacersReplaceAlike Fixed Appends Lent
lent_alike Fixed Appends Lent lender rep a new last (fixed, after, asked, replaced) =
    (fixed, lender after, asked, lent_replaced Fixed Appends lender fixed after a new last replaced)
