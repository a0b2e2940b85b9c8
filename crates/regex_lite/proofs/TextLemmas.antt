-- A text as a replacer gives pieces and expansions in turn, and is refused for memory alone.
use Rattle.regex_lite.proofs.Common.{◌≡◌, ℕ, zero, suc, ◌<◌, ◌⊎◌, List, [], ◌∷◌, ◌++◌, map, length}
use Rattle.regex_lite.proofs.Common.{drop, slice_range, Some, None, Option, chars, unwrap_or, sym}
use Rattle.regex_lite.proofs.Common.{refl, ap, ◌∙◌, subst, inl, inr, arith, append_assoc}
use Rattle.regex_lite.proofs.Common.{out_of_memory, Error, Found, Ahead, Expression, Groups}
use Rattle.regex_lite.proofs.Common.{whole_span, one_less, AreWithin, found_span, texts_of}
use Rattle.std.proofs.Common.{Contains, slice_index_or}
use Rattle.std.proofs.lemmas.Bool.{cases_eq}
use Rattle.std.proofs.lemmas.List.{append-nil}
use Rattle.regex_lite_engine.proofs.laws.templates.OneTextLemmas.{plain_text}
use Rattle.regex_lite.specs.PieceLaws.{TemplateAppends, TemplateFixed, in_turn}
use Rattle.regex_lite.specs.Pieces.{pieces}
use Rattle.regex_lite.specs.RegexList.{AllPaired}
use Rattle.regex_lite.specs.Replacements.{AreGroupsOfEach, IsChain, IsRefusedAt, IsReplacement}
use Rattle.regex_lite.specs.Replacements.{replaced_by}
use Rattle.regex_lite.specs.Templates.{IsExpansion}
use Rattle.regex_lite.specs.TextLaws.{IsRewritten, StandsFor, TextsRefuseForMemory, TextsRewrite}
use Rattle.regex_lite.proofs.laws.NextMatchLemmas.{first_stands, within_first}
use Rattle.regex_lite.proofs.laws.ReplacedLemmas.{span_is}

has_or_lacks : (xs : List ℕ) (x : ℕ) → Contains xs x ⊎ ¬ (Contains xs x)
has_or_lacks [] x = inr (λ (k, less, is). omega (arith, less))
has_or_lacks (y ∷ xs) x = elim (cases_eq y x) [
  | inl same ↦ inl (0, omega arith, same)
  | inr other ↦ elim (has_or_lacks xs x) [
    | inl (k, less, is) ↦ inl (suc k, omega (arith, less), is)
    | inr none ↦ inr (λ (k, less, is). in_rest y x xs other none k less is)
  ]
]
  where
    in_rest : (y x : ℕ) (xs : List ℕ) → (y ≡ x → ⊥) → ¬ (Contains xs x) → (k : ℕ)
        → k < length (y ∷ xs) → slice_index_or (y ∷ xs) k x ≡ x → ⊥
    in_rest y x xs other none zero less is = other is
    in_rest y x xs other none (suc k) less is = none (k, omega (arith, less), is)

-- the new text where one text stands in the place of each match
module _ (re : Expression) (hay text : List ℕ) where
  abbrev spans : List Found → List (ℕ × ℕ)
  spans found = map (found_span (chars hay)) found

  one_text_each : (found : List Found) (from : ℕ)
      → replaced_by text hay from (spans found)
      ≡ in_turn (pieces hay from (spans found)) (map (λ _. text) found)
  one_text_each [] from = sym (append-nil (drop from hay))
  one_text_each (own ∷ found) from =
      let span = found_span (chars hay) own in
      let later = in_turn (pieces hay span.1 (spans found)) (map (λ _. text) found) in
      ap (λ t. slice_range hay from span.0 ++ text ++ t) (one_text_each found span.1)
      ∙ append_assoc (slice_range hay from span.0) text later

  stands_each : ¬ (Contains text 36) → (found : List Found)
      → AllPaired (StandsFor re text hay) found (map (λ _. text) found)
  stands_each lacks [] = tt
  stands_each lacks (own ∷ found) = (inr (refl, lacks), stands_each lacks found)

  -- and nothing else stands there, if it has no `$`
  is_text : (own : Found) (new : List ℕ) → ¬ (Contains text 36) → StandsFor re text hay own new
      → new ≡ text
  is_text own new lacks (inl (groups, are, gives)) =
      plain_text (texts_of groups) text new lacks gives
  is_text own new lacks (inr (same, none)) = same

  text_each : ¬ (Contains text 36) → (found : List Found) (texts : List (List ℕ)) (from : ℕ)
      → AllPaired (StandsFor re text hay) found texts
      → in_turn (pieces hay from (spans found)) texts ≡ replaced_by text hay from (spans found)
  text_each lacks [] [] from each = append-nil (drop from hay)
  text_each lacks [] (own ∷ texts) from each = absurd each
  text_each lacks (own ∷ found) [] from each = absurd each
  text_each lacks (own ∷ found) (first ∷ texts) from (stands, each) =
      let span = found_span (chars hay) own in
      let later = in_turn (pieces hay span.1 (spans found)) texts in
      ap (λ t. slice_range hay from span.0 ++ (t ++ later)) (is_text own first lacks stands)
      ∙ sym (append_assoc (slice_range hay from span.0) text later)
      ∙ ap (λ t. slice_range hay from span.0 ++ text ++ t) (text_each lacks found texts span.1 each)

-- the new text where each match is replaced by what the template gives
module _ {R : Type 0} (template : R → List ℕ) (re : Expression) (hay : List ℕ) where
  abbrev h : List ℕ
  h = chars hay

  abbrev Chain : R → ℕ → List Groups → List ℕ → (last : R) → Type 0
  Chain = IsChain (TemplateFixed template) (TemplateAppends template) hay

  -- texts stand for these matches, and are in the new text from here on
  abbrev AreTextsIn : (own : List ℕ) → List Found → (from : ℕ) → (new : List ℕ) → Type 0
  AreTextsIn own found from new =
      (texts : List (List ℕ)) × AllPaired (StandsFor re own hay) found texts
      × (new ≡ in_turn (pieces hay from (map (found_span h) found)) texts)

  texts_in : (own : List ℕ) (limit ended : Option ℕ) (from : ℕ) (found : List Found)
      (groups : List Groups) (rep : R) (new : List ℕ) (last : R) → template rep ≡ own
      → AreWithin re h limit ended found → AreGroupsOfEach re hay found groups
      → Chain rep from groups new last → AreTextsIn own found from new
  texts_in own limit ended from [] [] rep new last is are each chain =
      ([], tt, chain.0 ∙ sym (append-nil (drop from hay)))
  texts_in own limit ended from [] (g ∷ groups) rep new last is are each chain = absurd each
  texts_in own limit ended from (f ∷ found) [] rep new last is are each chain = absurd each
  texts_in own limit ended from (f ∷ found) (g ∷ groups) rep new last is are (of_found, each)
      (text, rest, after, ((complete, gives, all), same), new_is, chain) =
      let stands = first_stands re h limit ended f found are in
      let at = span_is re hay (unwrap_or ended 0) f stands g of_found in
      let later = texts_in own (one_less limit) (Some f.end) (whole_span g).1 found groups after
      rest last (ap template same ∙ is) (within_first re h limit ended f found are).1 each chain in
      let expands = subst (λ t. IsExpansion g t text) is
      (subst (IsExpansion g (template rep)) (sym all) gives) in (
        text ∷ later.0,
        (inl (g, of_found, expands), later.1),
        new_is ∙ ap (λ t. slice_range hay from (whole_span g).0 ++ text ++ t) later.2
            ∙ ap (λ (s : ℕ × ℕ). slice_range hay from s.0 ++ text
            ++ in_turn (pieces hay s.1 (map (found_span h) found)) later.0) at
            ∙ append_assoc (slice_range hay from (found_span h f).0) text
            (in_turn (pieces hay (found_span h f).1 (map (found_span h) found)) later.0),
      )

  -- groups of these matches give that text
  abbrev GiveText : R → List Found → (from : ℕ) → (new : List ℕ) → Type 0
  GiveText rep found from new =
      (groups : List Groups) × AreGroupsOfEach re hay found groups × Chain rep from groups new rep

  groups_in : (rep : R) (limit ended : Option ℕ) (from : ℕ) (found : List Found)
      (texts : List (List ℕ)) → Contains (template rep) 36 → AreWithin re h limit ended found
      → AllPaired (StandsFor re (template rep) hay) found texts
      → GiveText rep found from (in_turn (pieces hay from (map (found_span h) found)) texts)
  groups_in rep limit ended from [] [] has are each =
      ([], tt, (append-nil (drop from hay), refl))
  groups_in rep limit ended from [] (text ∷ texts) has are each = absurd each
  groups_in rep limit ended from (f ∷ found) [] has are each = absurd each
  groups_in rep limit ended from (f ∷ found) (text ∷ texts) has are (inr (same, none), each) =
      absurd (none has)
  groups_in rep limit ended from (f ∷ found) (text ∷ texts) has are
      (inl (g, of_found, gives), each) =
      let stands = first_stands re h limit ended f found are in
      let at = span_is re hay (unwrap_or ended 0) f stands g of_found in
      let rest = in_turn (pieces hay (found_span h f).1 (map (found_span h) found)) texts in
      let later = groups_in rep (one_less limit) (Some f.end) (found_span h f).1 found texts has
      (within_first re h limit ended f found are).1 each in (
        g ∷ later.0,
        (of_found, later.1),
        (
          text,
          rest,
          rep,
          ((text, gives, refl), refl),
          sym (append_assoc (slice_range hay from (found_span h f).0) text rest)
              ∙ ap (λ (s : ℕ × ℕ). slice_range hay from s.0 ++ text ++ rest) (sym at),
          subst (λ (s : ℕ × ℕ). Chain rep s.1 later.0 rest rep) (sym at) later.2,
        ),
      )

module _ {R : Type 0} (template : R → List ℕ) (rep : R) (a : Ahead) (new : List ℕ) where
  abbrev Replaces : Type 0
  Replaces = IsReplacement (TemplateFixed template) (TemplateAppends template) rep a new

  rewritten : Replaces → IsRewritten (template rep) a new
  rewritten (last, (Some text, after, ((is, lacks), same), (by, left))) =
      subst (λ t. IsRewritten t a new) is (record {
        found = by.found;
        are_ahead = by.are_ahead;
        texts = map (λ _. text) by.found;
        each = stands_each a.sought a.haystack text (subst (λ t. ¬ (Contains t 36)) (sym is) lacks)
            by.found;
        whole = by.replaced ∙ one_text_each a.sought a.haystack text by.found 0;
      })
  rewritten (last, (None, after, (has, same), by)) =
      let own = texts_in template a.sought a.haystack (template rep) a.limit a.ended 0 by.found
      by.groups after new last (ap template same) by.are_ahead by.each by.chain in
      record {
        found = by.found;
        are_ahead = by.are_ahead;
        texts = own.0;
        each = own.1;
        whole = own.2;
      }

  replaces : IsRewritten (template rep) a new → Replaces
  replaces is = elim (has_or_lacks (template rep) 36) [
    | inl has ↦ (
      rep,
      (
        None,
        rep,
        (has, refl),
        (let own = groups_in template a.sought a.haystack rep a.limit a.ended 0 is.found is.texts
            has is.are_ahead is.each in
            record {
              found = is.found;
              are_ahead = is.are_ahead;
              groups = own.0;
              each = own.1;
              chain = subst (λ t. Chain template a.sought a.haystack rep 0 own.0 t rep)
                  (sym is.whole) own.2;
            }),
      ),
    )
    | inr lacks ↦ (
      rep,
      (
        Some (template rep),
        rep,
        ((refl, lacks), refl),
        (
          record {
            found = is.found;
            are_ahead = is.are_ahead;
            replaced = is.whole
                ∙ text_each a.sought a.haystack (template rep) lacks is.found is.texts 0 is.each;
          },
          refl,
        ),
      ),
    )
  ]

pub texts_rewrite : (R : Type 0) → TextsRewrite R
texts_rewrite R template rep a new = (rewritten template rep a new, replaces template rep a new)

refused_at : {R : Type 0} (template : R → List ℕ) (rep : R) (groups : List Groups) (error : Error)
    (last : R)
    → IsRefusedAt (TemplateFixed template) (TemplateAppends template) rep groups error last
    → error ≡ out_of_memory
refused_at template rep [] error last refused = absurd refused
refused_at template rep (own ∷ groups) error last
    (inl (text, ((complete, gives, memory), same))) = memory.0
refused_at template rep (own ∷ groups) error last (inr (text, after, appends, later)) =
    refused_at template after groups error last later

pub refused_for_memory : (R : Type 0) → TextsRefuseForMemory R
refused_for_memory R template rep a error (inl memory) = memory
refused_for_memory R template rep a error (inr (last, (after, fixed, refused))) =
    refused_at template after refused.groups error last refused.are
