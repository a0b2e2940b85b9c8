-- Groups by their spans: one after another, and by their names.
use Rattle.regex_lite.proofs.Common.{◌≡◌, ℕ, suc, ◌+◌, ◌<◌, ◌≤◌, true, false, ◌⊎◌, List, [], ◌∷◌}
use Rattle.regex_lite.proofs.Common.{map, length, get_or, drop, IfSome, Some, None, Option}
use Rattle.regex_lite.proofs.Common.{option_map, sym, refl, ap, ◌∙◌, inl, inr, add-one, arith}
use Rattle.regex_lite.proofs.Common.{cases_order, nat_tests, length-map, slice_get-get_or}
use Rattle.regex_lite.proofs.Common.{filter_map, rc_str_bytes, text_at, Groups, span_at, group_span}
use Rattle.regex_lite.proofs.Common.{texts_from, haystack_of_match, span_of_match, Match}
use Rattle.std.proofs.Common.{nat_lt}
use Rattle.std.specs.List.{cons_option, position_or_len}
use Rattle.std.specs.Option.{option_flatten}
use Rattle.std.proofs.Math.Seq.{drop-cons}
use Rattle.std.specs.declared.alloc.Global.{Global}
use Rattle.std.specs.declared.rc.RcStr.{RcStr}
use Rattle.std.proofs.lemmas.List.{get_or-map}
use Rattle.std.proofs.lemmas.List.Sums.{position_or_len_is}
use Rattle.std.proofs.lemmas.Option.{IfSome_then}
use Rattle.regex_lite.specs.Groups.{is_named, index_of}
use Rattle.regex_lite.specs.MatchViews.{match_with_haystack}

-- the spans from index k on begin with that of group k
pub spans_on : (spans : List (Option (ℕ × ℕ))) (k : ℕ) → k < length spans
    → drop k spans ≡ span_at spans k ∷ drop (k + 1) spans
spans_on spans k within =
    rw (add-one k) (drop-cons spans k None within ∙ ap (λ span. span ∷ drop (suc k) spans)
    (sym (ap option_flatten (slice_get-get_or spans k None within))))

module _ (groups : Groups) (k : ℕ) (within : k < length groups.spans) where
  texts_on : texts_from groups k
      ≡ cons_option (option_map (text_at groups.haystack) (group_span groups k))
      (texts_from groups (k + 1))
  texts_on = ap (filter_map (option_map (text_at groups.haystack))) (spans_on groups.spans k within)

  -- a group that took no part has no text
  pub no_text : group_span groups k ≡ None → texts_from groups (k + 1) ≡ texts_from groups k
  no_text none = sym (texts_on
      ∙ ap (λ span.
      cons_option (option_map (text_at groups.haystack) span) (texts_from groups (k + 1))) none)

  -- one that took part has
  pub own_text : (span : ℕ × ℕ) → group_span groups k ≡ Some span
      → texts_from groups k ≡ text_at groups.haystack span ∷ texts_from groups (k + 1)
  own_text span is = texts_on
      ∙ ap (λ s. cons_option (option_map (text_at groups.haystack) s) (texts_from groups (k + 1)))
      is

-- where none of the groups before it has a text either, its text is the first
pub first_text : (groups : Groups) (from k : ℕ) (span : ℕ × ℕ) (text : List ℕ)
    → texts_from groups k ≡ texts_from groups from → k < length groups.spans
    → group_span groups k ≡ Some span → text ≡ text_at groups.haystack span
    → texts_from groups from ≡ text ∷ texts_from groups (k + 1)
first_text groups from k span text on within is read =
    sym on ∙ own_text groups k within span is
    ∙ ap (λ own. own ∷ texts_from groups (k + 1)) (sym read)

-- where group 0 took part, all other texts are those from index 1 on
pub enough_after : (groups : Groups) (span : ℕ × ℕ) → group_span groups 0 ≡ Some span
    → IfSome groups.static_captures_len (λ n. n ≤ length (texts_from groups 0))
    → IfSome groups.static_captures_len (λ n. n ≤ 1 + length (texts_from groups 1))
enough_after groups span is enough =
    let all = ap length (own_text groups 0 (there groups.spans is) span is) in
    IfSome_then groups.static_captures_len enough (λ n less. omega (arith, less, all))
  where
    there : (spans : List (Option (ℕ × ℕ))) → span_at spans 0 ≡ Some span → 0 < length spans
    there [] is = absurd cc
    there (first ∷ spans) is = omega arith

-- a match in this haystack, with it
placed : (haystack : List ℕ) (m : Option Match) → IfSome m (λ own. haystack_of_match own ≡ haystack)
    → option_map (λ span. (haystack, span)) (option_map span_of_match m)
    ≡ option_map match_with_haystack m
placed haystack None within = refl
placed haystack (Some m) within = ap (λ own. Some (own, span_of_match m)) (sym within)

-- what is returned of group k comes before what is returned of those after it
pub groups_on : (haystack : List ℕ) (spans : List (Option (ℕ × ℕ))) (k : ℕ) (m : Option Match)
    → k < length spans → option_map span_of_match m ≡ span_at spans k
    → IfSome m (λ own. haystack_of_match own ≡ haystack)
    → map (option_map (λ span. (haystack, span))) (drop k spans)
    ≡ option_map match_with_haystack m
    ∷ map (option_map (λ span. (haystack, span))) (drop (k + 1) spans)
groups_on haystack spans k m within is own =
    let Placed : List (Option (ℕ × ℕ)) → List (Option (List ℕ × (ℕ × ℕ))) =
    map (option_map (λ span. (haystack, span))) in
    ap Placed (spans_on spans k within)
    ∙ ap (λ span. option_map (λ s. (haystack, s)) span ∷ Placed (drop (k + 1) spans)) (sym is)
    ∙ ap (λ first. first ∷ Placed (drop (k + 1) spans)) (placed haystack m own)

module _ (names : List (Option (List ℕ))) (name : List ℕ) where
  -- this is the first group with the name
  pub named_first : (k : ℕ) → k < length names
      → ((j : ℕ) → j < k → is_named name (get_or names j None) ≡ false)
      → is_named name (get_or names k None) ≡ true → Some k ≡ index_of names name
  named_first k within before here =
      let at : position_or_len (is_named name) names ≡ k =
      position_or_len_is (is_named name) names k None (omega (arith, within)) before (λ _. here) in
      let inside : nat_lt k (length names) ≡ true = grind (arith, nat_tests, within) in
      rw (at, inside) refl

  -- none has it
  pub named_nowhere : ((j : ℕ) → j < length names → is_named name (get_or names j None) ≡ false)
      → None ≡ index_of names name
  named_nowhere none =
      let at : position_or_len (is_named name) names ≡ length names =
      position_or_len_is (is_named name) names (length names) None (omega arith) none
      (λ less. absurd (omega (arith, less))) in
      let outside : nat_lt (length names) (length names) ≡ false = grind (arith, nat_tests) in
      rw (at, outside) refl

  -- none up to this one has it
  pub one_more : (k : ℕ) → ((j : ℕ) → j < k → is_named name (get_or names j None) ≡ false)
      → is_named name (get_or names k None) ≡ false
      → (j : ℕ) → j < k + 1 → is_named name (get_or names j None) ≡ false
  one_more k before here j less = each (cases_order j k)
    where
      each : (j ≡ k) ⊎ ((j < k) ⊎ (k < j)) → is_named name (get_or names j None) ≡ false
      each (inl same) = ap (λ i. is_named name (get_or names i None)) same ∙ here
      each (inr (inl earlier)) = before j earlier
      each (inr (inr later)) = absurd (omega (arith, less, later))

-- what is read of the names as they are stored
pub name_read : (names : List (Option (List ℕ))) (stored : List (Option (RcStr Global)))
    (own : Option (RcStr Global)) (name : List ℕ) (k : ℕ)
    → map (option_map rc_str_bytes) stored ≡ names → k < length stored → own ≡ get_or stored k own
    → (k < length names)
    × (is_named name (option_map rc_str_bytes own) ≡ is_named name (get_or names k None))
name_read names stored own name k names_are within read =
    let few = sym (length-map stored (option_map rc_str_bytes)) ∙ ap length names_are in (
      omega (arith, few, within),
      ap (is_named name)
          (ap (option_map rc_str_bytes) read
          ∙ sym (get_or-map (option_map rc_str_bytes) stored k own None within)
          ∙ ap (λ all. get_or all k None) names_are),
    )
