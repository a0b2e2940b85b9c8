-- Names of groups are read in one way, and differ.
use Rattle.regex_lite_syntax.proofs.Common.{◌≡◌, ◌≢◌, List, [], ◌∷◌, ◌++◌, length, Contains, sym}
use Rattle.regex_lite_syntax.proofs.Common.{refl, ◌∙◌, subst, arith, is_no_end, NameWritten}
use Rattle.regex_lite_syntax.proofs.Common.{NameOpening, with_p, without_p, Named, NamesDiffer}
use Rattle.regex_lite_syntax.proofs.Common.{Text, the}
use Rattle.std.proofs.lemmas.List.{get_or_append_left, get_or_default}
use Rattle.std.proofs.lemmas.List.{get_or_push, length-append, length_push}
use Rattle.std.proofs.lemmas.List.Quantifiers.{all_pairs_push}
use Rattle.regex_lite_syntax.proofs.ListLemmas.{same_head, same_tail}
use Rattle.regex_lite_syntax.proofs.grammar.WordLemmas.{word_once}

pub written_once : (t r s w v : Text) → NameWritten t r w → NameWritten t s v → (r ≡ s) × (w ≡ v)
written_once t r s w v a b =
    let same =
    word_once is_no_end w v t (the ">" ∷ r) (the ">" ∷ s) a.written b.written a.inside b.inside
    refl refl in
    (same_tail same.1, same.0)

opening_once : (t past past' : Text) → NameOpening t past → NameOpening t past' → past ≡ past'
opening_once t past past' (with_p e) (with_p f) = same_tail (same_tail (same_tail (sym e ∙ f)))
opening_once t past past' (with_p e) (without_p f) =
    let heads = same_head (same_tail (sym e ∙ f)) in absurd (omega (arith, heads))
opening_once t past past' (without_p e) (with_p f) =
    let heads = same_head (same_tail (sym e ∙ f)) in absurd (omega (arith, heads))
opening_once t past past' (without_p e) (without_p f) = same_tail (same_tail (sym e ∙ f))

pub named_once : (t r s w v : Text) → Named t r w → Named t s v → (r ≡ s) × (w ≡ v)
named_once t r s w v a b =
    let past = opening_once t a.past b.past a.opens b.opens in
    written_once a.past r s w v a.called (subst (λ u. NameWritten u s v) (sym past) b.called)

-- after what stands before a name, the name is all that is left to read
pub past_opening : (t past rest name : Text) → NameOpening t past → Named t rest name
    → NameWritten past rest name
past_opening t past rest name opens named =
    subst (λ u. NameWritten u rest name)
    (opening_once t named.past past named.opens opens) named.called

pub no_names_differ : NamesDiffer []
no_names_differ i j d before inside same = omega (arith, inside)

-- a name that is none of these may be added
pub differ_more : (names : List Text) (name : Text) → NamesDiffer names → (Contains names name → ⊥)
    → NamesDiffer (names ++ name ∷ [])
differ_more names name differ fresh =
    all_pairs_push (λ a b. a ≢ b) names name differ
    (λ k d inside same. fresh (k, inside, get_or_default names k name d inside ∙ same))

pub differ_before : (names more : List Text) → NamesDiffer (names ++ more) → NamesDiffer names
differ_before names more differ i j d before inside same =
    differ i j d before (omega (arith, inside, length-append names more))
    (get_or_append_left names more d i (omega (arith, before, inside)) ∙ same
    ∙ sym (get_or_append_left names more d j inside))

-- but no other
pub no_second : (names : List Text) (name : Text) → Contains names name
    → NamesDiffer (names ++ name ∷ []) → ⊥
no_second names name (k, inside, is) differ =
    differ k (length names) name inside (omega (arith, length_push names name))
    (get_or_append_left names (name ∷ []) name k inside ∙ is
    ∙ sym (get_or_push names name name (length names) refl))
