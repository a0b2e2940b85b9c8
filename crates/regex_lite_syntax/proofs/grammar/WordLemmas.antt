-- Characters of one kind that stand one after another, up to one of another kind.
use Rattle.regex_lite_syntax.proofs.Common.{◌≡◌, ℕ, ◌+◌, ◌<◌, ◌≤◌, Bool, false, [], ◌∷◌, ◌++◌}
use Rattle.regex_lite_syntax.proofs.Common.{length, get_or, IsTrue, ◌==◌, slice_range, sym, refl}
use Rattle.regex_lite_syntax.proofs.Common.{ap, ◌∙◌, subst, inl, inr, append_assoc, and_from}
use Rattle.regex_lite_syntax.proofs.Common.{and_parts, both_ways, eqb-true, or_cases}
use Rattle.regex_lite_syntax.proofs.Common.{list_all-append, AllPass-from_list_all}
use Rattle.regex_lite_syntax.proofs.Common.{list_all-from_AllPass, AllPass, list_all, is_character}
use Rattle.regex_lite_syntax.proofs.Common.{AreCharacters, is_one_of, Lacks, Text, is_text}
use Rattle.regex_lite_syntax.proofs.ListLemmas.{same_head, same_tail}
use Rattle.std.proofs.lemmas.List.Edits.{between_more}

-- a word that is as long as it can be is the only one
longest_once : (kind : ℕ → Bool) (v w t r s : Text) → t ≡ v ++ r → t ≡ w ++ s
    → IsTrue (list_all kind v)
    → IsTrue (list_all kind w) → Lacks kind r → Lacks kind s → (v ≡ w) × (r ≡ s)
longest_once kind [] [] t r s a b p q lr ls = (refl, sym a ∙ b)
longest_once kind [] (d ∷ w) t r s a b p q lr ls =
    absurd (both_ways (kind d) (subst (λ u. Lacks kind u) (sym a ∙ b) lr) (and_parts _ _ q).0)
longest_once kind (c ∷ v) [] t r s a b p q lr ls =
    absurd (both_ways (kind c) (subst (λ u. Lacks kind u) (sym b ∙ a) ls) (and_parts _ _ p).0)
longest_once kind (c ∷ v) (d ∷ w) t r s a b p q lr ls =
    let same : c ∷ (v ++ r) ≡ d ∷ (w ++ s) = sym a ∙ b in
    let of_v : IsTrue (list_all kind v) = (and_parts (kind c) _ p).1 in
    let of_w : IsTrue (list_all kind w) = (and_parts (kind d) _ q).1 in
    let rest = longest_once kind v w (v ++ r) r s refl (same_tail same) of_v of_w lr ls in
    (cc (same_head same, rest.0), rest.1)

pub word_once : (kind : ℕ → Bool) (v w t r s : Text) → t ≡ v ++ r → t ≡ w ++ s → AllPass kind v
    → AllPass kind w → Lacks kind r → Lacks kind s → (v ≡ w) × (r ≡ s)
word_once kind v w t r s a b p q lr ls =
    longest_once kind v w t r s a b (list_all-from_AllPass kind v p)
    (list_all-from_AllPass kind w q) lr ls

-- one of some characters is of the kind that they all are
pub one_passes : (kind : ℕ → Bool) (cs : Text) (c : ℕ) → IsTrue (list_all kind cs)
    → IsTrue (is_one_of cs c) → IsTrue (kind c)
one_passes kind [] c all is = absurd (both_ways false refl is)
one_passes kind (d ∷ cs) c all is =
    let parts = and_parts _ _ all in
    elim (or_cases (d == c) _ is) [
      | inl same ↦ subst (λ x. IsTrue (kind x)) (eqb-true d c same) parts.0
      | inr other ↦ one_passes kind cs c parts.1 other
    ]

-- where all of a kind are characters, so are those of a text
pub all_characters : (kind : ℕ → Bool) (cs : Text)
    → ((c : ℕ) → IsTrue (kind c) → IsTrue (is_character c)) → IsTrue (list_all kind cs)
    → AreCharacters cs
all_characters kind [] is all = tt
all_characters kind (c ∷ cs) is all =
    let parts = and_parts _ _ all in (is c parts.0, all_characters kind cs is parts.1)

-- texts that are found to be the same
pub same_text : (t u : Text) → IsTrue (is_text t u) → t ≡ u
same_text [] [] e = refl
same_text [] (d ∷ u) e = cc e
same_text (c ∷ t) [] e = cc e
same_text (c ∷ t) (d ∷ u) e =
    let parts = and_parts (c == d) (is_text t u) e in
    cc (eqb-true c d parts.0, same_text t u parts.1)

-- one more character
pub pass_push : (kind : ℕ → Bool) (w : Text) (c : ℕ) → AllPass kind w → IsTrue (kind c)
    → AllPass kind (w ++ c ∷ [])
pass_push kind w c p h =
    AllPass-from_list_all kind (w ++ c ∷ []) (list_all-append kind w (c ∷ [])
    ∙ and_from _ _ (list_all-from_AllPass kind w p) (and_from _ _ h refl))

pub spelled_push : (w t u v : Text) (c : ℕ) → t ≡ w ++ u → u ≡ c ∷ v → t ≡ (w ++ c ∷ []) ++ v
spelled_push w t u v c s e = s ∙ ap (λ x. w ++ x) e ∙ sym (append_assoc w (c ∷ []) v)

pub slice_more : (xs : Text) (at end c : ℕ) → at ≤ end → end < length xs → c ≡ get_or xs end c
    → slice_range xs at (end + 1) ≡ slice_range xs at end ++ c ∷ []
slice_more xs at end c low high e =
    between_more xs at end c low high ∙ ap (λ d. slice_range xs at end ++ d ∷ []) (sym e)
