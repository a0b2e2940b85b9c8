-- Where a name and a text without a `$` end.
use Rattle.regex_lite_engine.proofs.Common.{◌≡◌, ℕ, zero, suc, ◌+◌, ◌<◌, ◌≤◌, true, ◌≢◌, List, []}
use Rattle.regex_lite_engine.proofs.Common.{◌∷◌, ◌++◌, length, get_or, take, drop, sym, refl, ap}
use Rattle.regex_lite_engine.proofs.Common.{◌∙◌, subst, arith, nat_tests, get_or-take, length-take}
use Rattle.regex_lite_engine.proofs.Common.{take-append-drop, plain, is_name_character, BeginsWith}
use Rattle.regex_lite_engine.proofs.Common.{no_dollar}
use Rattle.std.proofs.lemmas.List.{get_or_default}
use Rattle.std.proofs.Common.{Contains}
use Rattle.std.specs.List.{prefix_len}
use Rattle.std.specs.Str.{IsUtf8, IsCharBoundary}
use Rattle.std.proofs.lemmas.List.Sums.{prefix_len_passes, prefix_len-le-length}
use Rattle.std.proofs.lemmas.Str.{IsCharBoundary-after_ascii}

name_is_ascii : (b : ℕ) → is_name_character b ≡ true → b < 128
name_is_ascii b named = grind (arith, nat_tests)

-- after the characters of a name is a character boundary
pub name_ends_cleanly : (t : List ℕ) (n : ℕ) → IsUtf8 t → n ≡ prefix_len is_name_character t → 0 < n
    → IsCharBoundary t n
name_ends_cleanly t zero utf8 is some = absurd (omega arith)
name_ends_cleanly t (suc k) utf8 is some =
    subst (IsCharBoundary t) (one_more k)
    (IsCharBoundary-after_ascii t k utf8
    (omega (arith, is, prefix_len-le-length is_name_character t))
    (name_is_ascii (get_or t k 0) (prefix_len_passes is_name_character t k 0 (omega (arith, is)))))
  where
    one_more : (k : ℕ) → k + 1 ≡ suc k
    one_more k = omega arith

pub first_lack : (c : ℕ) (t : List ℕ) (n : ℕ) → ((i : ℕ) → i < n → get_or t i 0 ≢ c)
    → ¬ (Contains (take n t) c)
first_lack c t n lacks (i, inside, is) =
    let below : i < n = omega (arith, inside, length-take n t) in
    lacks i below
    (get_or_default t i 0 c (omega (arith, inside, length-take n t))
    ∙ sym (get_or-take n t i c below) ∙ is)

-- a text without a `$` up to where one stands or the text ends
pub text_first : (t run rest : List ℕ) (n : ℕ) → t ≢ [] → ((i : ℕ) → i < n → get_or t i 0 ≢ 36)
    → (n ≡ 0 → get_or t 0 0 ≡ 36) → ((u : List ℕ) → t ≢ 36 ∷ u) → n ≤ length t
    → run ≡ take n t → rest ≡ drop n t → BeginsWith t (plain run) rest
text_first t run rest n some lacks stops start inside is_run is_rest =
    no_dollar run nonempty (subst (λ x. ¬ (Contains x 36)) (sym is_run) (first_lack 36 t n lacks))
    (sym (take-append-drop n t) ∙ ap (λ x. x ++ drop n t) (sym is_run)
    ∙ ap (λ x. run ++ x) (sym is_rest)) refl
  where
    begins : (t : List ℕ) → t ≢ [] → get_or t 0 0 ≡ 36 → (u : List ℕ) × (t ≡ 36 ∷ u)
    begins [] some is = absurd (some refl)
    begins (b ∷ t) some is = (t, ap (λ x. x ∷ t) is)

    positive : n ≡ 0 → ⊥
    positive zero_len = let b = begins t some (stops zero_len) in start b.0 b.1

    length_run : length run ≡ n
    length_run = omega (arith, ap length is_run, length-take n t, inside)

    nonempty : run ≢ []
    nonempty empty = positive (sym length_run ∙ ap length empty)
