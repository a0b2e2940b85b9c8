-- The characters of a name, one after another.
use Rattle.regex_lite_syntax.proofs.Common.{◌≡◌, ℕ, ◌+◌, ◌-◌, ◌<◌, ◌≤◌, ◌≢◌, [], ◌∷◌, ◌++◌, length}
use Rattle.regex_lite_syntax.proofs.Common.{take, drop, IsTrue, slice_range, sym, refl, ap, ◌∙◌}
use Rattle.regex_lite_syntax.proofs.Common.{subst, arith, and_from, and_parts, eqb-false, ne_eqb}
use Rattle.regex_lite_syntax.proofs.Common.{not-true, not_from_false, drop_more, drop_split}
use Rattle.regex_lite_syntax.proofs.Common.{list_all-append, AllPass-from_list_all}
use Rattle.regex_lite_syntax.proofs.Common.{list_all-from_AllPass, AllPass, list_all, is_no_end}
use Rattle.regex_lite_syntax.proofs.Common.{NameWritten, Text, the}
use Rattle.std.proofs.lemmas.List.Edits.{between_more}
use Rattle.regex_lite_syntax.specs.Grammar.GroupNames.{begins_name, continues_name, is_name}
use Rattle.regex_lite_syntax.proofs.ListLemmas.{same_head, same_tail}
use Rattle.regex_lite_syntax.proofs.grammar.WordLemmas.{pass_push}

-- what is left of a name past its first character, and the `>` that ends it
pub record NameLeft (t rest : Text) : Type 0 where
  pub name : Text
  pub written : t ≡ name ++ the ">" ∷ rest
  pub inside : IsTrue (list_all is_no_end name)
  pub continues : IsTrue (list_all continues_name name)

no_end : (c : ℕ) → IsTrue (is_no_end c) → c ≢ the ">"
no_end c h = eqb-false c (the ">") (not-true _ h)

nothing_spelled : (name t rest : Text) (c : ℕ) → t ≡ [] → t ≡ name ++ c ∷ rest → ⊥
nothing_spelled [] t rest c none s = cc
nothing_spelled (d ∷ ds) t rest c none s =
    let here : t ≡ d ∷ (ds ++ c ∷ rest) = s in cc (none, here)

pub nothing_left_at_end : {t rest : Text} → t ≡ [] → NameLeft t rest → ⊥
nothing_left_at_end {t} {rest} none n = nothing_spelled n.name t rest (the ">") none n.written

-- the first character of a name, and the rest of it
pub first_of_name : {t rest name : Text} (c : ℕ) (past : Text) → t ≡ c ∷ past
    → NameWritten t rest name → IsTrue (begins_name c) × (c ≢ the ">") × NameLeft past rest
first_of_name {t} {rest} {name} c past here w =
    go name w.written (list_all-from_AllPass is_no_end name w.inside) w.is_a_name
  where
    go : (name : Text) → t ≡ name ++ the ">" ∷ rest → IsTrue (list_all is_no_end name)
        → IsTrue (is_name name) → IsTrue (begins_name c) × (c ≢ the ">") × NameLeft past rest
    go [] written inside is = cc
    go (d ∷ ds) written inside is =
        let parts = and_parts _ _ is in
        let left = and_parts _ _ inside in
        let same : d ∷ (ds ++ the ">" ∷ rest) ≡ c ∷ past = sym written ∙ here in (
          subst (λ e. IsTrue (begins_name e)) (same_head same) parts.0,
          no_end c (subst (λ e. IsTrue (is_no_end e)) (same_head same) left.0),
          record {
            name = ds;
            written = sym (same_tail same);
            inside = left.1;
            continues = parts.1;
          },
        )

-- a further character that does not end the name, and the rest of it
pub next_of_name : {t rest : Text} (c : ℕ) (past : Text) → t ≡ c ∷ past → c ≢ the ">"
    → NameLeft t rest → IsTrue (continues_name c) × NameLeft past rest
next_of_name {t} {rest} c past here going n = go n.name n.written n.inside n.continues
  where
    go : (name : Text) → t ≡ name ++ the ">" ∷ rest → IsTrue (list_all is_no_end name)
        → IsTrue (list_all continues_name name) → IsTrue (continues_name c) × NameLeft past rest
    go [] written inside continues = absurd (going (same_head (sym here ∙ written)))
    go (d ∷ ds) written inside continues =
        let parts = and_parts _ _ continues in
        let same : d ∷ (ds ++ the ">" ∷ rest) ≡ c ∷ past = sym written ∙ here in (
          subst (λ e. IsTrue (continues_name e)) (same_head same) parts.0,
          record {
            name = ds;
            written = sym (same_tail same);
            inside = (and_parts _ _ inside).1;
            continues = parts.1;
          },
        )

-- what has been read of a name
pub record NameSoFar (name : Text) : Type 0 where
  pub inside : AllPass is_no_end name
  pub is_a_name : IsTrue (is_name name)

is_inside : (c : ℕ) → c ≢ the ">" → IsTrue (is_no_end c)
is_inside c going = not_from_false _ (ne_eqb c (the ">") going)

all_continue : (name : Text) (c : ℕ) → IsTrue (list_all continues_name name)
    → IsTrue (continues_name c) → IsTrue (list_all continues_name (name ++ c ∷ []))
all_continue name c h continues =
    list_all-append continues_name name (c ∷ []) ∙ and_from _ _ h (and_from _ _ continues refl)

still_name : (name : Text) (c : ℕ) → IsTrue (is_name name) → IsTrue (continues_name c)
    → IsTrue (is_name (name ++ c ∷ []))
still_name [] c h continues = cc
still_name (d ∷ ds) c h continues =
    let parts = and_parts _ _ h in and_from _ _ parts.0 (all_continue ds c parts.1 continues)

pub name_goes_on : (name longer : Text) (c : ℕ) → longer ≡ name ++ c ∷ []
    → IsTrue (continues_name c) → c ≢ the ">" → NameSoFar name → NameSoFar longer
name_goes_on name longer c is continues going n =
    subst (λ w. NameSoFar w) (sym is) (record {
      inside = pass_push is_no_end name c n.inside (is_inside c going);
      is_a_name = still_name name c n.is_a_name continues;
    })

-- the name that stands from one index to another, where the `>` stands that ends it
pub name_read : (t rest : Text) (at end last c : ℕ) → at ≤ end → last ≡ end → drop end t ≡ c ∷ rest
    → c ≡ the ">" → NameSoFar (slice_range t at end)
    → NameWritten (drop at t) rest (slice_range t at last)
name_read t rest at end last c inside is_last here ends n =
    subst (λ i. NameWritten (drop at t) rest (slice_range t at i)) (sym is_last) (record {
      written = subst (λ u. drop at t ≡ slice_range t at end ++ u)
          (subst (λ d. drop end t ≡ d ∷ rest) ends here) (drop_split t at end inside);
      inside = n.inside;
      is_a_name = n.is_a_name;
    })

-- a part that goes on by one character
pub range_more : (t past : Text) (at end : ℕ) (c : ℕ) → at ≤ end → end < length t
    → drop end t ≡ c ∷ past → slice_range t at (end + 1) ≡ slice_range t at end ++ c ∷ []
range_more t past at end c inside before here =
    let item = same_head (sym (drop_more t end c before) ∙ here) in
    between_more t at end c inside before ∙ ap (λ d. slice_range t at end ++ d ∷ []) item

-- the first character of a name has been read
pub name_begun : (t past : Text) (at c : ℕ) → at < length t → drop at t ≡ c ∷ past
    → IsTrue (begins_name c) → c ≢ the ">" → NameSoFar (slice_range t at (at + 1))
name_begun t past at c before here begins going =
    let nothing : at - at ≡ 0 = omega arith in
    let none : slice_range t at at ≡ [] = ap (λ n. take n (drop at t)) nothing in
    let one : slice_range t at (at + 1) ≡ c ∷ [] =
    range_more t past at at c (omega arith) before here ∙ ap (λ w. w ++ c ∷ []) none in
    subst (λ w. NameSoFar w) (sym one) (record {
      inside = AllPass-from_list_all is_no_end (c ∷ []) (and_from _ _ (is_inside c going) refl);
      is_a_name = and_from _ _ begins refl;
    })
