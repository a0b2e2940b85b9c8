-- What runs of flag letters say of whole flags.
use Rattle.regex_lite_syntax.proofs.Common.{◌≡◌, ℕ, ◌<◌, true, false, ◌⊎◌, [], ◌∷◌, ◌++◌, length}
use Rattle.regex_lite_syntax.proofs.Common.{IsTrue, ◌==◌, codes, sym, refl, ap, ◌∙◌, subst, inl}
use Rattle.regex_lite_syntax.proofs.Common.{inr, arith, and_from, and_parts, both_ways, eqb-true}
use Rattle.regex_lite_syntax.proofs.Common.{not-true, not_from_false, or_cases, or_parts}
use Rattle.regex_lite_syntax.proofs.Common.{AllPass-from_list_all, AllPass, is_one_of}
use Rattle.regex_lite_syntax.proofs.Common.{is_flag_letter, with_flags, all_differ, FlagLetters}
use Rattle.regex_lite_syntax.proofs.Common.{setting, clearing, EndedFlags, EndsRun, LetterRun, Text}
use Rattle.regex_lite_syntax.proofs.Common.{Begins, the, Flags}
use Rattle.regex_lite_syntax.proofs.ListLemmas.{same_head, same_tail}
use Rattle.regex_lite_syntax.proofs.parse.letters.FlagRunLemmas.{one_of_both, run_once}
use Rattle.regex_lite_syntax.proofs.parse.letters.FlagRunLemmas.{no_run_other}

-- flags without a dash are one run, and those with one are two
differ_first : (on off : Text) → IsTrue (all_differ (on ++ off)) → IsTrue (all_differ on)
differ_first [] off differ = refl
differ_first (c ∷ on) off differ =
    let parts = and_parts _ _ differ in
    let absent = or_parts (is_one_of on c) _ (sym (one_of_both on off c) ∙ not-true _ parts.0) in
    and_from _ _ (not_from_false _ absent.0) (differ_first on off parts.1)

ends_run : (t : Text) → Begins (the ":") t ⊎ Begins (the ")") t → EndsRun t
ends_run [] (inl none) = absurd none
ends_run [] (inr none) = absurd none
ends_run (c ∷ t) (inl e) = subst (λ d. IsTrue (is_one_of (codes "-:)") d)) (sym e) refl
ends_run (c ∷ t) (inr e) = subst (λ d. IsTrue (is_one_of (codes "-:)") d)) (sym e) refl

no_dash_ends : (t past : Text) → t ≡ the "-" ∷ past → Begins (the ":") t ⊎ Begins (the ")") t → ⊥
no_dash_ends [] past e ends = cc
no_dash_ends (c ∷ t) past e (inl h) = let same = same_head e in omega arith
no_dash_ends (c ∷ t) past e (inr h) = let same = same_head e in omega arith

set_run : (old : Flags) (on t rest : Text) (new : Flags) → t ≡ on ++ rest
    → AllPass is_flag_letter on
    → IsTrue (all_differ on) → Begins (the ":") rest ⊎ Begins (the ")") rest
    → LetterRun [] on t rest
set_run old on t rest new p all differ ends =
    record { written = p; all = all; differ = differ; ends = ends_run rest ends }

dash_run : (on off t past : Text) → t ≡ on ++ the "-" ∷ past → AllPass is_flag_letter on
    → IsTrue (all_differ (on ++ off)) → LetterRun [] on t (the "-" ∷ past)
dash_run on off t past p all differ =
    record { written = p; all = all; differ = differ_first on off differ; ends = refl }

-- flags begin with a run
pub first_run : (old : Flags) (t rest : Text) (new : Flags) → EndedFlags old t rest new
    → (letters : Text) × (u : Text) × LetterRun [] letters t u
first_run old t rest new flags = of_letters flags.letters
  where
    of_letters : FlagLetters old t rest new
        → (letters : Text) × (u : Text) × LetterRun [] letters t u
    of_letters (setting on p all differ e) =
        (on, rest, set_run old on t rest new p all differ flags.ends)
    of_letters (clearing on off past p q some all all_off differ e) =
        (on, the "-" ∷ past, dash_run on off t past p all differ)

-- the letters past the dash
pub record Cleared (on past rest : Text) : Type 0 where
  pub off : Text
  pub run : LetterRun on off past rest
  pub some : 0 < length off

-- where a dash ends the first run, flags go on with another
pub second_run : (old : Flags) (on t u past rest : Text) (new : Flags) → LetterRun [] on t u
    → u ≡ the "-" ∷ past → EndedFlags old t rest new → Cleared on past rest
second_run old on t u past rest new run here flags = of_letters flags.letters
  where
    of_letters : FlagLetters old t rest new → Cleared on past rest
    of_letters (setting on' p all differ e) =
        let same =
        run_once [] [] on on' t u rest run (set_run old on' t rest new p all differ flags.ends) in
        absurd (no_dash_ends rest past (sym same.1 ∙ here) flags.ends)
    of_letters (clearing on' off past' p q some all all_off differ e) =
        let same =
        run_once [] [] on on' t u (the "-" ∷ past') run (dash_run on' off t past' p all differ) in
        let other : LetterRun on' off past' rest =
        record { written = q; all = all_off; differ = differ; ends = ends_run rest flags.ends } in
        record {
          off = off;
          run = subst (λ w. LetterRun w off past rest) (sym same.0)
              (subst (λ w. LetterRun on' off w rest) (same_tail (sym same.1 ∙ here)) other);
          some = some;
        }

-- a dash does not end them
pub no_second_dash : (on off past u v rest : Text) → LetterRun on off past u → u ≡ the "-" ∷ v
    → Begins (the ":") rest ⊎ Begins (the ")") rest → Cleared on past rest → ⊥
no_second_dash on off past u v rest run here ends cleared =
    let same = run_once on on off cleared.off past u rest run cleared.run in
    no_dash_ends rest v (sym same.1 ∙ here) ends

-- nor is there none of them
pub some_second : (on off past u rest : Text) → LetterRun on off past u → length off ≡ 0
    → Cleared on past rest → ⊥
some_second on off past u rest run none cleared =
    let length_is = ap length (run_once on on off cleared.off past u rest run cleared.run).0 in
    omega (arith, length_is, cleared.some)

-- what ends a run and is no dash ends flags
ends_flags : (t : Text) → EndsRun t → (Begins (the "-") t → ⊥)
    → Begins (the ":") t ⊎ Begins (the ")") t
ends_flags [] ends no_dash = absurd ends
ends_flags (d ∷ t) ends no_dash =
    elim (or_cases (the "-" == d) _ ends) [
      | inl h ↦ absurd (no_dash (sym (eqb-true (the "-") d h)))
      | inr other ↦ elim (or_cases (the ":" == d) _ other) [
        | inl h ↦ inl (sym (eqb-true (the ":") d h))
        | inr last ↦ elim (or_cases (the ")" == d) _ last) [
          | inl h ↦ inr (sym (eqb-true (the ")") d h))
          | inr none ↦ absurd (both_ways false refl none)
        ]
      ]
    ]

pub flags_set : (old : Flags) (on t rest : Text) (new : Flags) → LetterRun [] on t rest
    → (Begins (the "-") rest → ⊥) → new ≡ with_flags true on old → EndedFlags old t rest new
flags_set old on t rest new run no_dash e = record {
  letters = setting on run.written run.all run.differ e;
  ends = ends_flags rest run.ends no_dash;
}

pub flags_cleared : (old : Flags) (on off t u past rest : Text) (new : Flags) → LetterRun [] on t u
    → u ≡ the "-" ∷ past → LetterRun on off past rest → 0 < length off → (Begins (the "-") rest → ⊥)
    → new ≡ with_flags false off (with_flags true on old) → EndedFlags old t rest new
flags_cleared old on off t u past rest new run dashed run_off some no_dash e =
    let set = subst (λ w. t ≡ on ++ w) dashed run.written in
    record {
      letters = clearing on off past set run_off.written some run.all run_off.all run_off.differ e;
      ends = ends_flags rest run_off.ends no_dash;
    }

nothing_passes : AllPass is_flag_letter []
nothing_passes = AllPass-from_list_all is_flag_letter [] refl

-- nor at a character that is no part of flags
pub no_flags_other : (old : Flags) (t rest : Text) (new : Flags) (c : ℕ) (u : Text) → t ≡ c ∷ u
    → is_flag_letter c ≡ false → is_one_of (codes "-:)") c ≡ false → EndedFlags old t rest new → ⊥
no_flags_other old t rest new c u here no_flag no_end flags =
    let run = first_run old t rest new flags in
    no_run_other [] [] run.0 t t run.1 c u refl nothing_passes here no_flag no_end run.2
