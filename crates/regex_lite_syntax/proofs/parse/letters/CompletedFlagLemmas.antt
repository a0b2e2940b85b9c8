-- What completes flags at which the pattern ends, and where nothing does.
use Rattle.regex_lite_syntax.proofs.Common.{◌≡◌, ℕ, ◌<◌, true, false, [], ◌∷◌, ◌++◌, length, IsTrue}
use Rattle.regex_lite_syntax.proofs.Common.{codes, sym, refl, ap, ◌∙◌, inl, append_assoc, arith}
use Rattle.regex_lite_syntax.proofs.Common.{and_from, both_ways, append-nil, AllPass-from_list_all}
use Rattle.regex_lite_syntax.proofs.Common.{AllPass, is_character, AreCharacters, is_one_of}
use Rattle.regex_lite_syntax.proofs.Common.{is_flag_letter, with_flags, all_differ, setting}
use Rattle.regex_lite_syntax.proofs.Common.{clearing, EndedFlags, LetterRun, Completable, Text, the}
use Rattle.regex_lite_syntax.proofs.Common.{Flags}
use Rattle.regex_lite_syntax.proofs.parse.letters.FlagRunLemmas.{all_pass_middle, differ_one_more}
use Rattle.regex_lite_syntax.proofs.parse.letters.FlagRunLemmas.{differ_middle}
use Rattle.regex_lite_syntax.proofs.parse.letters.WholeFlagLemmas.{Cleared}
use Rattle.regex_lite_syntax.proofs.grammar.WordLemmas.{one_passes}

-- flags that lead to a `:`
abbrev pub ColonFlags : (old : Flags) → (t rest : Text) → Type 0
ColonFlags old t rest = (new : Flags) × EndedFlags old t (the ":" ∷ rest) new

-- a `:` may follow letters that set flags
pub set_completes : (old : Flags) (t : Text) → AllPass is_flag_letter t → IsTrue (all_differ t)
    → Completable (ColonFlags old) t
set_completes old t all differ = record {
  more = the ":" ∷ [];
  characters = (refl, tt);
  reads = λ next. (
    with_flags true t old,
    record { letters = setting t refl all differ refl; ends = inl refl },
  );
}

-- a flag letter that none of these is
abbrev pub LetterLeft : (before : Text) → Type 0
LetterLeft before = (c : ℕ) × IsTrue (is_flag_letter c) × (is_one_of before c ≡ false)

letter_is_character : (c : ℕ) → IsTrue (is_flag_letter c) → IsTrue (is_character c)
letter_is_character c letter = one_passes is_character (codes "imsURxu") c refl letter

-- past a dash and what stands there, these letters complete the flags that clear
clear_completes : (old : Flags) (on off t u past more : Text) → LetterRun [] on t u
    → u ≡ the "-" ∷ past → off ≡ past ++ more → AllPass is_flag_letter off → 0 < length off
    → IsTrue (all_differ (on ++ off)) → AreCharacters (more ++ the ":" ∷ [])
    → Completable (ColonFlags old) t
clear_completes old on off t u past more run dashed is all some differ characters = record {
  more = more ++ the ":" ∷ [];
  characters = characters;
  reads = λ next.
      let left = (more ++ the ":" ∷ []) ++ next in
      let set = run.written ∙ ap (λ v. on ++ v) dashed in
      let ended = ap (λ v. past ++ v) (append_assoc more (the ":" ∷ []) next)
      ∙ sym (append_assoc past more (the ":" ∷ next)) ∙ ap (λ v. v ++ the ":" ∷ next) (sym is) in (
        with_flags false off (with_flags true on old),
        record {
          letters = clearing on off (past ++ left)
              (ap (λ v. v ++ left) set ∙ append_assoc on (the "-" ∷ past) left) ended some run.all
              all differ refl;
          ends = inl refl;
        },
      );
}

-- so a `:` does past letters, and else a letter that is left
pub dash_completes : (old : Flags) (on t u past : Text) → LetterRun [] on t u
    → u ≡ the "-" ∷ past → AllPass is_flag_letter past → IsTrue (all_differ (on ++ past))
    → (past ≡ [] → LetterLeft on) → Completable (ColonFlags old) t
dash_completes old on t u [] run dashed all differ left =
    let c = left refl in
    clear_completes old on (c.0 ∷ []) t u [] (c.0 ∷ []) run dashed refl
    (AllPass-from_list_all is_flag_letter (c.0 ∷ []) (and_from _ _ c.1 refl)) (omega arith)
    (differ_one_more on c.0 run.differ c.2) (letter_is_character c.0 c.1, (refl, tt))
dash_completes old on t u (d ∷ past) run dashed all differ left =
    clear_completes old on (d ∷ past) t u (d ∷ past) [] run dashed (sym (append-nil (d ∷ past)))
    all (omega arith) differ (refl, tt)

-- and where none is left, no flags go on past the dash
pub none_clears : (on past rest : Text)
    → ((c : ℕ) → IsTrue (is_flag_letter c) → IsTrue (is_one_of on c)) → Cleared on past rest → ⊥
none_clears on past rest every cleared = of_letters cleared.off cleared.run cleared.some
  where
    of_letters : (off : Text) → LetterRun on off past rest → 0 < length off → ⊥
    of_letters [] run some = omega (arith, some)
    of_letters (d ∷ off) run some = both_ways _ (differ_middle on off d run.differ)
        (every d (all_pass_middle is_flag_letter [] d off run.all))
