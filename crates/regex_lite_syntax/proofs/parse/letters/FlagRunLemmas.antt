-- Runs of flag letters, and what they say of a run that begins there.
use Rattle.regex_lite_syntax.proofs.Common.{◌≡◌, ℕ, Bool, false, ◌||◌, [], ◌∷◌, ◌++◌, IsTrue, ◌==◌}
use Rattle.regex_lite_syntax.proofs.Common.{codes, sym, refl, ap, ◌∙◌, subst, append_assoc}
use Rattle.regex_lite_syntax.proofs.Common.{and_from, and_parts, both_ways, eqb-false, ne_eqb}
use Rattle.regex_lite_syntax.proofs.Common.{not-true, not_from_false, or_parts, list_all-append}
use Rattle.regex_lite_syntax.proofs.Common.{list_all-from_AllPass, AllPass, list_all, is_one_of}
use Rattle.regex_lite_syntax.proofs.Common.{is_flag_letter, with_flags, all_differ, Lacks, EndsRun}
use Rattle.regex_lite_syntax.proofs.Common.{LetterRun, Text, Flags}
use Rattle.std.proofs.lemmas.Bool.{or_from}
use Rattle.std.proofs.lemmas.List.Folds.{list_any-append}
use Rattle.regex_lite_syntax.specs.Grammar.FlagLetters.{with_flag}
use Rattle.regex_lite_syntax.proofs.ListLemmas.{same_head, same_tail}
use Rattle.regex_lite_syntax.proofs.grammar.WordLemmas.{one_passes, word_once}
use Rattle.std.proofs.Common.{not}

-- where all characters are of a kind, one between others is
pub all_pass_middle : (kind : ℕ → Bool) (cs : Text) (c : ℕ) (ds : Text)
    → AllPass kind (cs ++ c ∷ ds) → IsTrue (kind c)
all_pass_middle kind cs c ds all =
    let both =
    sym (list_all-append kind cs (c ∷ ds)) ∙ list_all-from_AllPass kind (cs ++ c ∷ ds) all in
    (and_parts _ _ (and_parts _ _ both).1).0

-- what is read with one more letter
pub with_flags_more : (set : Bool) (cs : Text) (c : ℕ) (flags : Flags)
    → with_flags set (cs ++ c ∷ []) flags ≡ with_flag set c (with_flags set cs flags)
with_flags_more set [] c flags = refl
with_flags_more set (d ∷ cs) c flags = with_flags_more set cs c (with_flag set d flags)

-- whether a character stands in a text that is followed by another
pub one_of_both : (cs ds : Text) (c : ℕ)
    → is_one_of (cs ++ ds) c ≡ (is_one_of cs c || is_one_of ds c)
one_of_both cs ds c = list_any-append (λ d. d == c) cs ds

sym_false : (c d : ℕ) → (c == d) ≡ false → (d == c) ≡ false
sym_false c d e = ne_eqb d c (λ h. eqb-false c d e (sym h))

-- one more letter that is none of these
pub differ_one_more : (cs : Text) (c : ℕ) → IsTrue (all_differ cs) → is_one_of cs c ≡ false
    → IsTrue (all_differ (cs ++ c ∷ []))
differ_one_more [] c differ none = refl
differ_one_more (d ∷ cs) c differ none =
    let parts = and_parts _ _ differ in
    let absent = or_parts (d == c) (is_one_of cs c) none in
    let others = or_from (is_one_of cs d) (c == d || false) (not-true _ parts.0)
    (or_from (c == d) false (sym_false d c absent.0) refl) in
    and_from _ _ (not_from_false _ (one_of_both cs (c ∷ []) d ∙ others))
    (differ_one_more cs c parts.1 absent.1)

pub differ_more : (before read : Text) (c : ℕ) → IsTrue (all_differ (before ++ read))
    → is_one_of before c ≡ false
    → is_one_of read c ≡ false → IsTrue (all_differ (before ++ (read ++ c ∷ [])))
differ_more before read c differ none none_read =
    let absent =
    one_of_both before read c ∙ or_from (is_one_of before c) (is_one_of read c) none none_read in
    rw (← append_assoc) (differ_one_more (before ++ read) c differ absent)

-- and a character that stands again
pub differ_middle : (cs ds : Text) (c : ℕ) → IsTrue (all_differ (cs ++ c ∷ ds))
    → is_one_of cs c ≡ false
differ_middle [] ds c differ = refl
differ_middle (d ∷ cs) ds c differ =
    let parts = and_parts _ _ differ in
    let absent =
    or_parts (is_one_of cs d) _ (sym (one_of_both cs (c ∷ ds) d) ∙ not-true _ parts.0) in
    let here = or_parts (c == d) _ absent.1 in
    or_from (d == c) (is_one_of cs c) (sym_false c d here.0) (differ_middle cs ds c parts.1)

-- no flag letter ends a run
ends_no_letter : (c : ℕ) → IsTrue (is_one_of (codes "-:)") c) → is_flag_letter c ≡ false
ends_no_letter c ends =
    not-true _ (one_passes (λ d. not (is_flag_letter d)) (codes "-:)") c refl ends)

-- a run goes on past letters that have been read
goes_on : (read letters t u rest : Text) → t ≡ read ++ u → IsTrue (list_all is_flag_letter read)
    → t ≡ letters ++ rest
    → EndsRun rest → (more : Text) × (letters ≡ read ++ more) × (u ≡ more ++ rest)
goes_on [] letters t u rest p all q ends = (letters, refl, sym p ∙ q)
goes_on (c ∷ read) [] t u rest p all q ends =
    let end = subst (λ v. EndsRun v) (sym q ∙ p) ends in
    absurd (both_ways (is_flag_letter c) (ends_no_letter c end) (and_parts _ _ all).0)
goes_on (c ∷ read) (d ∷ letters) t u rest p all q ends =
    let same : d ∷ (letters ++ rest) ≡ c ∷ (read ++ u) = sym q ∙ p in
    let further : IsTrue (list_all is_flag_letter read) = (and_parts (is_flag_letter c) _ all).1 in
    let past = goes_on read letters (read ++ u) u rest refl further (sym (same_tail same)) ends in
    (past.0, cc (same_head same, past.1), past.2)

-- no run goes on past the end of the pattern
pub no_run_end : (before read letters t u rest : Text) → t ≡ read ++ u → AllPass is_flag_letter read
    → u ≡ [] → LetterRun before letters t rest → ⊥
no_run_end before read letters t u rest p all none run =
    let past = goes_on read letters t u rest p
    (list_all-from_AllPass is_flag_letter read all) run.written run.ends in
    at_end past.0 past.2
  where
    at_end : (more : Text) → u ≡ more ++ rest → ⊥
    at_end [] e = subst (λ v. EndsRun v) (sym e ∙ none) run.ends
    at_end (c ∷ more) e = let begins : u ≡ c ∷ (more ++ rest) = e in cc (none, begins)

-- nor past a character that is no flag letter and ends no run
pub no_run_other : (before read letters t u rest : Text) (c : ℕ) (v : Text) → t ≡ read ++ u
    → AllPass is_flag_letter read → u ≡ c ∷ v → is_flag_letter c ≡ false
    → is_one_of (codes "-:)") c ≡ false
    → LetterRun before letters t rest → ⊥
no_run_other before read letters t u rest c v p all here no_flag no_end run =
    let past = goes_on read letters t u rest p
    (list_all-from_AllPass is_flag_letter read all) run.written run.ends in
    at_other past.0 past.1 past.2
  where
    at_other : (more : Text) → letters ≡ read ++ more → u ≡ more ++ rest → ⊥
    at_other [] is e = both_ways _ no_end (subst (λ w. EndsRun w) (sym e ∙ here) run.ends)
    at_other (d ∷ more) is e =
        let passes = all_pass_middle is_flag_letter read d more
        (subst (λ w. AllPass is_flag_letter w) is run.all) in
        let same = same_head (sym e ∙ here) in
        both_ways (is_flag_letter c) no_flag (subst (λ x. IsTrue (is_flag_letter x)) same passes)

-- nor past a letter that stands before
pub no_run_twice : (before read letters t u rest : Text) (c : ℕ) (v : Text) → t ≡ read ++ u
    → AllPass is_flag_letter read → u ≡ c ∷ v → IsTrue (is_flag_letter c)
    → IsTrue (is_one_of before c || is_one_of read c) → LetterRun before letters t rest → ⊥
no_run_twice before read letters t u rest c v p all here is_letter either run =
    let past = goes_on read letters t u rest p
    (list_all-from_AllPass is_flag_letter read all) run.written run.ends in
    at_letter past.0 past.1 past.2
  where
    at_letter : (more : Text) → letters ≡ read ++ more → u ≡ more ++ rest → ⊥
    at_letter [] is e =
        both_ways _ (ends_no_letter c (subst (λ w. EndsRun w) (sym e ∙ here) run.ends)) is_letter
    at_letter (d ∷ more) is e =
        let again = is ∙ ap (λ x. read ++ x ∷ more) (same_head (sym e ∙ here)) in
        let parts : before ++ letters ≡ (before ++ read) ++ c ∷ more =
        rw append_assoc (ap (λ w. before ++ w) again) in
        both_ways _ (differ_middle (before ++ read) more c
        (subst (λ w. IsTrue (all_differ w)) parts run.differ)) (one_of_both before read c ∙ either)

-- a run of a text is one of each longer text
ends_longer : (more u : Text) → EndsRun u → EndsRun (u ++ more)
ends_longer more [] ends = absurd ends
ends_longer more (c ∷ u) ends = ends

pub run_longer : (more before letters t u : Text) → LetterRun before letters t u
    → LetterRun before letters (t ++ more) (u ++ more)
run_longer more before letters t u run = record {
  written = ap (λ v. v ++ more) run.written ∙ append_assoc letters u more;
  all = run.all;
  differ = run.differ;
  ends = ends_longer more u run.ends;
}

-- so no flag letter goes on with one
lacks_letter : (u : Text) → EndsRun u → Lacks is_flag_letter u
lacks_letter [] ends = absurd ends
lacks_letter (c ∷ u) ends = ends_no_letter c ends

-- a run from one place is one
pub run_once : (before before' letters letters' t u u' : Text) → LetterRun before letters t u
    → LetterRun before' letters' t u' → (letters ≡ letters') × (u ≡ u')
run_once before before' letters letters' t u u' run run' =
    word_once is_flag_letter letters letters' t u u' run.written run'.written run.all run'.all
    (lacks_letter u run.ends) (lacks_letter u' run'.ends)
