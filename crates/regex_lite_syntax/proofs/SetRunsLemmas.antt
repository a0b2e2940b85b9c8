-- Each set of characters has its maximal runs.
use Rattle.regex_lite_syntax.proofs.Common.{◌≡◌, ℕ, zero, suc, ◌+◌, ◌≤◌, Bool, true, false, ◌&&◌}
use Rattle.regex_lite_syntax.proofs.Common.{◌||◌, List, [], ◌∷◌, IsTrue, nat_le, ◌==◌, sym, refl}
use Rattle.regex_lite_syntax.proofs.Common.{◌∙◌, subst, arith, eqb-false, eqb-true, nat_tests}
use Rattle.regex_lite_syntax.proofs.Common.{is_character, in_ranges, next_character, AreRuns}
use Rattle.regex_lite_syntax.proofs.Common.{AreRunsOf, Set, span, ClassRange}
use Rattle.regex_lite_syntax.proofs.CharacterSetLemmas.{HoldsCharacters}
use Rattle.regex_lite_syntax.proofs.LetterCaseLemmas.{alone}
use Rattle.regex_lite_syntax.proofs.RangeLemmas.{next_least}
use Rattle.regex_lite_syntax.proofs.class.BetweenRangeLemmas.{runs_sooner}

-- the runs of what the set holds from this number on
record RunsFrom (s : Set) (n : ℕ) : Type 0 where
  ranges : List ClassRange
  runs : AreRuns n ranges
  members : (c : ℕ) → in_ranges ranges c ≡ (s c && nat_le n c)

-- past the last character the set holds none
none_above : (c : ℕ) (held : Bool) → (IsTrue held → IsTrue (is_character c))
    → false ≡ (held && nat_le 0x110000 c)
none_above c held is = grind (arith, nat_tests)

-- and all that it holds stands from the first on
all_above : (c : ℕ) (held : Bool) → (held && nat_le 0 c) ≡ held
all_above c held = grind (arith, nat_tests)

-- one number down, which the set lacks
still_held : (n c : ℕ) (held later : Bool) → (c ≡ n → held ≡ false)
    → later ≡ (held && nat_le (n + 1) c) → later ≡ (held && nat_le n c)
still_held n c held later lacks e = grind (arith, nat_tests)

-- one number down, which the set holds, as a run of its own
held_alone : (n c : ℕ) (held later : Bool) → IsTrue (is_character n) → (c ≡ n → held ≡ true)
    → later ≡ (held && nat_le (n + 1) c) → (span n n c || later) ≡ (held && nat_le n c)
held_alone n c held later is holds e = grind (arith, nat_tests)

-- or as the start of the run that begins at the next character
held_before : (n c start end : ℕ) (held later : Bool) → IsTrue (is_character n)
    → (IsTrue held → IsTrue (is_character c)) → start ≡ next_character n → start ≤ end
    → (c ≡ n → held ≡ true) → (span start end c || later) ≡ (held && nat_le (n + 1) c)
    → (span n end c || later) ≡ (held && nat_le n c)
held_before n c start end held later is is_c next order holds e =
    grind (arith, nat_tests, next_least n c)

module _ (s : Set) (only : HoldsCharacters s) where
  -- whether it holds the number is one question
  held_as : (n : ℕ) (b : Bool) → s n ≡ b → (c : ℕ) → c ≡ n → s c ≡ b
  held_as n b e c same = subst (λ d. s d ≡ b) (sym same) e

  -- one number down, by whether the set holds it
  lacks_one : (n : ℕ) → s n ≡ false → RunsFrom s (n + 1) → RunsFrom s n
  lacks_one n lacks r = record {
    ranges = r.ranges;
    runs = runs_sooner n (n + 1) r.ranges (omega arith) r.runs;
    members = λ c. still_held n c (s c) _ (held_as n false lacks c) (r.members c);
  }

  -- a run of its own, where no run begins at the next character
  own_run : (n : ℕ) → s n ≡ true → (ranges : List ClassRange)
      → AreRuns (next_character n + 1) ranges
      → ((c : ℕ) → in_ranges ranges c ≡ (s c && nat_le (n + 1) c)) → RunsFrom s n
  own_run n holds ranges runs members =
      let is = only n holds in
      record {
        ranges = alone n ∷ ranges;
        runs = (omega arith, is, is, omega arith, runs);
        members = λ c. held_alone n c (s c) _ is (held_as n true holds c) (members c);
      }

  -- joined to the first run where that begins at the next character
  holds_one : (n : ℕ) → s n ≡ true → (ranges : List ClassRange) → AreRuns (n + 1) ranges
      → ((c : ℕ) → in_ranges ranges c ≡ (s c && nat_le (n + 1) c)) → RunsFrom s n
  holds_one n holds [] runs members = own_run n holds [] tt members
  holds_one n holds (r ∷ ranges) runs members = by (r.start == next_character n) refl
    where
      by : (joins : Bool) → (r.start == next_character n) ≡ joins → RunsFrom s n
      by true e =
          let next = eqb-true r.start (next_character n) e in
          let is = only n holds in
          record {
            ranges = record { start = n; end = r.end } ∷ ranges;
            runs = (omega arith, is, runs.2, omega (arith, runs.0, runs.3), runs.4);
            members = λ c. held_before n c r.start r.end (s c) _ is (only c) next runs.3
                (held_as n true holds c) (members c);
          }
      by false e =
          let other = eqb-false r.start (next_character n) e in
          let least = next_least n r.start runs.1 (omega (arith, runs.0)) in
          let apart : next_character n + 1 ≤ r.start = omega (arith, other, least) in
          own_run n holds (r ∷ ranges) (apart, runs.1, runs.2, runs.3, runs.4) members

  -- so the runs go down one number
  one_down : (n : ℕ) → RunsFrom s (n + 1) → RunsFrom s n
  one_down n r = by (s n) refl
    where
      by : (held : Bool) → s n ≡ held → RunsFrom s n
      by true e = holds_one n e r.ranges r.runs r.members
      by false e = lacks_one n e r

  -- and any number of them
  down_to : (k n last : ℕ) → n + k ≡ last → RunsFrom s last → RunsFrom s n
  down_to zero n last e r = subst (λ m. RunsFrom s m) (omega (arith, e)) r
  down_to (suc k) n last e r = one_down n (down_to k (n + 1) last (omega (arith, e)) r)

  -- from past the last character
  past_last : (last : ℕ) → last ≡ 0x110000 → RunsFrom s last
  past_last last e = record {
    ranges = [];
    runs = tt;
    members = λ c.
        subst (λ n. false ≡ (s c && nat_le n c)) (sym e) (none_above c (s c) (only c));
  }

  -- a set of characters has its maximal runs
  pub set_has_runs : (ranges : List ClassRange) × AreRunsOf ranges s
  set_has_runs =
      let all = down_to 0x110000 0 0x110000 (omega arith) (past_last 0x110000 refl) in (
        all.ranges,
        record { runs = all.runs; members = λ c. all.members c ∙ all_above c (s c) },
      )
