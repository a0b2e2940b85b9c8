use Rattle.regex_lite_syntax.proofs.Common.{◌≡◌, ℕ, ◌&&◌, take, is_letter, in_ranges}
use Rattle.regex_lite_syntax.specs.Characters.{other_case}
use Rattle.regex_lite_syntax.proofs.class.letters.ascii_case_fold.Given as goal

abbrev pub invariant-loop-range : goal.invariant-loop-range
invariant-loop-range l =
    (c : ℕ) → in_ranges l.others.items c
    ≡ (is_letter c && in_ranges (take l.range-index l.range-items) (other_case c))
