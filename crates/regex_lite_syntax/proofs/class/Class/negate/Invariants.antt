use Rattle.regex_lite_syntax.proofs.Common.{◌≡◌, ℕ, ◌<◌, ◌≤◌, ◌&&◌, take, drop, IsTrue, nat_lt, All}
use Rattle.regex_lite_syntax.proofs.Common.{start_of, in_ranges, AreRuns, complement}
use Rattle.regex_lite_syntax.proofs.class.Class.negate.Given as goal

abbrev pub invariant-loop-range : goal.invariant-loop-range
invariant-loop-range l =
    let start = start_of l.start in
    let seen = take l.range-index l.range-items in
    record {
      before : (c : ℕ) → IsTrue (in_ranges seen c) → c < start;
      after : AreRuns start (drop l.range-index l.range-items);
      runs : AreRuns 0 l.gaps.items;
      in_order : All (λ gap. gap.start ≤ start) l.gaps.items;
      members : (c : ℕ)
          → in_ranges l.gaps.items c ≡ (nat_lt c start && complement (in_ranges seen) c);
    }
