use Rattle.regex_lite_syntax.proofs.Common.{◌≡◌, ℕ, ◌<◌, ◌≤◌, length, take, drop, All, in_ranges}
use Rattle.regex_lite_syntax.proofs.Common.{AreRuns, ClassRange}
use Rattle.std.proofs.Common.{slice_index_or}
use Rattle.regex_lite_syntax.proofs.class.runs.join_all.Given as goal

abbrev pub invariant-loop-at : goal.invariant-loop-at
invariant-loop-at l =
    let sorted = l.initial.ranges in
    record {
      inside : l.runs ≤ l.at;
      runs : AreRuns 0 (take l.runs l.ranges);
      -- no run starts after a range that is to come
      in_order : (k : ℕ) (d : ClassRange) → l.at ≤ k → k < length sorted
          → All (λ run. run.start ≤ (slice_index_or sorted k d).start) (take l.runs l.ranges);
      members : (c : ℕ) → in_ranges (take l.runs l.ranges) c ≡ in_ranges (take l.at sorted) c;
      rest : drop l.at l.ranges ≡ drop l.at sorted;
    }
