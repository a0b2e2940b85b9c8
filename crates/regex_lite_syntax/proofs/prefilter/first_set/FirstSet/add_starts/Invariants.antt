use Rattle.regex_lite_syntax.proofs.Common.{◌≡◌, ℕ, ◌<◌, ◌≤◌, true, ◌||◌, slice_index_or}
use Rattle.regex_lite_syntax.proofs.Common.{begins_with}
use Rattle.regex_lite_syntax.proofs.prefilter.first_set.FirstSet.add_starts.Given as goal

abbrev pub invariant-loop-code : goal.invariant-loop-code
invariant-loop-code l = record {
  any : l.self.any ≡ l.fn.self.any;
  others : l.self.others ≡ l.fn.self.others;
  at_start : l.self.at_start ≡ l.fn.self.at_start;
  other : l.other ≡ l.fn.other;
  done : (c : ℕ) → c < l.code → slice_index_or l.self.ascii c true
      ≡ (begins_with l.fn.self c || begins_with l.fn.other c);
  kept : (c : ℕ) → l.code ≤ c → slice_index_or l.self.ascii c true
      ≡ slice_index_or l.fn.self.ascii c true;
}
