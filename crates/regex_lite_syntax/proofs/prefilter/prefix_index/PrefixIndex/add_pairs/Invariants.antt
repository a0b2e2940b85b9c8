use Rattle.regex_lite_syntax.proofs.Common.{◌≡◌, ℕ, ◌-◌, ◌<◌, ◌&&◌, ◌||◌, length, nat_lt, in_set}
use Rattle.regex_lite_syntax.proofs.Common.{has_pair, begins_with_pair, goes_on_with}
use Rattle.regex_lite_syntax.proofs.prefilter.prefix_index.PrefixIndex.add_pairs.Given as goal

-- those with a first character below this one are added
abbrev pub invariant-firsts : goal.invariant-firsts
invariant-firsts l = record {
  each : (a b : ℕ) → a < 128 → b < 128 → has_pair l.self a b
      ≡ (has_pair l.fn.self a b || (nat_lt a l.first && begins_with_pair a b l.prefixes));
  all : length l.self.pairs.items ≡ length l.fn.self.pairs.items;
  same : l.self ≡ record l.fn.self { pairs = l.self.pairs };
  prefixes : l.prefixes ≡ l.fn.prefixes;
  second : (code : ℕ) → code < 128 → in_set l.second code ≡ goes_on_with l.prefixes.second code;
}

abbrev pub decreases-firsts : goal.decreases-firsts
decreases-firsts l = 128 - l.first
