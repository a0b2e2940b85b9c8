use Rattle.regex_lite_syntax.proofs.Common.{◌≡◌, ℕ, ◌<◌, ◌≤◌, true, false, slice_index_or, IsWider}
use Rattle.std.specs.Char.{is_ascii}
use Rattle.regex_lite_syntax.proofs.prefilter.first_set.FirstSet.add_range.Given as goal

abbrev pub invariant-loop-code : goal.invariant-loop-code
invariant-loop-code l = record {
  grown : IsWider l.fn.self l.self;
  any : l.self.any ≡ true;
  others : is_ascii l.fn.range.end ≡ false → l.self.others ≡ true;
  filled : (c : ℕ) → l.fn.range.start ≤ c → c < l.code → slice_index_or l.self.ascii c true ≡ true;
}
