use Rattle.regex_lite_syntax.proofs.Common.{◌≡◌, ℕ, ◌-◌, ◌*◌, ◌<◌, ◌≤◌, ◌&&◌, ◌||◌, length, ◌==◌}
use Rattle.regex_lite_syntax.proofs.Common.{is_in_column, has, begins_with}
use Rattle.regex_lite_syntax.proofs.prefilter.prefix_index.rows.BitRows.set_each.Given as goal

-- the rows of the characters before this one are done
abbrev pub invariant-codes : goal.invariant-codes
invariant-codes l = record {
  set : (r n : ℕ) → n < 64 * l.fn.self.width → has l.self r n ≡ (has l.fn.self r n
      || (n == l.fn.number && is_in_column (begins_with l.fn.starts) l.fn.base l.code r));
  within : l.code ≤ 129;
  width : l.self.width ≡ l.fn.self.width;
  all : length l.self.words.items ≡ length l.fn.self.words.items;
  base : l.base ≡ l.fn.base;
  number : l.number ≡ l.fn.number;
  starts : l.starts ≡ l.fn.starts;
}

abbrev pub decreases-codes : goal.decreases-codes
decreases-codes l = 129 - l.code
