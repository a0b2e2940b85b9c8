use Rattle.regex_lite_syntax.proofs.Common.{◌≡◌, ℕ, ◌*◌, ◌<◌, true, ◌&&◌, ◌||◌, length, ◌==◌}
use Rattle.regex_lite_syntax.proofs.Common.{is_in_column, has}
use Rattle.regex_lite_syntax.proofs.prefilter.prefix_index.rows.BitRows.set_all.Given as goal

-- the rows of the characters before this one are done
abbrev pub invariant-loop-code : goal.invariant-loop-code
invariant-loop-code l = record {
  set : (r n : ℕ) → n < 64 * l.fn.self.width → has l.self r n ≡ (has l.fn.self r n
      || (n == l.fn.number && is_in_column (λ _. true) l.fn.base l.code r));
  width : l.self.width ≡ l.fn.self.width;
  all : length l.self.words.items ≡ length l.fn.self.words.items;
  base : l.base ≡ l.fn.base;
  number : l.number ≡ l.fn.number;
}
