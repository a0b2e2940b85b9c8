use Rattle.regex_lite_syntax.proofs.Common.{◌≡◌, ◌-◌, ◌*◌, Bool, true, false, ◌&&◌, ◌||◌, is_none}
use Rattle.regex_lite_syntax.proofs.Common.{bit_and, sym, refl, ap, ◌∙◌, start_row, has}
use Rattle.std.proofs.Common.{not}
use Rattle.regex_lite_syntax.proofs.prefilter.prefix_index.WalkLemmas.{bit_in_row, bit_of_both}
use Rattle.regex_lite_syntax.proofs.prefilter.prefix_index.WalkLemmas.{bit_of_either}
use Rattle.regex_lite_syntax.proofs.prefilter.prefix_index.PrefixIndex.word.Goals as goal

or_off : (a b : Bool) → (a || (false && b)) ≡ a
or_off true b = refl
or_off false b = refl

pub returns-then-is_none : goal.returns-then-is_none
returns-then-is_none c n low high =
    let rows = c.args.self.now.rows in
    let k = c.args.k in
    let i = n - 64 * k in
    let first = bit_in_row rows c.args.first k n c.word.result c.word.ensures low high in
    let second = bit_in_row rows c.args.second k n c.word-2.result c.word-2.ensures low high in
    let start = bit_in_row rows 258 k n
    c.word-then-is_none.result c.word-then-is_none.ensures low high in
    let none : is_none c.args.before ≡ true =
    ap not (c.is_none.ensures ∙ ap not c.if-is_none.true) in
    rw (
      bit_of_either (bit_and c.word.result c.word-2.result) c.word-then-is_none.result i,
      bit_of_both c.word.result c.word-2.result i,
      first,
      second,
      start,
      none,
    ) refl

pub returns : goal.returns
returns c n low high =
    let rows = c.args.self.now.rows in
    let k = c.args.k in
    let i = n - 64 * k in
    let first = bit_in_row rows c.args.first k n c.word.result c.word.ensures low high in
    let second = bit_in_row rows c.args.second k n c.word-2.result c.word-2.ensures low high in
    let some : is_none c.args.before ≡ false =
    ap not (c.is_none.ensures ∙ ap not c.if-is_none.false) in
    rw (bit_of_both c.word.result c.word-2.result i, first, second, some)
    (sym (or_off (has rows c.args.first n && has rows c.args.second n) (has rows start_row n)))
