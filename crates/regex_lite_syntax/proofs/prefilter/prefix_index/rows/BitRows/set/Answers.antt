use Rattle.regex_lite_syntax.proofs.Common.{◌≡◌, ◌+◌, ◌*◌, ◌/◌, ◌%◌, ◌^◌, ◌<◌, ◌&&◌, ◌||◌, length}
use Rattle.regex_lite_syntax.proofs.Common.{◌==◌, slice_index, slice_set, bit_or, sym, ◌∙◌, subst}
use Rattle.regex_lite_syntax.proofs.Common.{arith, bit_of_words}
use Rattle.std.proofs.lemmas.List.{get_or_default}
use Rattle.std.proofs.lemmas.Nat.{mul-add-lt}
use Rattle.regex_lite_syntax.proofs.prefilter.prefix_index.RowBitLemmas.{bit_is_set}
use Rattle.regex_lite_syntax.proofs.prefilter.prefix_index.rows.BitRows.set.Goals as goal

pub returns-clause-set : goal.returns-clause-set
returns-clause-set c r n lt =
    let rows = c.args.self.now in
    let w = rows.width in
    let number = c.args.number in
    let within = mul-add-lt c.args.row w (number / 64) 259 c.requires.row
    (omega (arith, c.requires.number)) in
    let inside : c.args.row * w + number / 64 < length rows.words.items =
    omega (arith, within, c.requires.all) in
    let value : slice_index rows.words.items (c.args.row * w + number / 64)
    ≡ c.index_mut.result.now =
    get_or_default rows.words.items (c.args.row * w + number / 64) 0 c.index_mut.result.now inside
    ∙ sym c.index_mut.ensures.value in
    subst (λ word. (bit_of_words (slice_set rows.words.items (c.args.row * w + number / 64)
    (bit_or word (1 * 2 ^ (number % 64) % 18446744073709551616))) (64 * (r * w) + n) == 1)
    ≡ ((bit_of_words rows.words.items (64 * (r * w) + n) == 1) || (n == number && r == c.args.row)))
    value
    (bit_is_set rows.words.items w c.args.row number inside c.requires.number r n lt)
