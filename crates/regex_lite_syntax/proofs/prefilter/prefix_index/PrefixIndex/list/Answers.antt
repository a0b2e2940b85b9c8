use Rattle.regex_lite_syntax.proofs.Common.{◌≡◌, ◌*◌, ◌++◌, length, Some, sym, refl, ap, ◌∙◌, arith}
use Rattle.regex_lite_syntax.proofs.Common.{range_with_len, may_start, set_from}
use Rattle.std.proofs.Common.{not}
use Rattle.std.specs.List.{filter}
use Rattle.regex_lite_syntax.proofs.prefilter.prefix_index.WalkLemmas.{all_words, fits_word}
use Rattle.regex_lite_syntax.proofs.prefilter.prefix_index.WalkLemmas.{none_listed}
use Rattle.regex_lite_syntax.proofs.prefilter.prefix_index.WalkLemmas.{none_starts_beyond}
use Rattle.regex_lite_syntax.proofs.prefilter.prefix_index.WalkLemmas.{word_more, word_tells}
use Rattle.regex_lite_syntax.proofs.prefilter.prefix_index.PrefixIndex.list.Goals as goal

pub add_set-requires-clause-room : goal.add_set-requires-clause-room
add_set-requires-clause-room c =
    let prefixes = c.args.self.now in
    let w = c.requires.walkable in
    let v = c.loop-k.invariant in
    let fits = fits_word (may_start prefixes c.args.before (Some c.args.first) c.args.second)
    prefixes.count prefixes.rows.width w.sized.enough
    (none_starts_beyond prefixes w c.args.before c.args.first c.args.second) c.loop-k.k
    (omega (arith, c.loop-k-test.true, c.width-k-end.ensures)) in
    let here = ap length (word_tells prefixes c.args.before c.args.first c.args.second c.loop-k.k
    c.word-word.result c.first_row-first.result c.row_after-second.result
    c.first_row-first.ensures.row c.row_after-second.ensures.row c.word-word.ensures) in
    let before = ap length v.listed in
    omega (arith, fits, here, before, v.capacity, c.requires.room)

pub loop-k-preserved : goal.loop-k-preserved
loop-k-preserved c =
    let prefixes = c.args.self.now in
    let k = c.loop-k.k in
    let w = c.requires.walkable in
    let v = c.loop-k.invariant in
    let test = may_start prefixes c.args.before (Some c.args.first) c.args.second in
    record {
      listed = c.add_set.ensures.added
          ∙ ap (λ z. z ++ set_from (64 * k) c.word-word.result) v.listed
          ∙ ap (λ z. filter test (range_with_len 0 (64 * k)) ++ z)
          (word_tells prefixes c.args.before c.args.first c.args.second k
          c.word-word.result c.first_row-first.result c.row_after-second.result
          c.first_row-first.ensures.row c.row_after-second.ensures.row c.word-word.ensures)
          ∙ sym (word_more test prefixes.count prefixes.rows.width w.sized.enough
          (none_starts_beyond prefixes w c.args.before c.args.first c.args.second) k
          (omega (arith, c.loop-k-test.true, c.width-k-end.ensures)));
      capacity = omega (arith, v.capacity, c.add_set.ensures.capacity);
      same = refl;
    }

pub returns-then-never_begins-clause-listed : goal.returns-then-never_begins-clause-listed
returns-then-never_begins-clause-listed c =
    c.clear.ensures.items
    ∙ sym (none_listed c.args.self.now c.requires.walkable c.args.before c.args.first c.args.second
    (ap not (sym c.is_some.ensures ∙ c.if-is_some.true))
    (c.never_begins.ensures c.if-never_begins.true))

pub returns-clause-listed : goal.returns-clause-listed
returns-clause-listed c =
    let prefixes = c.args.self.now in
    let w = c.requires.walkable in
    let test = may_start prefixes c.args.before (Some c.args.first) c.args.second in
    let end : c.loop-k.k ≡ prefixes.rows.width =
    omega (arith, c.loop-k-test.false, c.width-k-end.ensures, c.loop-k.auto.k-end) in
    c.loop-k.invariant.listed
    ∙ ap (λ k. filter test (range_with_len 0 (64 * k))) end
    ∙ all_words test prefixes.count prefixes.rows.width w.sized.enough
    (none_starts_beyond prefixes w c.args.before c.args.first c.args.second)
