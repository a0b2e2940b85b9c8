use Rattle.regex_lite_meta.proofs.Common.{◌≡◌, ◌+◌, ◌<◌, slice_index, sym, ap, ◌∙◌, subst, arith}
use Rattle.regex_lite_meta.proofs.Common.{Intervals, interval_of}
use Rattle.std.proofs.lemmas.Str.{len_utf8_ascii}
use Rattle.regex_lite_meta.proofs.lazy_dfa.AheadLemmas.{ascii_begins}
use Rattle.regex_lite_meta.proofs.lazy_dfa.classes.Classes.ahead.Goals as goal

pub returns-clause-ahead : goal.returns-clause-ahead
returns-clause-ahead c =
    let bs = c.args.haystack.now in
    let at = c.args.at in
    let read = slice_index c.as_bytes-bytes.result.now at in
    let byte = slice_index bs at in
    let same : read ≡ byte = ap (λ z. slice_index z at) c.as_bytes-bytes.ensures.value in
    let ascii : byte < 128 = subst (λ z. z < 128) same c.if-byte-ge128.false in
    record {
      inside = omega arith;
      character = byte;
      begins = ascii_begins bs at c.utf8.haystack c.requires.boundary (omega arith) ascii;
      ends = ap (λ z. at + z) (sym (len_utf8_ascii byte ascii));
      is_class = ap (λ (z : Intervals). interval_of z.boundaries byte) (sym c.self.view_is)
          ∙ ap (interval_of c.self.inside.boundaries.boundaries) (sym same)
          ∙ sym (c.self.invariant.1 read c.if-byte-ge128.false);
    }
