use Rattle.regex_lite.proofs.Common.{◌≡◌, string_bytes, unwrap_or, ahead_of}
use Rattle.regex_lite.specs.Ahead.{whole}
use Rattle.regex_lite.proofs.AnsweredLemmas.{IsBegun}
use Rattle.regex_lite.proofs.ReplacementLemmas.{Continues, Counts}
use Rattle.regex_lite.proofs.string.regex.Regex.replace_by.Given as goal

abbrev pub invariant-loop-found : goal.invariant-loop-found
invariant-loop-found l = record {
  can : (goal.iterator-loop-found).can_next l.found-iterator;
  finite : (goal.iterator-loop-found).is_finite l.found-iterator;
  so_far : Continues l.text (whole l.self l.haystack l.fn.limit) (ahead_of l.found-iterator)
      (unwrap_or l.rewrite.ended 0) (string_bytes l.rewrite.text);
  counts : Counts (whole l.self l.haystack l.fn.limit) (ahead_of l.found-iterator)
      l.rewrite.replaced;
  begun : IsBegun (whole l.self l.haystack l.fn.limit) (ahead_of l.found-iterator)
      (string_bytes l.rewrite.text) l.rewrite.ended;
  haystack : l.found-iterator.haystack ≡ l.haystack;
  ended : l.rewrite.ended ≡ l.found-iterator.ended;
  same : l.rewrite.haystack ≡ l.initial.rewrite.haystack;
}
