use Rattle.regex_lite.proofs.Common.{◌≡◌, string_bytes, unwrap_or, ahead, most_ahead}
use Rattle.regex_lite.proofs.AnsweredLemmas.{IsBegun}
use Rattle.regex_lite.proofs.ReplacementLemmas.{ContinuesInTurn, Counts}
use Rattle.regex_lite.proofs.string.regex.Regex.replace_each.Given as goal

abbrev pub invariant-items : goal.invariant-items
invariant-items g l = record {
  can_append : g.R.Replacer.can_append l.rep;
  so_far : ContinuesInTurn g.R.Replacer.fixed g.R.Replacer.appends l.initial.rep
      (ahead l.initial.scan) (ahead l.scan) l.rep (unwrap_or l.rewrite.ended 0)
      (string_bytes l.rewrite.text);
  counts : Counts (ahead l.initial.scan) (ahead l.scan) l.rewrite.replaced;
  begun : IsBegun (ahead l.initial.scan) (ahead l.scan)
      (string_bytes l.rewrite.text) l.rewrite.ended;
  regex : l.scan.finder.regex ≡ l.initial.scan.finder.regex;
  haystack : l.scan.haystack ≡ l.initial.scan.haystack;
  ended : l.rewrite.ended ≡ l.scan.ended;
  same : l.rewrite.haystack ≡ l.initial.rewrite.haystack;
}

abbrev pub decreases-items : goal.decreases-items
decreases-items g l = most_ahead l.scan
