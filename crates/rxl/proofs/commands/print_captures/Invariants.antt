use Rattle.std.proofs.Common.{◌≡◌, ℕ, List, None}
use Rattle.regex_lite.specs.Ahead.{ahead_of, whole}
use Rattle.rxl.specs.Output.{Puts}
use Rattle.rxl.proofs.ListLemmas.{GroupsLeadOn}
use Rattle.rxl.proofs.commands.print_captures.Given as goal

abbrev pub invariant-loop-item : goal.invariant-loop-item
invariant-loop-item g l = record {
  can : (goal.iterator-loop-item g).can_next l.item-iterator;
  finite : (goal.iterator-loop-item g).is_finite l.item-iterator;
  printed : List ℕ;
  puts : Puts l.fn.output (g.W.Write.contents l.fn.out) l.output (g.W.Write.contents l.out) printed;
  so_far : GroupsLeadOn (whole l.regex l.haystack None)
      (ahead_of l.item-iterator) l.has_match printed;
  regex : (ahead_of l.item-iterator).sought ≡ l.regex;
  haystack : l.item-iterator.haystack ≡ l.haystack;
}
