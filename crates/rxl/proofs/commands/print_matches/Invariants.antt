use Rattle.std.proofs.Common.{◌≡◌, ℕ, List, None}
use Rattle.regex_lite.specs.Ahead.{ahead_of, whole}
use Rattle.rxl.specs.Output.{Puts}
use Rattle.rxl.proofs.ListLemmas.{LeadsOn}
use Rattle.rxl.proofs.commands.print_matches.Given as goal

abbrev pub invariant-loop-found : goal.invariant-loop-found
invariant-loop-found g l = record {
  can : (goal.iterator-loop-found g).can_next l.found-iterator;
  finite : (goal.iterator-loop-found g).is_finite l.found-iterator;
  printed : List ℕ;
  puts : Puts l.fn.output (g.W.Write.contents l.fn.out) l.output (g.W.Write.contents l.out) printed;
  so_far : LeadsOn (whole l.regex l.haystack None) (ahead_of l.found-iterator) l.has_match printed;
  haystack : l.found-iterator.haystack ≡ l.haystack;
}
