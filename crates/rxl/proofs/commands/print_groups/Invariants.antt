use Rattle.std.proofs.Common.{◌≡◌, ◌++◌, ℕ, List}
use Rattle.rxl.specs.Output.{Puts}
use Rattle.rxl.specs.Printed.{groups_line}
use Rattle.rxl.proofs.GroupLineLemmas.{separated, spans_left}
use denote.Shadow.{shadow}
use denote.Text.{Utf8}
use Rattle.rxl.proofs.commands.print_groups.Given as goal

abbrev pub invariant-loop-group : goal.invariant-loop-group
invariant-loop-group g l = record {
  can : (goal.iterator-loop-group g).can_next l.group-iterator;
  finite : (goal.iterator-loop-group g).is_finite l.group-iterator;
  text : shadow (Utf8 l.separator);
  printed : List ℕ;
  puts : Puts l.fn.output (g.W.Write.contents l.fn.out) l.output (g.W.Write.contents l.out) printed;
  on : printed ++ separated l.separator (spans_left l.group-iterator) ≡ groups_line l.fn.caps.spans;
}
