use Rattle.std.proofs.Common.{◌≡◌, ◌++◌, ℕ, List}
use Rattle.std.specs.Io.KnownBytes.{Appends}
use Rattle.rxl.proofs.output.write_all.Given as goal

abbrev pub invariant-loop : goal.invariant-loop
invariant-loop g l = record {
  written : List ℕ;
  appended : Appends (g.W.Write.contents l.initial.out) (g.W.Write.contents l.out) written;
  parts : l.bytes ≡ written ++ l.rest;
}
