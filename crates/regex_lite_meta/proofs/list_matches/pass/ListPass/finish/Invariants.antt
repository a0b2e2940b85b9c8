use Rattle.regex_lite_meta.proofs.Common.{◌≡◌, ℕ, ◌<◌, ◌≤◌, length, slice_index, slice_index_or}
use Rattle.regex_lite_meta.proofs.Common.{false}
use Rattle.regex_lite_meta.proofs.Common.{table_of_list}
use Rattle.regex_lite_meta.specs.ListMatches.{AreKeptFor, NeedsNoMemory}
use Rattle.regex_lite_meta.specs.ListPass.{EndsPass, IsReportedFrom}
use Rattle.regex_lite_meta.proofs.list_matches.pass.ListPass.finish.Given as goal

abbrev pub invariant-loop-number : goal.invariant-loop-number
invariant-loop-number l = record {
  within : l.number ≤ length l.list.entries;
  all : length l.matched ≡ length l.fn.matched;
  kept : AreKeptFor l.list l.kept;
  ready : NeedsNoMemory l.fn.kept → NeedsNoMemory l.kept;
  reported : (s : ℕ) → EndsPass l.list l.haystack s l.self.statuses.items l.left
      → (k : ℕ) → k < l.number → IsReportedFrom (table_of_list l.list) l.haystack
      (slice_index l.list.entries k) s (slice_index_or l.matched k false);
}
