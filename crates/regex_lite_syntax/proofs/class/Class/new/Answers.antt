use Rattle.regex_lite_syntax.proofs.Common.{◌≡◌, length, take, sym, ap, ◌∙◌, arith, rules}
use Rattle.regex_lite_syntax.proofs.Common.{in_ranges, ClassRange}
use Rattle.std.proofs.lemmas.List.{take_at}
use Rattle.std.proofs.lemmas.Fn.{always_returns_same}
use Rattle.std.proofs.lemmas.List.Sorted.{IsNonDecreasingBy-from_sort}
use Rattle.regex_lite_syntax.proofs.RangeLemmas.{in_ranges-permutation}
use Rattle.regex_lite_syntax.proofs.class.Class.new.Goals as goal

pub join_all-runs-requires : goal.join_all-runs-requires
join_all-runs-requires c =
    let start = λ (r : ClassRange). r.start in
    rw c.deref_mut.ensures.value (IsNonDecreasingBy-from_sort start _
    (c.sort_unstable_by_key.ensures.sorted start (search (rules, always_returns_same))))

pub returns : goal.returns
returns c =
    let joined = c.join_all-runs.new.ranges in
    let long : length joined ≡ c.sort_unstable_by_key.new.self.len =
    omega (arith, c.join_all-runs.auto.ranges, c.deref_mut.ensures.len) in
    let written = take_at joined _ _ long in
    let left =
    c.truncate.ensures.items ∙ ap (λ ranges. take c.join_all-runs.result ranges) written in
    record {
      runs = rw (c.of_runs.ensures, left) c.join_all-runs.ensures.runs;
      members = λ d.
          ap (λ ranges. in_ranges ranges d) (c.of_runs.ensures ∙ left)
          ∙ c.join_all-runs.ensures.members d
          ∙ ap (λ ranges. in_ranges ranges d) c.deref_mut.ensures.value
          ∙ sym (in_ranges-permutation _ _ d c.sort_unstable_by_key.ensures.permutation);
    }
