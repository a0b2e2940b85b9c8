use Rattle.regex_lite_syntax.proofs.Common.{◌≡◌, ℕ, ◌-◌, ◌≤◌, ◌||◌, List, [], ◌++◌, length, drop}
use Rattle.regex_lite_syntax.proofs.Common.{ClassItems, EndsGap, in_ranges, Completable, Set, union}
use Rattle.regex_lite_syntax.proofs.Common.{Text}
use Rattle.regex_lite_syntax.proofs.parse.bracket.CompletedClassLemmas.{ClassTo}
use Rattle.regex_lite_syntax.proofs.parse.bracket.read_items.Given as goal

abbrev pub invariant-items : goal.invariant-items
invariant-items l = record {
  inside : (l.at ≤ l.end) × (l.end ≤ length l.chars);
  past_gap : EndsGap l.verbose (drop l.end l.chars);
  -- the sets of the items so far
  sets : List Set;
  holds : (c : ℕ)
      → in_ranges l.ranges.items c ≡ (in_ranges l.initial.ranges.items c || union sets c);
  -- items from here on are items from the start on, and the other way round, and in a longer text
  -- too, unless the text ends here
  goes : (more : Text) → (drop l.end l.chars ≡ [] → more ≡ []) → (all : List Set) (rest : Text)
      → ClassItems l.verbose all (drop l.end l.chars ++ more) rest
      → ClassItems l.verbose (sets ++ all) (drop l.at l.chars ++ more) rest;
  back : (more : Text) → (drop l.end l.chars ≡ [] → more ≡ []) → (all : List Set) (rest : Text)
      → ClassItems l.verbose all (drop l.at l.chars ++ more) rest
      → (sets : List Set) × ClassItems l.verbose sets (drop l.end l.chars ++ more) rest;
  -- where it ends here, more of the pattern completes the items
  closes : drop l.end l.chars ≡ [] → Completable (ClassTo l.verbose) (drop l.at l.chars);
}

abbrev pub decreases-items : goal.decreases-items
decreases-items l = length l.chars - l.end
