-- Where a match with two known first characters can begin.
use Rattle.std.specs.Prelude.{ℕ, true, false, Some, map, nat_eq}
use Rattle.std.specs.List.{range_with_len}
use Rattle.regex_lite_syntax.specs.declared.prefilter.prefixes.PrefixSets.{PrefixSets}
use Rattle.regex_lite_syntax.specs.declared.prefilter.first_set.FirstSet.{FirstSet}

-- a match can begin only with the ASCII character of this code
abbrev pub just_starts : (code : ℕ) → FirstSet
just_starts code = record {
  any = true;
  ascii = map (λ c. nat_eq c code) (range_with_len 0 128);
  others = false;
  at_start = false;
}

-- a match begins with these two ASCII characters
abbrev pub sets_of_prefix : (first second : ℕ) → PrefixSets
sets_of_prefix first second = record {
  first = just_starts first;
  second = Some (just_starts second);
}
