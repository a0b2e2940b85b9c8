-- What the filter of one pattern says about where matches can begin, for the filter that searches
-- take and the one that a list keeps.
use Rattle.std.specs.Prelude.{ℕ, None, false}
use Rattle.regex_lite_syntax.specs.Prefilter.StartFacts.{StartFacts}
use Rattle.regex_lite_engine.specs.declared.search.own_filter.OwnFilter.{OwnFilter}
use Rattle.regex_lite_engine.specs.declared.search.own_filter.OwnFilter.TheVariants as own
use Rattle.regex_lite_engine.specs.declared.search.pattern_filter.PatternFilter.{PatternFilter}
use Rattle.regex_lite_engine.specs.declared.search.pattern_filter.PatternFilter.TheVariants.{
  Literal,
  Whole,
}
use Rattle.regex_lite_engine.specs.Search.Prefixes.{sets_of_prefix}

-- each match begins with these two characters
abbrev pub prefix_facts : (first second : ℕ) → StartFacts
prefix_facts first second = record {
  prefixes = sets_of_prefix first second;
  words = None;
  are_all = false;
  needed = None;
}

-- the facts that the filter of a search states
abbrev pub facts_of : PatternFilter → StartFacts
facts_of (Literal prefix) = prefix_facts prefix.first prefix.second
facts_of (Whole filter) = filter.now

-- the facts that the filter of a list's pattern states
abbrev pub own_facts_of : OwnFilter → StartFacts
own_facts_of (own.Literal prefix) = prefix_facts prefix.first prefix.second
own_facts_of (own.Whole filter) = filter.value
