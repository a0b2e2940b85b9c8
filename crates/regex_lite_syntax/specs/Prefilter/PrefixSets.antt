-- With which two characters a match can begin.
use Rattle.std.specs.Prelude.{◌≡◌, ◌⊎◌, ◌+◌, ◌<◌, ℕ, suc, List, false}
use Rattle.std.specs.Prelude.{MatchOption, IfSome, length, slice_index}
use Rattle.regex_lite_syntax.specs.Text.{Text}
use Rattle.regex_lite_syntax.specs.Tree.{Tree}
use Rattle.regex_lite_syntax.specs.Tree.Matches.{Matches}
use Rattle.regex_lite_syntax.specs.declared.prefilter.prefixes.PrefixLen.{PrefixLen}
use Rattle.regex_lite_syntax.specs.declared.prefilter.prefixes.PrefixLen.TheVariants.{Nothing, One}
use Rattle.regex_lite_syntax.specs.declared.prefilter.prefixes.PrefixLen.TheVariants.{More}
use Rattle.regex_lite_syntax.specs.declared.prefilter.prefixes.PrefixSets.{PrefixSets}
use Rattle.regex_lite_syntax.specs.declared.prefilter.first_set.FirstSet.{FirstSet}
use Rattle.regex_lite_syntax.specs.Prefilter.FirstSet.{IsFirstSetOfTree, MayBegin, stops_at}

-- what is read between two positions. Nothing: they are the same. One: they are a character apart,
-- or one of these comes after the first character. More: one of these does. At the haystack's end
-- any may come
abbrev pub Reads : FirstSet → Text → (i j : ℕ) → PrefixLen → Type 0
Reads second haystack i j Nothing = i ≡ j
Reads second haystack i j One = (j ≡ suc i) ⊎ MayBegin second haystack (suc i)
Reads second haystack i j More = MayBegin second haystack (suc i)

-- each match of the tree reads this
abbrev pub ReadsEach : Tree → FirstSet → PrefixLen → Type 0
ReadsEach tree second head =
    (haystack : Text) (i j : ℕ) → Matches haystack tree i j → Reads second haystack i j head

-- where the tree matches, one of these comes after the first character, or nothing
abbrev pub AreSecondOfTree : Tree → FirstSet → Type 0
AreSecondOfTree tree second =
    (haystack : Text) (i j : ℕ) → Matches haystack tree i j → MayBegin second haystack (suc i)

pub record ArePrefixSetsOfTree (tree : Tree) (prefixes : PrefixSets) : Type 0 where
  pub first : IsFirstSetOfTree tree prefixes.first
  pub second : IfSome prefixes.second (AreSecondOfTree tree)

-- none can begin at the position, judging by the character there or by the one after it
abbrev pub NeverBegins : PrefixSets → Text → ℕ → Type 0
NeverBegins prefixes haystack i =
    (¬ (MayBegin prefixes.first haystack i))
    ⊎ MatchOption prefixes.second ⊥ (λ second. ¬ (MayBegin second haystack (suc i)))

-- after the ASCII character at this offset stands a byte with which no second one begins
abbrev pub IsCutOff : PrefixSets → (bytes : List ℕ) → (at : ℕ) → Type 0
IsCutOff prefixes bytes at =
    MatchOption prefixes.second ⊥ (λ second. (at + 1 < length bytes) × (slice_index bytes at < 128)
    × (stops_at second (slice_index bytes (at + 1)) ≡ false))

-- the byte at this offset, or the one after it, shows that none begins with the character there. At
-- the haystack's start one may begin all the same
abbrev pub IsPassed : PrefixSets → (bytes : List ℕ) → (at : ℕ) → Type 0
IsPassed prefixes bytes at =
    (stops_at prefixes.first (slice_index bytes at) ≡ false) ⊎ IsCutOff prefixes bytes at
