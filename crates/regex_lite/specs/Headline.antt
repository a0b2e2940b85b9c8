-- The whole promise of the library on one page: for a pattern that is built and searched for, from
-- its characters to the groups of its match and the cost of the search. The other files define the
-- words. A place is an NFA state, an arrow a transition.
use Rattle.std.specs.Prelude.{◌≡◌, ◌⊎◌, ℕ, List, Option, Result, IfOk, IfErr, map}
use Rattle.regex_lite_syntax.specs.declared.error.Error.{Error}
use Rattle.regex_lite_syntax.specs.Errors.{out_of_memory}
use Rattle.regex_lite_engine.specs.declared.steps.Steps.{Steps}
use Rattle.regex_lite.specs.Expression.{IsAccepted, IsDue, expression_of}
use Rattle.regex_lite.specs.Groups.{Groups}
use Rattle.regex_lite.specs.RegexList.{AreAccepted, IsDueToAll, IsDueToLowest}
use Rattle.regex_lite.specs.RegexListSearches.{IsWithinListCost, TellsGroupsOfList}
use Rattle.regex_lite.specs.Searches.{IsWithinCost, TellsGroups}
use Rattle.regex_lite.specs.Settings.{Settings}

-- the promise for a pattern that is built under these settings and searched for in the haystack
-- from this offset on
pub record Headline (settings : Settings) (haystack : List ℕ) (start : ℕ)
    (result : Result (Option Groups × Steps) Error) : Type 0 where
  -- unless memory runs out, the pattern is accepted exactly if the grammar gives it a tree and no
  -- limit is exceeded
  pub accepted : IfOk result (λ _. IsAccepted settings)
  pub complete : IfErr result (λ error. IsAccepted settings → error ≡ out_of_memory)
  -- what an error says is true
  pub refused : IfErr result (λ error. IsDue settings error)
  -- the answer is the least start from which the tree matches, with the end and the groups of the
  -- most preferred way from there that visits no place twice at one position, or there is no match
  pub answer : IfOk result
      (λ reported. TellsGroups (expression_of settings) haystack start reported.0)
  -- the search tried at most (arrows + 1) × (characters left + 1) places, entered no more than it
  -- tried, and looked at most twice as often
  pub cost : IfOk result
      (λ reported. IsWithinCost (expression_of settings) haystack start reported.1)

-- the promise for several patterns that are searched for at once, each under its own settings
pub record ListHeadline (all : List Settings) (haystack : List ℕ) (start : ℕ)
    (result : Result (Option (ℕ × Groups) × Steps) Error) : Type 0 where
  -- unless memory runs out, the patterns are accepted exactly if each is by itself and their places
  -- together are fewer than 2^32
  pub accepted : IfOk result (λ _. AreAccepted all)
  pub complete : IfErr result (λ error. AreAccepted all → error ≡ out_of_memory)
  -- what an error says is true of the lowest pattern that is rejected, or if none is, of all
  -- together
  pub refused : IfErr result (λ error.
      (error ≡ out_of_memory) ⊎ (IsDueToLowest all error ⊎ IsDueToAll all error))
  -- the answer begins where the first match of any pattern does, and is that of the pattern with
  -- the lowest number that matches from there, with its own groups; or there is no match
  pub answer : IfOk result
      (λ reported. TellsGroupsOfList (map expression_of all) haystack start reported.0)
  -- the search tried at most (arrows + patterns) × (characters left + 1) places
  pub cost : IfOk result
      (λ reported. IsWithinListCost (map expression_of all) haystack start reported.1)
