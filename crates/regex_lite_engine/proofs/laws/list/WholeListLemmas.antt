-- The walks through a pattern whose loops read.
use Rattle.regex_lite_engine.proofs.Common.{ℕ, List, None, refl, Text, Tree, IsRegular, Address}
use Rattle.regex_lite_engine.proofs.Common.{step, Leads, whole, end_address, start_address}
use Rattle.regex_lite_engine.proofs.Common.{place_of_pattern, IsWayThrough, stop, preference_list}
use Rattle.regex_lite_engine.proofs.Common.{HasReadingLoops}
use Rattle.regex_lite_engine.proofs.laws.WrittenTreeLemmas.{whole_stands}
use Rattle.regex_lite_engine.proofs.laws.list.EntryLemmas.{onward_stops}
use Rattle.regex_lite_engine.proofs.laws.list.ListedLemmas.{Listed, as_listed, completed}
use Rattle.regex_lite_engine.proofs.laws.list.ListedTreeLemmas.{listed_tree, listed_group}
use Rattle.regex_lite_engine.proofs.laws.list.NoLoopLemmas.{none_twice}

module _ (tree : Tree) (haystack : Text) (regular : IsRegular tree)
    (reading : HasReadingLoops tree) where
  pub listed_whole : (i : ℕ) → Listed haystack (place_of_pattern tree) end_address start_address i
      (preference_list haystack (whole tree) i)
  listed_whole i =
      as_listed (onward_stops (preference_list haystack (whole tree) i))
      (listed_group 0 tree start_address end_address i stop
      (λ a b k on s f. listed_tree tree a b k on regular reading s f) None
      (whole_stands tree regular) (λ j m. completed refl refl refl))

  -- each walk through the pattern is a way
  pub walk_is_way : (i j : ℕ) (arrows : List ℕ)
      → Leads (Address × ℕ) (step haystack (place_of_pattern tree)) (start_address, i) arrows
      (end_address, j)
      → IsWayThrough tree haystack i arrows j
  walk_is_way i j arrows along =
      (along, none_twice haystack (place_of_pattern tree) end_address (listed_whole i) arrows)
