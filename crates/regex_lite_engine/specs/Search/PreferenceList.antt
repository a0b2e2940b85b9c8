-- The matches of a tree from a position in the order of preference, by cases on the tree: the end
-- and the marks of each. It is defined for trees in which each pass of a repetition without a limit
-- reads a character.
use Rattle.std.specs.Prelude.{◌≡◌, ℕ, zero, suc, ◌+◌, ◌-◌, ◌*◌, Bool, false, List, []}
use Rattle.std.specs.Prelude.{◌∷◌, ◌++◌, map, length, Option, Some, None, if◌then◌else◌}
use Rattle.regex_lite_syntax.specs.Text.{Text, before, after}
use Rattle.regex_lite_syntax.specs.Ranges.{in_ranges}
use Rattle.regex_lite_syntax.specs.Sets.{Set, just}
use Rattle.regex_lite_syntax.specs.Tree.{Tree, Trees, empty, character, class, look}
use Rattle.regex_lite_syntax.specs.Tree.{repetition, capture, concat, alternation, none, more}
use Rattle.regex_lite_syntax.specs.Tree.Looks.{holds_between}
use Rattle.regex_lite_syntax.specs.Tree.Properties.{nullable}
use Rattle.regex_lite_engine.specs.Search.Marks.{Marks, no_marks, marked, over}

-- the end of a match, and its marks
abbrev pub Entry : Type 0
Entry = ℕ × Marks

-- the entry, with its marks over these
abbrev pub after_marks : Marks → Entry → Entry
after_marks marks entry = (entry.0, over entry.1 marks)

-- the entries that continue from the end of each entry, in order
abbrev pub onward : List Entry → (next : ℕ → List Entry) → List Entry
onward [] next = []
onward (entry ∷ list) next = map (after_marks entry.1) (next entry.0) ++ onward list next

-- the empty match at position i, and the empty match that marks a slot
abbrev pub stop : ℕ → List Entry
stop i = (i, no_marks) ∷ []

abbrev pub marking : (slot : ℕ) → ℕ → List Entry
marking slot i = (i, marked (Some slot) i) ∷ []

-- a character of the set, if it comes next
abbrev pub read : Set → ℕ → (next : Option ℕ) → List Entry
read set i None = []
read set i (Some c) = if set c then stop (suc i) else []

-- this many passes, followed by `next`
abbrev pub passes : (n : ℕ) → (body next : ℕ → List Entry) → ℕ → List Entry
passes zero body next i = next i
passes (suc n) body next i = onward (body i) (passes n body next)

-- at most this many passes; a greedy repetition prefers another pass to stopping, a lazy one
-- stopping to another pass
abbrev pub up_to : (n : ℕ) → (greedy : Bool) → (body : ℕ → List Entry) → ℕ → List Entry
up_to zero greedy body i = stop i
up_to (suc n) greedy body i =
    if greedy then onward (body i) (up_to n greedy body) ++ stop i
    else stop i ++ onward (body i) (up_to n greedy body)

-- the passes beyond the least number; if there is no limit, each reads a character, so there are at
-- most as many as characters left
abbrev pub further : Text → (least : ℕ) → (most : Option ℕ) → (greedy : Bool)
    → (body : ℕ → List Entry) → ℕ → List Entry
further haystack least None greedy body i = up_to (length haystack - i) greedy body i
further haystack least (Some most) greedy body i = up_to (most - least) greedy body i

module _ (haystack : Text) where
  abbrev mutual
    pub preference_list : Tree → ℕ → List Entry
    preference_list empty i = stop i
    preference_list (character c) i = read (just c) i (after haystack i)
    preference_list (class ranges) i = read (in_ranges ranges) i (after haystack i)
    preference_list (look test) i =
        if holds_between test (before haystack i) (after haystack i) then stop i else []
    preference_list (repetition least most greedy body) i =
        passes least (preference_list body)
        (further haystack least most greedy (preference_list body)) i
    preference_list (capture index name body) i =
        onward (marking (2 * index) i)
        (λ j. onward (preference_list body j) (marking (2 * index + 1)))
    preference_list (concat parts) i = list_of_chain parts i
    preference_list (alternation branches) i = list_of_branches branches i

    pub list_of_chain : Trees → ℕ → List Entry
    list_of_chain none i = stop i
    list_of_chain (more a rest) i = onward (preference_list a i) (list_of_chain rest)

    pub list_of_branches : Trees → ℕ → List Entry
    list_of_branches none i = []
    list_of_branches (more a rest) i = preference_list a i ++ list_of_branches rest i

-- a repetition without a limit has a body that is not nullable, so that each pass reads
abbrev pub ReadsInPasses : (most : Option ℕ) → (body : Tree) → Type 0
ReadsInPasses None body = nullable body ≡ false
ReadsInPasses (Some most) body = Unit {0}

abbrev mutual
  -- each repetition without a limit has such a body
  pub HasReadingLoops : Tree → Type 0
  HasReadingLoops (repetition least most greedy body) =
      ReadsInPasses most body × HasReadingLoops body
  HasReadingLoops (capture index name body) = HasReadingLoops body
  HasReadingLoops (concat parts) = HaveReadingLoops parts
  HasReadingLoops (alternation branches) = HaveReadingLoops branches
  HasReadingLoops empty = Unit {0}
  HasReadingLoops (character c) = Unit {0}
  HasReadingLoops (class ranges) = Unit {0}
  HasReadingLoops (look test) = Unit {0}

  pub HaveReadingLoops : Trees → Type 0
  HaveReadingLoops none = Unit {0}
  HaveReadingLoops (more a rest) = HasReadingLoops a × HaveReadingLoops rest
