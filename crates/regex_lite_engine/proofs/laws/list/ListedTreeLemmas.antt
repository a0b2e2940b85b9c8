-- What is listed where a tree stands: its own list, and what follows each of its ends.
use Rattle.regex_lite_engine.proofs.Common.{◌≡◌, ℕ, ◌+◌, ◌*◌, List, [], ◌∷◌, ◌++◌, map, Some, None}
use Rattle.regex_lite_engine.proofs.Common.{Option, sym, refl, ap, ◌∙◌, subst, inl, inr, append-nil}
use Rattle.regex_lite_engine.proofs.Common.{in_ranges, just, Text, after, Tree, empty, character}
use Rattle.regex_lite_engine.proofs.Common.{class, look, repetition, capture, concat, alternation}
use Rattle.regex_lite_engine.proofs.Common.{Trees, none, more, holds_between, Matches, Chain}
use Rattle.regex_lite_engine.proofs.Common.{SomeBranch, nullable, IsRegular, ClassRange, go, one_of}
use Rattle.regex_lite_engine.proofs.Common.{marked, Entry, after_marks, onward, preference_list}
use Rattle.regex_lite_engine.proofs.Common.{HasReadingLoops}
use Rattle.std.proofs.lemmas.Bool.{eqb-true}
use Rattle.regex_lite_syntax.specs.Text.{before}
use Rattle.regex_lite_syntax.specs.Tree.Regular.{AreRegular}
use Rattle.regex_lite_engine.specs.Graph.Places.{Place}
use Rattle.regex_lite_engine.proofs.laws.IsHereLemmas.{Stands, StandInChain, StandAsBranches}
use Rattle.regex_lite_engine.specs.Search.PreferenceList.{read, marking, list_of_chain}
use Rattle.regex_lite_engine.specs.Search.PreferenceList.{list_of_branches, ReadsInPasses}
use Rattle.regex_lite_engine.specs.Search.PreferenceList.{HaveReadingLoops}
use Rattle.regex_lite_engine.proofs.laws.list.EntryLemmas.{onward_append, onward_assoc, onward_stop}
use Rattle.regex_lite_engine.proofs.laws.list.ReadingLemmas.{reads}
use Rattle.regex_lite_engine.proofs.laws.list.ListedLemmas.{Listed, branching, ListedBy, over_all}
use Rattle.regex_lite_engine.proofs.laws.list.ListedLemmas.{fitting, as_listed, by_go, by_mark}
use Rattle.regex_lite_engine.proofs.laws.list.ListedLemmas.{by_reading, by_look, unmarked}
use Rattle.regex_lite_engine.proofs.laws.list.ListedPassLemmas.{LoopReads, in_repetition}
use Rattle.regex_lite_engine.proofs.laws.WalkLemmas.{if_test, was_read}

none_read : (i : ℕ) (next : Option ℕ) → read (in_ranges []) i next ≡ []
none_read i None = refl
none_read i (Some c) = refl

-- where the list goes on after a mark
after_marking : (slot i : ℕ) (next on : ℕ → List Entry)
    → map (after_marks (marked (Some slot) i)) (onward (next i) on)
    ≡ onward (onward (marking slot i) next) on
after_marking slot i next on =
    let first = onward_assoc (marking slot i) next on in
    sym (first ∙ append-nil (map (after_marks (marked (Some slot) i)) (onward (next i) on)))

loop_reads : (haystack : Text) (most : Option ℕ) (body : Tree) → ReadsInPasses most body
    → LoopReads haystack (Matches haystack body) most (nullable body)
loop_reads haystack None body e = (e, λ i j m. reads haystack body i j e m)
loop_reads haystack (Some most) body e = tt

module _ {A : Type 0} {haystack : Text} {place : A → Place A} {end : A} where
  listed_class : (ranges : List ClassRange) (enter exit : A) (i : ℕ) (next : ℕ → List Entry)
      → place enter ≡ one_of ranges exit
      → ((j : ℕ) → Matches haystack (class ranges) i j → Listed haystack place end exit j (next j))
      → Listed haystack place end enter i (onward (preference_list haystack (class ranges) i) next)
  listed_class [] enter exit i next stands follows =
      let none = ap (λ list. onward list next) (none_read i (after haystack i)) in
      branching [] stands (over_all none)
  listed_class (range ∷ rest) enter exit i next stands follows =
      let set = in_ranges (range ∷ rest) in
      by_reading set exit next stands
      (λ j fits. follows j (was_read set i j (after haystack i) fits))

  -- a group of any index
  pub listed_group : (index : ℕ) (body : Tree) (enter exit : A) (i : ℕ) (next : ℕ → List Entry)
      → ((a b : A) (k : ℕ) (on : ℕ → List Entry) → Stands place body a b
      → ((j : ℕ) → Matches haystack body k j → Listed haystack place end b j (on j))
      → Listed haystack place end a k (onward (preference_list haystack body k) on))
      → (name : Option Text) → Stands place (capture index name body) enter exit
      → ((j : ℕ) → Matches haystack body i j → Listed haystack place end exit j (next j))
      → Listed haystack place end enter i
      (onward (preference_list haystack (capture index name body) i) next)
  listed_group index body enter exit i next inside name (first, close, opened, stands, closed)
      follows =
      let last = 2 * index + 1 in
      let on = λ (j : ℕ). map (after_marks (marked (Some last) j)) (next j) in
      let marks_last : (j : ℕ) → on j ≡ onward (marking last j) next
      = λ j. sym (append-nil (on j)) in
      let listed = inside first close i on stands (λ j m. by_mark last closed (follows j m)) in
      let body_ends = preference_list haystack body in
      let together = ap (onward (body_ends i)) (λ t j. marks_last j t)
      ∙ sym (onward_assoc (body_ends i) (marking last) next) in
      let all = by_mark (2 * index) opened (as_listed together listed) in
      as_listed (after_marking (2 * index) i (λ j. onward (body_ends j) (marking last)) next) all

  mutual
    pub listed_tree : (tree : Tree) (enter exit : A) (i : ℕ) (next : ℕ → List Entry)
        → IsRegular tree → HasReadingLoops tree → Stands place tree enter exit
        → ((j : ℕ) → Matches haystack tree i j → Listed haystack place end exit j (next j))
        → Listed haystack place end enter i (onward (preference_list haystack tree i) next)
    listed_tree empty enter exit i next regular reading stands follows =
        as_listed (sym (onward_stop i next)) (by_go stands (follows i refl))
    listed_tree (character c) enter exit i next regular reading stands follows =
        by_reading (just c) exit next stands (λ j fits. (
        let past = was_read (just c) i j (after haystack i) fits in
        let one = ap Some (eqb-true past.0 c past.2) in
        follows j (past.1 ∙ one, past.3)))
    listed_tree (class ranges) enter exit i next regular reading stands follows =
        listed_class ranges enter exit i next stands follows
    listed_tree (look test) enter exit i next regular reading stands follows =
        let holds = holds_between test (before haystack i) (after haystack i) in
        by_look test exit next stands
        (λ j fits. follows j (if_test holds i j fits))
    listed_tree (repetition least most greedy body) enter exit i next regular reading stands
        follows =
        in_repetition greedy (Matches haystack body) (Stands place body)
        (preference_list haystack body)
        (λ a b k on s f. listed_tree body a b k on regular.1 reading.1 s f) least most
        (nullable body) i next regular.0 (loop_reads haystack most body reading.0) stands
        (λ j n low high passes. follows j (n, low, high, passes))
    listed_tree (capture index name body) enter exit i next regular reading stands follows =
        listed_group index body enter exit i next
        (λ a b k on s f. listed_tree body a b k on regular.1 reading s f) name stands follows
    listed_tree (concat parts) enter exit i next regular reading stands follows =
        listed_chain parts enter exit i next regular.1 reading stands follows
    listed_tree (alternation branches) enter exit i next regular reading stands follows =
        let (firsts, join, chosen, stand, joined) = stands in
        branching (map go firsts) chosen
        (listed_branches branches firsts join i next regular.1 reading stand
        (λ j some. by_go joined (follows j some)))

    listed_chain : (parts : Trees) (enter exit : A) (i : ℕ) (next : ℕ → List Entry)
        → AreRegular parts → HaveReadingLoops parts → StandInChain place parts enter exit
        → ((j : ℕ) → Chain haystack parts i j → Listed haystack place end exit j (next j))
        → Listed haystack place end enter i (onward (list_of_chain haystack parts i) next)
    listed_chain none enter exit i next regular reading e follows =
        let here = subst (λ a. Listed haystack place end a i (next i)) (sym e) (follows i refl) in
        as_listed (sym (onward_stop i next)) here
    listed_chain (more a rest) enter exit i next regular reading (via, stands, later) follows =
        let on = λ (j : ℕ). onward (list_of_chain haystack rest j) next in
        let all = listed_tree a enter via i on regular.0 reading.0 stands (λ k m.
        listed_chain rest via exit k next regular.1 reading.1 later
        (λ j chain. follows j (k, m, chain))) in
        as_listed
        (sym (onward_assoc (preference_list haystack a i) (list_of_chain haystack rest) next)) all

    listed_branches : (branches : Trees) (firsts : List A) (join : A) (i : ℕ)
        (next : ℕ → List Entry)
        → AreRegular branches → HaveReadingLoops branches
        → StandAsBranches place branches firsts join
        → ((j : ℕ) → SomeBranch haystack branches i j → Listed haystack place end join j (next j))
        → ListedBy haystack place end (map go firsts) i
        (onward (list_of_branches haystack branches i) next)
    listed_branches none [] join i next regular reading stand follows = over_all refl
    listed_branches none (b ∷ firsts) join i next regular reading stand follows = absurd stand
    listed_branches (more a rest) [] join i next regular reading stand follows = absurd stand
    listed_branches (more a rest) (b ∷ firsts) join i next regular reading stand follows =
        let here = onward (preference_list haystack a i) next in
        let there = onward (list_of_branches haystack rest i) next in
        let first = listed_tree a b join i next regular.0 reading.0 stand.0
        (λ j m. follows j (inl m)) in
        let later = listed_branches rest firsts join i next regular.1 reading.1 stand.1
        (λ j some. follows j (inr some)) in
        let parts =
        onward_append (preference_list haystack a i) (list_of_branches haystack rest i) next
        ∙ ap (λ xs. xs ++ there) (sym (unmarked i here)) in
        fitting i here there refl first later parts
