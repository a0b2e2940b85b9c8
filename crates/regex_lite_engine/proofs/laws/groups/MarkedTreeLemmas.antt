-- What walks mark where a tree stands: what a match of the tree may mark.
use Rattle.regex_lite_engine.proofs.Common.{◌≡◌, ℕ, zero, suc, ◌+◌, ◌*◌, ◌<◌, List, [], ◌∷◌, length}
use Rattle.regex_lite_engine.proofs.Common.{slice_get, Some, None, Option, sym, refl, ap, ◌∙◌}
use Rattle.regex_lite_engine.proofs.Common.{subst, inl, inr, arith, in_ranges, just, Text, after}
use Rattle.regex_lite_engine.proofs.Common.{Tree, empty, character, class, look, repetition}
use Rattle.regex_lite_engine.proofs.Common.{capture, concat, alternation, Trees, none, more}
use Rattle.regex_lite_engine.proofs.Common.{holds_between, nullable, IsRegular, ClassRange, Address}
use Rattle.regex_lite_engine.proofs.Common.{complete, go_holding, go_reading, one_of, step, Leads}
use Rattle.regex_lite_engine.proofs.Common.{whole, end_address, start_address, place_of_pattern}
use Rattle.regex_lite_engine.proofs.Common.{Found, Marks, no_marks, marked, over}
use Rattle.regex_lite_engine.specs.Search.Answer.{IsOfWay}
use Rattle.regex_lite_engine.proofs.Common.{marks_along, marks_of_way}
use Rattle.std.proofs.lemmas.Bool.{eqb-true}
use Rattle.regex_lite_syntax.specs.Text.{before}
use Rattle.regex_lite_syntax.specs.Tree.Regular.{AreRegular}
use Rattle.regex_lite_engine.specs.Graph.Places.{Place}
use Rattle.regex_lite_engine.proofs.laws.IsHereLemmas.{Stands, StandInChain, StandAsBranches}
use Rattle.regex_lite_engine.proofs.laws.WrittenTreeLemmas.{whole_stands}
use Rattle.regex_lite_engine.proofs.laws.list.EntryLemmas.{over_assoc}
use Rattle.regex_lite_engine.proofs.laws.groups.MarkingLemmas.{Marking, MarkingChain, MarkingBranch}
use Rattle.regex_lite_engine.proofs.laws.groups.MarkedWalkLemmas.{Each, fewer, by_go, by_test}
use Rattle.regex_lite_engine.proofs.laws.groups.MarkedWalkLemmas.{by_mark, by_arrows, by_branches}
use Rattle.regex_lite_engine.proofs.laws.groups.MarkedPassLemmas.{Over, plain, together}
use Rattle.regex_lite_engine.proofs.laws.groups.MarkedPassLemmas.{in_repetition}
use Rattle.regex_lite_engine.proofs.laws.WalkLemmas.{if_test, was_read}
use Rattle.regex_lite_syntax.proofs.OptionLemmas.{same_some}

module _ {A : Type 0} {haystack : Text} {place : A → Place A} {end : A}
    (final : place end ≡ complete) where
  marked_class : (ranges : List ClassRange) (enter exit : A) (i n : ℕ) (P : Marks → ℕ → Type 0)
      → place enter ≡ one_of ranges exit
      → ((k : ℕ) (marks : Marks) → Marking haystack (class ranges) i k marks
      → Each haystack place end n exit k (Over P marks))
      → Each haystack place end n enter i P
  marked_class [] enter exit i n P stands follows =
      fewer final n enter i P (by_arrows final n enter i P [] stands (λ k next e. absurd cc))
  marked_class (range ∷ rest) enter exit i n P stands follows =
      let set = in_ranges (range ∷ rest) in
      by_test final n enter i P (go_reading set exit) refl stands (λ j fits. (
      let read = was_read set i j (after haystack i) fits in
      plain final P (follows j no_marks (read.0, read.1, read.2, read.3, refl))))

  -- a group of any index
  pub marked_group : (index : ℕ) (name : Option Text) (body : Tree) {enter exit : A} {i n : ℕ}
      {P : Marks → ℕ → Type 0}
      → ((a b : A) (k m : ℕ) (Q : Marks → ℕ → Type 0) → Stands place body a b
      → ((j : ℕ) (marks : Marks) → Marking haystack body k j marks
      → Each haystack place end m b j (Over Q marks))
      → Each haystack place end m a k Q)
      → Stands place (capture index name body) enter exit
      → ((k : ℕ) (marks : Marks) → Marking haystack (capture index name body) i k marks
      → Each haystack place end n exit k (Over P marks))
      → Each haystack place end n enter i P
  marked_group index name body {enter} {exit} {i} {n} {P} inside
      (first, close, opened, stands, closed) follows =
      let open_marks = marked (Some (2 * index)) i in
      by_mark final n enter first i (2 * index) P opened
      (inside first close i n (Over P open_marks) stands (λ j inner m. (
      let close_marks = marked (Some (2 * index + 1)) j in
      let on = follows j (over close_marks (over inner open_marks)) (inner, m, refl) in
      by_mark final n close exit j (2 * index + 1) (Over (Over P open_marks) inner) closed
      (together final (Over P open_marks) inner close_marks
      (together final P open_marks (over close_marks inner)
      (moved j inner open_marks close_marks on))))))
    where
      moved : (j : ℕ) (inner open_marks close_marks : Marks)
          → Each haystack place end n exit j (Over P (over close_marks (over inner open_marks)))
          → Each haystack place end n exit j (Over P (over (over close_marks inner) open_marks))
      moved j inner open_marks close_marks each =
          subst (λ m. Each haystack place end n exit j (Over P m))
          (sym (over_assoc close_marks inner open_marks)) each

  mutual
    pub marked_tree : (tree : Tree) (enter exit : A) (i n : ℕ) (P : Marks → ℕ → Type 0)
        → IsRegular tree → Stands place tree enter exit
        → ((k : ℕ) (marks : Marks) → Marking haystack tree i k marks
        → Each haystack place end n exit k (Over P marks))
        → Each haystack place end n enter i P
    marked_tree empty enter exit i n P regular stands follows =
        by_go final n enter exit i P stands (plain final P (follows i no_marks (refl, refl)))
    marked_tree (character c) enter exit i n P regular stands follows =
        by_test final n enter i P (go_reading (just c) exit) refl stands (λ j fits. (
        let read = was_read (just c) i j (after haystack i) fits in
        let one = ap Some (eqb-true read.0 c read.2) in
        plain final P (follows j no_marks (read.1 ∙ one, read.3, refl))))
    marked_tree (class ranges) enter exit i n P regular stands follows =
        marked_class ranges enter exit i n P stands follows
    marked_tree (look test) enter exit i n P regular stands follows =
        by_test final n enter i P (go_holding test exit) refl stands (λ j fits. (
        let holds = holds_between test (before haystack i) (after haystack i) in
        let held = if_test holds i j fits in
        plain final P (follows j no_marks (held.0, held.1, refl))))
    marked_tree (repetition least most greedy body) enter exit i n P regular stands follows =
        in_repetition final greedy (Marking haystack body) (Stands place body)
        (λ a b k m Q s f. marked_tree body a b k m Q regular.1 s f) least most (nullable body) i n
        P regular.0 stands
        (λ k marks count low high made. follows k marks (count, low, high, made))
    marked_tree (capture index name body) enter exit i n P regular stands follows =
        marked_group index name body
        (λ a b k m Q s f. marked_tree body a b k m Q regular.1 s f) stands follows
    marked_tree (concat parts) enter exit i n P regular stands follows =
        marked_chain parts enter exit i n P regular.1 stands follows
    marked_tree (alternation branches) enter exit i n P regular stands follows =
        let (firsts, join, chosen, stand, joined) = stands in
        fewer final n enter i P (by_branches final n enter i P firsts chosen (λ k first there.
        marked_branches branches firsts join k first i n P regular.1 stand there
        (λ j marks m. by_go final n join exit j (Over P marks) joined (follows j marks m))))

    marked_chain : (parts : Trees) (enter exit : A) (i n : ℕ) (P : Marks → ℕ → Type 0)
        → AreRegular parts → StandInChain place parts enter exit
        → ((k : ℕ) (marks : Marks) → MarkingChain haystack parts i k marks
        → Each haystack place end n exit k (Over P marks))
        → Each haystack place end n enter i P
    marked_chain none enter exit i n P regular e follows =
        subst (λ a. Each haystack place end n a i P) (sym e)
        (plain final P (follows i no_marks (refl, refl)))
    marked_chain (more a rest) enter exit i n P regular (via, stands, later_stand) follows =
        marked_tree a enter via i n P regular.0 stands (λ k first m.
        marked_chain rest via exit k n (Over P first) regular.1 later_stand
        (λ j later chain. together final P first later
        (follows j (over later first) (k, first, later, m, chain, refl))))

    marked_branches : (branches : Trees) (firsts : List A) (join : A) (c : ℕ) (first : A) (i n : ℕ)
        (P : Marks → ℕ → Type 0) → AreRegular branches
        → StandAsBranches place branches firsts join → slice_get firsts c ≡ Some first
        → ((k : ℕ) (marks : Marks) → MarkingBranch haystack branches i k marks
        → Each haystack place end n join k (Over P marks))
        → Each haystack place end n first i P
    marked_branches none [] join c first i n P regular stand e follows = absurd cc
    marked_branches none (b ∷ firsts) join c first i n P regular stand e follows = absurd stand
    marked_branches (more a rest) [] join c first i n P regular stand e follows = absurd stand
    marked_branches (more a rest) (b ∷ firsts) join zero first i n P regular stand e follows =
        subst (λ z. Each haystack place end n z i P) (same_some e)
        (marked_tree a b join i n P regular.0 stand.0 (λ k marks m. follows k marks (inl m)))
    marked_branches (more a rest) (b ∷ firsts) join (suc c) first i n P regular stand e follows =
        marked_branches rest firsts join c first i n P regular.1 stand.1 e
        (λ k marks m. follows k marks (inr m))

-- a walk marks what a match of the whole may mark
pub marked_walk : (tree : Tree) (haystack : Text) (i j : ℕ) (arrows : List ℕ) → IsRegular tree
    → Leads (Address × ℕ) (step haystack (place_of_pattern tree)) (start_address, i) arrows
    (end_address, j)
    → Marking haystack (whole tree) i j (marks_of_way tree haystack i arrows)
marked_walk tree haystack i j arrows regular along =
    each.of arrows j (omega arith) along
  where
    P : Marks → ℕ → Type 0
    P marks k = Marking haystack (whole tree) i k marks

    place : Address → Place Address
    place = place_of_pattern tree

    over_at_end : (k : ℕ) (marks : Marks) → Marking haystack (whole tree) i k marks
        → Each haystack place end_address (suc (length arrows)) end_address k (Over P marks)
    over_at_end k marks m = record { of = at_end }
      where
        at_end : (ks : List ℕ) (l : ℕ) → length ks < suc (length arrows)
            → Leads (Address × ℕ) (step haystack place) (end_address, k) ks (end_address, l)
            → P (over (marks_along haystack place (Some (end_address, k)) ks) marks) l
        at_end [] l few same =
            let here : k ≡ l = ap (λ (p : Address × ℕ). p.1) same in
            subst (λ z. Marking haystack (whole tree) i z marks) here m
        at_end (c ∷ ks) l few (next, s, along) = absurd cc

    each : Each haystack place end_address (suc (length arrows)) start_address i P
    each =
        marked_group refl 0 None tree
        (λ a b k m Q s f. marked_tree refl tree a b k m Q regular s f)
        (whole_stands tree regular) over_at_end

-- so does what is found
pub marked_found : (tree : Tree) (haystack : Text) (found : Found) → IsRegular tree
    → IsOfWay tree haystack found
    → Marking haystack (whole tree) found.start found.end found.marks
marked_found tree haystack found regular is =
    subst (λ m. Marking haystack (whole tree) found.start found.end m) (sym is.marks)
    (marked_walk tree haystack found.start found.end is.way regular is.is_way.0)
