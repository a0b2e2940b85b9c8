-- At least the static number of groups take part in a match.
use Rattle.regex_lite_engine.proofs.Common.{◌≡◌, ℕ, zero, suc, ◌+◌, ◌-◌, ◌*◌, ◌<◌, ◌≤◌, true}
use Rattle.regex_lite_engine.proofs.Common.{is_some, ◌==◌, Some, None, Option, sym, refl, ap, ◌∙◌}
use Rattle.regex_lite_engine.proofs.Common.{inl, inr, arith, nat_tests, Text, Tree, empty}
use Rattle.regex_lite_engine.proofs.Common.{character, class, look, repetition, capture, concat}
use Rattle.regex_lite_engine.proofs.Common.{alternation, Trees, none, more, greatest_index}
use Rattle.regex_lite_engine.proofs.Common.{greatest_index_in, sum, IsRegular, whole, Found}
use Rattle.regex_lite_engine.proofs.Common.{Marks, marked, over}
use Rattle.regex_lite_engine.specs.Search.Answer.{IsOfWay}
use Rattle.std.proofs.Common.{max}
use Rattle.regex_lite_syntax.specs.Tree.Properties.{captures_len, common, in_passes, static_groups}
use Rattle.regex_lite_syntax.specs.Tree.Properties.{static_sum, static_common, static_captures_len}
use Rattle.regex_lite_engine.specs.Search.Marks.{span, taking_part}
use Rattle.regex_lite_syntax.proofs.grammar.NumberedTreeLemmas.{IsNumbered, AreNumbered}
use Rattle.regex_lite_engine.proofs.laws.groups.MarkingLemmas.{Marking, MarkingChain, MarkingBranch}
use Rattle.regex_lite_engine.proofs.laws.groups.MarkingLemmas.{MarkedPasses, around}
use Rattle.regex_lite_engine.proofs.laws.groups.TakingCountLemmas.{one_if, earlier_stay, later_stay}
use Rattle.regex_lite_engine.proofs.laws.groups.TakingCountLemmas.{two_rows, of_more, own_part}
use Rattle.regex_lite_engine.proofs.laws.groups.MarkedTreeLemmas.{marked_found}
use Rattle.regex_lite_engine.proofs.laws.WalkLemmas.{if_test}
use Rattle.regex_lite_syntax.proofs.OptionLemmas.{same_some}

sum_is : (a b : Option ℕ) (n : ℕ) → sum a b ≡ Some n
    → (k : ℕ) × (l : ℕ) × (a ≡ Some k) × (b ≡ Some l) × (n ≡ k + l)
sum_is None b n e = absurd cc
sum_is (Some a) None n e = absurd cc
sum_is (Some a) (Some b) n e = (a, b, refl, refl, sym (same_some e))

same_number : (a b : ℕ) → (a == b) ≡ true → a ≡ b
same_number a b e = grind (arith, nat_tests, e)

common_is : (a b : Option ℕ) (n : ℕ) → common a b ≡ Some n → (a ≡ Some n) × (b ≡ Some n)
common_is None b n e = absurd cc
common_is (Some a) None n e = absurd cc
common_is (Some a) (Some b) n e =
    let same = if_test (a == b) a n e in
    (ap Some same.1, ap Some (sym (same_number a b same.0) ∙ same.1))

none_needed : (groups : Option ℕ) (n : ℕ) → in_passes zero groups ≡ Some n → n ≡ 0
none_needed None n e = absurd cc
none_needed (Some zero) n e = sym (same_some e)
none_needed (Some (suc k)) n e = absurd cc

module _ (haystack : Text) where
  -- at least as many groups above the number take part as are known
  abbrev Enough : (above : ℕ) → (groups : Option ℕ) → (greatest : ℕ) → Marks → Type 0
  Enough above groups greatest marks =
      (n count : ℕ) → groups ≡ Some n → greatest ≤ above + count
      → n ≤ taking_part marks (suc above) count

  no_group : (above : ℕ) (marks : Marks) → Enough above (Some 0) 0 marks
  no_group above marks n count e high = let same : 0 ≡ n = same_some e in omega (arith, same)

  in_all_passes : (least n i j above : ℕ) (groups : Option ℕ) (greatest : ℕ) (marks : Marks)
      → (Pass : ℕ → ℕ → Marks → Type 0)
      → ((k l : ℕ) (m : Marks) → Pass k l m → Enough above groups greatest m)
      → least ≤ n → MarkedPasses Pass n i j marks
      → Enough above (in_passes least groups) greatest marks
  in_all_passes zero n i j above groups greatest marks Pass enough low made m count e high =
      let none_known = none_needed groups m e in omega (arith, none_known)
  in_all_passes (suc least) zero i j above groups greatest marks Pass enough low made m count e
      high = absurd (omega (arith, low))
  in_all_passes (suc least) (suc n) i j above groups greatest marks Pass enough low
      (k, first, later, pass, made, same) m count e high =
      let here = enough i k first pass m count e high in
      let stays = earlier_stay later first (suc above) count in
      let moved = ap (λ z. taking_part z (suc above) count) same in
      omega (arith, here, stays, moved)

  in_group : (index i j above : ℕ) (groups : Option ℕ) (greatest : ℕ) (inner marks : Marks)
      → above < index → marks ≡ around index i j inner → Enough index groups greatest inner
      → Enough above (sum (Some 1) groups) (max index greatest) marks
  in_group index i j above groups greatest inner marks order same enough n count e high =
      let (k, l, one, others, total) = sum_is (Some 1) groups n e in
      let left = above + count - index in
      let inside = enough l left others (omega (arith, high)) in
      let opened = marked (Some (2 * index)) i in
      let closed = marked (Some (2 * index + 1)) j in
      let first = later_stay inner opened (suc index) left in
      let second = earlier_stay closed (over inner opened) (suc index) left in
      let own = ap one_if (own_part index i j inner) in
      let own_one : one_if (is_some (span (around index i j inner) index)) ≡ 1 = own in
      let row = of_more (around index i j inner) (suc above) index count (suc left)
      (omega (arith, order)) (omega (arith, high, order)) in
      let moved = ap (λ z. taking_part z (suc above) count) same in
      let one_is : 1 ≡ k = same_some one in
      omega (arith, total, one_is, inside, first, second, own_one, row, moved)

  in_two : (above : ℕ) (a b : Option ℕ) (g h : ℕ) (first later marks : Marks)
      → marks ≡ over later first → Enough above a g first → Enough (max above g) b h later
      → Enough above (sum a b) (max g h) marks
  in_two above a b g h first later marks same p q n count e high =
      let (k, l, one, two, total) = sum_is a b n e in
      let c = max above g - above in
      let d = above + count - max above g in
      let here = p k c one (omega arith) in
      let there = q l d two (omega (arith, high)) in
      let stays = earlier_stay later first (suc above) c in
      let stay = later_stay later first (suc (max above g)) d in
      let all : count ≡ c + d = omega (arith, high) in
      let parts = ap (λ z. taking_part (over later first) (suc above) z) all
      ∙ two_rows (over later first) (suc above) c d in
      let mid : suc above + c ≡ suc (max above g) = omega arith in
      let moved_mid = ap (λ z. taking_part (over later first) z d) mid in
      let moved = ap (λ z. taking_part z (suc above) count) same in
      omega (arith, total, here, there, stays, stay, parts, moved_mid, moved)

  -- of groups above a greater number
  above_more : (above g n count : ℕ) (marks : Marks) → g ≤ above + count
      → n ≤ taking_part marks (suc (max above g)) (above + count - max above g)
      → n ≤ taking_part marks (suc above) count
  above_more above g n count marks high there =
      let row = of_more marks (suc above) (suc (max above g)) count (above + count - max above g)
      (omega arith) (omega (arith, high)) in
      omega (arith, there, row)

  mutual
    enough : (tree : Tree) (i j above : ℕ) (marks : Marks) → IsNumbered above tree
        → Marking haystack tree i j marks → (n count : ℕ) → static_groups tree ≡ Some n
        → greatest_index tree ≤ above + count → n ≤ taking_part marks (suc above) count
    enough empty i j above marks numbered m = no_group above marks
    enough (character c) i j above marks numbered m = no_group above marks
    enough (class ranges) i j above marks numbered m = no_group above marks
    enough (look test) i j above marks numbered m = no_group above marks
    enough (repetition least most greedy body) i j above marks numbered (n, low, high, made) =
        in_all_passes least n i j above (static_groups body) (greatest_index body) marks
        (Marking haystack body) (λ k l z p. enough body k l above z numbered p) low made
    enough (capture index name body) i j above marks numbered (inner, m, e) =
        in_group index i j above (static_groups body) (greatest_index body) inner marks numbered.0 e
        (enough body i j index inner numbered.1 m)
    enough (concat parts) i j above marks numbered m = enough_chain parts i j above marks numbered m
    enough (alternation branches) i j above marks numbered m =
        enough_branches branches i j above marks numbered m

    enough_chain : (parts : Trees) (i j above : ℕ) (marks : Marks) → AreNumbered above parts
        → MarkingChain haystack parts i j marks
        → Enough above (static_sum parts) (greatest_index_in parts) marks
    enough_chain none i j above marks numbered m = no_group above marks
    enough_chain (more a rest) i j above marks numbered (k, first, later, m, chain, e) =
        in_two above (static_groups a) (static_sum rest) (greatest_index a) (greatest_index_in rest)
        first later marks e (enough a i k above first numbered.0 m)
        (enough_chain rest k j (max above (greatest_index a)) later numbered.1 chain)

    enough_branches : (branches : Trees) (i j above : ℕ) (marks : Marks)
        → AreNumbered above branches → MarkingBranch haystack branches i j marks
        → Enough above (static_common branches) (greatest_index_in branches) marks
    enough_branches none i j above marks numbered m n count e high = absurd m
    enough_branches (more a none) i j above marks numbered (inl m) n count e high =
        enough a i j above marks numbered.0 m n count e (omega (arith, high))
    enough_branches (more a none) i j above marks numbered (inr m) n count e high = absurd m
    enough_branches (more a (more b rest)) i j above marks numbered (inl m) n count e high =
        let known = common_is (static_groups a) (static_common (more b rest)) n e in
        enough a i j above marks numbered.0 m n count known.0 (omega (arith, high))
    enough_branches (more a (more b rest)) i j above marks numbered (inr m) n count e high =
        let known = common_is (static_groups a) (static_common (more b rest)) n e in
        let g = greatest_index a in
        let left = above + count - max above g in
        let later = enough_branches (more b rest) i j (max above g) marks numbered.1 m n left in
        above_more above g n count marks (omega (arith, high)) (later known.1 (omega (arith, high)))

pub enough_take_part : (tree : Tree) (haystack : Text) (found : Found) (n : ℕ)
    → IsRegular tree → IsNumbered 0 tree → IsOfWay tree haystack found
    → static_captures_len tree ≡ Some n → n ≤ taking_part found.marks 0 (captures_len tree)
enough_take_part tree haystack found n regular numbered is known =
    let (k, l, one, others, total) = sum_is (Some 1) (static_groups tree) n known in
    let count = greatest_index tree in
    let inside = enough haystack tree found.start found.end 0 marking.0 numbered marking.1 l count
    others (omega arith) in
    let opened = marked (Some 0) found.start in
    let closed = marked (Some 1) found.end in
    let first = later_stay marking.0 opened 1 count in
    let second = earlier_stay closed (over marking.0 opened) 1 count in
    let own_one : one_if (is_some (span (around 0 found.start found.end marking.0) 0)) ≡ 1
    = ap one_if (own_part 0 found.start found.end marking.0) in
    let moved = ap (λ z. taking_part z 0 (suc count)) marking.2 in
    let last : suc count ≡ captures_len tree = omega arith in
    let all = ap (λ z. taking_part found.marks 0 z) last in
    let one_is : 1 ≡ k = same_some one in
    omega (arith, total, one_is, inside, first, second, own_one, moved, all)
  where
    marking : Marking haystack (whole tree) found.start found.end found.marks
    marking = marked_found tree haystack found regular is
