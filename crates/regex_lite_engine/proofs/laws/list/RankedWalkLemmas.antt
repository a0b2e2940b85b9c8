-- What is listed is of all walks, the preferred first.
use Rattle.regex_lite_engine.proofs.Common.{◌≡◌, ℕ, zero, suc, List, [], ◌∷◌, ◌++◌, map, slice_get}
use Rattle.regex_lite_engine.proofs.Common.{Some, None, sym, refl, ap, ◌∙◌, subst, inl, inr, arith}
use Rattle.regex_lite_engine.proofs.Common.{Text, Tree, IsRegular, Arrow, complete, with_arrows}
use Rattle.regex_lite_engine.proofs.Common.{taken, arrived, arrow_taken, step_from, step, Leads}
use Rattle.regex_lite_engine.proofs.Common.{whole, end_address, start_address, place_of_pattern}
use Rattle.regex_lite_engine.proofs.Common.{IsWayThrough, Marks, no_marks, marked, over}
use Rattle.regex_lite_engine.proofs.Common.{mark_of_arrow, mark_of, marks_along, Entry, after_marks}
use Rattle.regex_lite_engine.proofs.Common.{stop, preference_list, HasReadingLoops, IsBefore}
use Rattle.regex_lite_engine.specs.Graph.Places.{Place}
use Rattle.regex_lite_engine.specs.SearchLaws.{AreRanked}
use Rattle.regex_lite_engine.proofs.laws.list.ListedLemmas.{Listed, ListedBy, completed}
use Rattle.regex_lite_engine.proofs.laws.list.ListedLemmas.{branching, over_all, blocked, fitting}
use Rattle.regex_lite_engine.proofs.laws.list.NoLoopLemmas.{complete_stays}
use Rattle.regex_lite_engine.proofs.laws.list.WholeListLemmas.{listed_whole, walk_is_way}
use Rattle.regex_lite_engine.proofs.InLemmas.{In, in_left, in_right, in_map, number_of}
use Rattle.regex_lite_engine.proofs.laws.list.RankLemmas.{Rank, Ranking, AllBefore}
use Rattle.regex_lite_engine.proofs.laws.list.RankLemmas.{rank_both, rank_map, same_list}
use Rattle.regex_lite_engine.proofs.laws.list.RankLemmas.{greater, greater_keeps}
use Rattle.regex_lite_syntax.proofs.OptionLemmas.{same_some}

module _ {A : Type 0} (haystack : Text) (place : A → Place A) (end : A) where
  -- the arrows lead to where a match is complete, at position j
  abbrev Completes : A × ℕ → List ℕ → ℕ → Type 0
  Completes pair ks j = Leads (A × ℕ) (step haystack place) pair ks (end, j)

  -- so they do, by one of these arrows first
  abbrev CompletesBy : List (Arrow A) → ℕ → List ℕ → ℕ → Type 0
  CompletesBy arrows i [] j = ⊥
  CompletesBy arrows i (k ∷ ks) j =
      (next : A × ℕ) × (arrow_taken haystack i (slice_get arrows k) ≡ Some next)
      × Completes next ks j

  abbrev marks_by : List (Arrow A) → ℕ → List ℕ → Marks
  marks_by arrows i [] = no_marks
  marks_by arrows i (k ∷ ks) =
      over (marks_along haystack place (arrow_taken haystack i (slice_get arrows k)) ks)
      (marked (mark_of_arrow (slice_get arrows k)) i)

  abbrev IsRanking : A × ℕ → List Entry → Type 0
  IsRanking pair list =
      Ranking (Completes pair)
      (λ ks. marks_along haystack place (Some pair) ks) list

  abbrev IsRankingBy : List (Arrow A) → ℕ → List Entry → Type 0
  IsRankingBy arrows i list =
      Ranking (CompletesBy arrows i) (marks_by arrows i) list

  later_rank : (arrow : Arrow A) (arrows : List (Arrow A)) (i : ℕ) (ways : List (List ℕ))
      (list : List Entry)
      → Rank (CompletesBy arrows i) (marks_by arrows i) ways list
      → Rank (CompletesBy (arrow ∷ arrows) i)
      (marks_by (arrow ∷ arrows) i) (map greater ways) list
  later_rank arrow arrows i ways list rank =
      subst (λ l. Rank (CompletesBy (arrow ∷ arrows) i)
      (marks_by (arrow ∷ arrows) i) (map greater ways) l) (same_list list)
      (rank_map (CompletesBy arrows i)
      (CompletesBy (arrow ∷ arrows) i) (marks_by arrows i)
      (marks_by (arrow ∷ arrows) i) greater (λ e. e) greater_keeps walk same ways
      list rank)
    where
      walk : (ks : List ℕ) (e : Entry) → CompletesBy arrows i ks e.0
          → CompletesBy (arrow ∷ arrows) i (greater ks) e.0
      walk [] e by = by
      walk (k ∷ ks) e by = by

      same : (ks : List ℕ) (e : Entry) → CompletesBy arrows i ks e.0
          → e.1 ≡ marks_by arrows i ks
          → e.1 ≡ marks_by (arrow ∷ arrows) i (greater ks)
      same [] e by f = f
      same (k ∷ ks) e by f = f

  -- no walk begins with the first arrow
  without_first : (arrow : Arrow A) (arrows : List (Arrow A)) (i : ℕ) (list : List Entry)
      → taken haystack arrow.condition i ≡ None → IsRankingBy arrows i list
      → IsRankingBy (arrow ∷ arrows) i list
  without_first arrow arrows i list gone r = record {
    ways = map greater r.ways;
    rank = later_rank arrow arrows i r.ways list r.rank;
    all = each;
  }
    where
      each : (ks : List ℕ) (j : ℕ) → CompletesBy (arrow ∷ arrows) i ks j
          → In ks (map greater r.ways)
      each [] j by = absurd by
      each (zero ∷ ks) j (next, e, along) =
          let two : None ≡ Some next = sym (ap (arrived arrow.to) gone) ∙ e in
          absurd cc
      each (suc k ∷ ks) j by = in_map greater (k ∷ ks) r.ways (r.all (k ∷ ks) j by)

  first_before : (xs ys : List (List ℕ)) (arrows : List (Arrow A)) (i : ℕ) (list : List Entry)
      → Rank (CompletesBy arrows i) (marks_by arrows i) ys list
      → AllBefore (map (λ ks. 0 ∷ ks) xs) (map greater ys)
  first_before [] ys arrows i list rank = tt
  first_before (x ∷ xs) ys arrows i list rank =
      (each ys list rank, first_before xs ys arrows i list rank)
    where
      each : (ys : List (List ℕ)) (list : List Entry)
          → Rank (CompletesBy arrows i) (marks_by arrows i) ys list
          → IsBefore (0 ∷ x) (map greater ys)
      each [] list rank = tt
      each (y ∷ ys) [] rank = absurd rank
      each ([] ∷ ys) (e ∷ list) rank = absurd rank.0
      each ((k ∷ y) ∷ ys) (e ∷ list) rank = (inl (omega arith), each ys list rank.3)

  with_first : (arrow : Arrow A) (arrows : List (Arrow A)) (i j : ℕ) (here there : List Entry)
      → taken haystack arrow.condition i ≡ Some j → IsRanking (arrow.to, j) here
      → IsRankingBy arrows i there
      → IsRankingBy (arrow ∷ arrows) i (map (after_marks (marked arrow.mark i)) here ++ there)
  with_first arrow arrows i j here there fits r others = record {
    ways = map (λ ks. 0 ∷ ks) r.ways ++ map greater others.ways;
    rank = rank_both (CompletesBy (arrow ∷ arrows) i)
        (marks_by (arrow ∷ arrows) i) (map (λ ks. 0 ∷ ks) r.ways)
        (map greater others.ways) (map (after_marks (marked arrow.mark i)) here) there first
        (later_rank arrow arrows i others.ways there others.rank)
        (first_before r.ways others.ways arrows i there others.rank);
    all = each;
  }
    where
      walk : (ks : List ℕ) (e : Entry) → Completes (arrow.to, j) ks e.0
          → CompletesBy (arrow ∷ arrows) i (0 ∷ ks) e.0
      walk ks e along = ((arrow.to, j), ap (arrived arrow.to) fits, along)

      same : (ks : List ℕ) (e : Entry) → Completes (arrow.to, j) ks e.0
          → e.1 ≡ marks_along haystack place (Some (arrow.to, j)) ks
          → over e.1 (marked arrow.mark i) ≡ marks_by (arrow ∷ arrows) i (0 ∷ ks)
      same ks e along f =
          ap (λ (m : Marks). over m (marked arrow.mark i)) f
          ∙ ap (λ o. over (marks_along haystack place o ks) (marked arrow.mark i))
          (sym (ap (arrived arrow.to) fits))

      first : Rank (CompletesBy (arrow ∷ arrows) i)
          (marks_by (arrow ∷ arrows) i) (map (λ ks. 0 ∷ ks) r.ways)
          (map (after_marks (marked arrow.mark i)) here)
      first =
          rank_map (Completes (arrow.to, j))
          (CompletesBy (arrow ∷ arrows) i)
          (λ ks. marks_along haystack place (Some (arrow.to, j)) ks)
          (marks_by (arrow ∷ arrows) i) (λ ks. 0 ∷ ks)
          (after_marks (marked arrow.mark i))
          (λ a b before. inr (refl, before)) walk same r.ways here
          r.rank

      each : (ks : List ℕ) (n : ℕ) → CompletesBy (arrow ∷ arrows) i ks n
          → In ks (map (λ ks. 0 ∷ ks) r.ways ++ map greater others.ways)
      each [] n by = absurd by
      each (suc k ∷ ks) n by =
          in_right (suc k ∷ ks) (map (λ ks. 0 ∷ ks) r.ways) (map greater others.ways)
          (in_map greater (k ∷ ks) others.ways (others.all (k ∷ ks) n by))
      each (zero ∷ ks) n (next, e, along) =
          let one : next ≡ (arrow.to, j) = same_some (sym e ∙ ap (arrived arrow.to) fits) in
          let moved = subst (λ p. Leads (A × ℕ) (step haystack place) p ks (end, n)) one along in
          in_left (0 ∷ ks) (map (λ ks. 0 ∷ ks) r.ways) (map greater others.ways)
          (in_map (λ ks. 0 ∷ ks) ks r.ways (r.all ks n moved))

  from_place : (a : A) (i : ℕ) (arrows : List (Arrow A)) (list : List Entry) → place end ≡ complete
      → place a ≡ with_arrows arrows → IsRankingBy arrows i list → IsRanking (a, i) list
  from_place a i arrows list final e r = record {
    ways = r.ways;
    rank = moved r.ways list r.rank;
    all = λ ks j walk. r.all ks j (to_arrows ks j walk);
  }
    where
      to_arrows : (ks : List ℕ) (j : ℕ) → Completes (a, i) ks j
          → CompletesBy arrows i ks j
      to_arrows [] j same =
          let here : a ≡ end = ap (λ p. p.0) same in
          let two : complete ≡ with_arrows arrows = sym final ∙ ap place (sym here) ∙ e in
          cc
      to_arrows (k ∷ ks) j (next, s, along) =
          (next, subst (λ p. step_from haystack p i k ≡ Some next) e s, along)

      of_arrows : (ks : List ℕ) (j : ℕ) → CompletesBy arrows i ks j
          → Completes (a, i) ks j
      of_arrows [] j by = absurd by
      of_arrows (k ∷ ks) j (next, s, along) =
          (next, subst (λ p. step_from haystack p i k ≡ Some next) (sym e) s, along)

      same_marks : (ks : List ℕ)
          → marks_by arrows i ks ≡ marks_along haystack place (Some (a, i)) ks
      same_marks [] = refl
      same_marks (k ∷ ks) =
          ap (λ p. over (marks_along haystack place (step_from haystack p i k) ks)
          (marked (mark_of p k) i)) (sym e)

      moved : (ways : List (List ℕ)) (list : List Entry)
          → Rank (CompletesBy arrows i) (marks_by arrows i) ways list
          → Rank (Completes (a, i))
          (λ ks. marks_along haystack place (Some (a, i)) ks) ways list
      moved [] [] p = tt
      moved [] (f ∷ list) p = absurd p
      moved (way ∷ ways) [] p = absurd p
      moved (way ∷ ways) (f ∷ list) p =
          (of_arrows way f.0 p.0, p.1 ∙ same_marks way, p.2, moved ways list p.3)

  at_end : (a : A) (i : ℕ) → a ≡ end → place a ≡ complete → IsRanking (a, i) (stop i)
  at_end a i here e = record {
    ways = [] ∷ [];
    rank = (ap (λ (b : A). (b, i)) here, refl, tt, tt);
    all = each;
  }
    where
      each : (ks : List ℕ) (j : ℕ) → Completes (a, i) ks j → In ks ([] ∷ [])
      each [] j walk = inl refl
      each (k ∷ ks) j (next, s, along) =
          absurd (complete_stays haystack place end a i k next e s)

  mutual
    ranking : {a : A} {i : ℕ} {list : List Entry} → place end ≡ complete
        → Listed haystack place end a i list → IsRanking (a, i) list
    ranking {a} {i} final (completed here e same) =
        subst (λ list. IsRanking (a, i) list) (sym same) (at_end a i here e)
    ranking {a} {i} {list} final (branching arrows e listed) =
        from_place a i arrows list final e (ranking_by final listed)

    ranking_by : {arrows : List (Arrow A)} {i : ℕ} {list : List Entry} → place end ≡ complete
        → ListedBy haystack place end arrows i list → IsRankingBy arrows i list
    ranking_by {i = i} final (over_all none) =
        subst (λ list. IsRankingBy [] i list) (sym none)
        (record { ways = []; rank = tt; all = no_walk })
      where
        no_walk : (ks : List ℕ) (j : ℕ) → CompletesBy [] i ks j → In ks []
        no_walk [] j by = by
        no_walk (k ∷ ks) j (next, e, by) = absurd cc
    ranking_by {i = i} {list} final (blocked {arrow} {arrows} gone listed) =
        without_first arrow arrows i list gone (ranking_by final listed)
    ranking_by {i = i} final (fitting {arrow} {arrows} j here there fits listed others all) =
        subst (λ list. IsRankingBy (arrow ∷ arrows) i list) (sym all)
        (with_first arrow arrows i j here there fits (ranking final listed)
        (ranking_by final others))

pub all_ranked : (tree : Tree) (haystack : Text) (i : ℕ) → IsRegular tree → HasReadingLoops tree
    → (ways : List (List ℕ))
    × AreRanked tree haystack i ways (preference_list haystack (whole tree) i)
    × ((way : List ℕ) (j : ℕ) → IsWayThrough tree haystack i way j
    → (k : ℕ) × (slice_get ways k ≡ Some way))
all_ranked tree haystack i regular reading = (
  r.ways,
  ranked r.ways (preference_list haystack (whole tree) i) r.rank,
  λ way j is. number_of way r.ways (r.all way j is.0),
)
  where
    r : IsRanking haystack (place_of_pattern tree) end_address (start_address, i)
        (preference_list haystack (whole tree) i)
    r =
        ranking haystack (place_of_pattern tree) end_address refl
        (listed_whole tree haystack regular reading i)

    ranked : (ways : List (List ℕ)) (list : List Entry)
        → Rank (Completes haystack (place_of_pattern tree) end_address (start_address, i))
        (λ ks. marks_along haystack (place_of_pattern tree) (Some (start_address, i)) ks) ways list
        → AreRanked tree haystack i ways list
    ranked [] [] p = tt
    ranked [] (e ∷ list) p = absurd p
    ranked (way ∷ ways) [] p = absurd p
    ranked (way ∷ ways) (e ∷ list) p =
        (walk_is_way tree haystack regular reading i e.0 way p.0, p.1, p.2, ranked ways list p.3)
