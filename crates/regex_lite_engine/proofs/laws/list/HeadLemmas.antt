-- Where loops read, the answer is the head of the list.
use Rattle.regex_lite_engine.proofs.Common.{◌≡◌, ℕ, zero, suc, ◌⊎◌, List, [], ◌∷◌, slice_get, Some}
use Rattle.regex_lite_engine.proofs.Common.{sym, refl, ap, ◌∙◌, subst, inl, inr, Text, Tree}
use Rattle.regex_lite_engine.proofs.Common.{IsRegular, Address, step, whole, end_address}
use Rattle.regex_lite_engine.proofs.Common.{start_address, place_of_pattern, IsWayThrough, Found}
use Rattle.regex_lite_engine.proofs.Common.{IsFound, Marks, marks_of_way, IsPreferred, Entry}
use Rattle.regex_lite_engine.proofs.Common.{preference_list, HasReadingLoops, IsBefore}
use Rattle.regex_lite_engine.proofs.laws.LeadsLemmas.{leads_to_one}
use Rattle.regex_lite_engine.specs.SearchLaws.{AreRanked}
use Rattle.regex_lite_engine.proofs.laws.answer.OrderLemmas.{one_best}
use Rattle.regex_lite_engine.proofs.laws.list.RankedWalkLemmas.{all_ranked}
use Rattle.regex_lite_syntax.proofs.OptionLemmas.{same_some}

same_entry : (e : Entry) (j : ℕ) (marks : Marks) (rest : List Entry) → e.0 ≡ j → e.1 ≡ marks
    → e ∷ rest ≡ (j, marks) ∷ rest
same_entry e j marks rest at mark = λ t. (at t, mark t) ∷ rest

before_at : (way other : List ℕ) (ways : List (List ℕ)) (k : ℕ) → IsBefore way ways
    → slice_get ways k ≡ Some other → IsPreferred way other
before_at way other [] k before e = absurd cc
before_at way other (x ∷ ways) zero before e =
    subst (λ z. IsPreferred way z) (same_some e) before.0
before_at way other (x ∷ ways) (suc k) before e = before_at way other ways k before.1 e

-- the first of them is preferred to any of them
first_of_all : (way other : List ℕ) (ways : List (List ℕ)) (k : ℕ) → IsBefore way ways
    → slice_get (way ∷ ways) k ≡ Some other → (way ≡ other) ⊎ IsPreferred way other
first_of_all way other ways zero before e = inl (same_some e)
first_of_all way other ways (suc k) before e = inr (before_at way other ways k before e)

pub answer_first : (tree : Tree) (haystack : Text) → IsRegular tree → HasReadingLoops tree
    → (s : ℕ) (found : Found) → IsFound tree haystack s found
    → (rest : List Entry)
    × (preference_list haystack (whole tree) found.start ≡ (found.end, found.marks) ∷ rest)
answer_first tree haystack regular reading s found is =
    let (ways, ranked, all) = all_ranked tree haystack found.start regular reading in
    let here = all is.way found.end is.most_preferred.is_way in
    by_lists ways (preference_list haystack (whole tree) found.start) refl ranked here.0 here.1
  where
    by_lists : (ways : List (List ℕ)) (list : List Entry)
        → preference_list haystack (whole tree) found.start ≡ list
        → AreRanked tree haystack found.start ways list → (k : ℕ) → slice_get ways k ≡ Some is.way
        → (rest : List Entry)
        × (preference_list haystack (whole tree) found.start ≡ (found.end, found.marks) ∷ rest)
    by_lists [] [] same ranked k there = absurd cc
    by_lists [] (e ∷ list) same ranked k there = absurd ranked
    by_lists (way ∷ ways) [] same ranked k there = absurd ranked
    by_lists (way ∷ ways) (e ∷ rest) same (is_way, marks, before, later) k there =
        let one = one_best way is.way (first_of_all way is.way ways k before there)
        (is.most_preferred.preferred way e.0 is_way) in
        let moved = subst (λ w. IsWayThrough tree haystack found.start w e.0) one is_way in
        let at_end = leads_to_one (step haystack (place_of_pattern tree)) is.way
        (start_address, found.start) (end_address, e.0) (end_address, found.end)
        moved.0 is.most_preferred.is_way.0 in
        let ends_same : e.0 ≡ found.end = ap (λ (p : Address × ℕ). p.1) at_end in
        let marks_same : e.1 ≡ found.marks = marks
        ∙ ap (λ w. marks_of_way tree haystack found.start w) one ∙ sym is.marks in
        (rest, same ∙ same_entry e found.end found.marks rest ends_same marks_same)
