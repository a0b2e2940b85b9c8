-- An anchored answer is the answer where that starts there.
use Rattle.regex_lite_engine.proofs.Common.{◌≡◌, ℕ, ◌≤◌, false, List, sym, subst, arith, Text}
use Rattle.regex_lite_engine.proofs.Common.{Tree, Found, IsFound, IsMatchFrom, IsWayThrough}
use Rattle.regex_lite_engine.specs.Search.Answer.{IsOfWay}
use Rattle.regex_lite_engine.specs.Search.AnswerAt.{HasMatchAt, IsFoundAt, IsFoundAtInList}
use Rattle.regex_lite_engine.specs.Search.AnswerOfList.{IsFoundInList}
use Rattle.regex_lite_syntax.specs.Tree.Matches.{Matches}

-- what is found is that of a way
pub way_of_found : (tree : Tree) (haystack : Text) (s : ℕ) (found : Found)
    → IsFound tree haystack s found → IsOfWay tree haystack found
way_of_found tree haystack s found is = record {
  inside = is.inside;
  way = is.way;
  is_way = is.most_preferred.is_way;
  marks = is.marks;
}

-- a match that starts from position s up to s starts there
pub starts_at : (tree : Tree) (haystack : Text) (s i j : ℕ) → i ≤ s
    → IsMatchFrom tree haystack s i j
    → HasMatchAt false tree haystack s
starts_at tree haystack s i j up_to m =
    let low = m.from in
    let same : i ≡ s = omega (arith, low, up_to) in
    subst (HasMatchAt false tree haystack) same (m.inside, (j, tt, m.matches))

module _ (tree : Tree) (haystack : Text) (s : ℕ) (found : Found) where
  pub found_at : IsFound tree haystack s found → found.start ≤ s
      → IsFoundAt false tree haystack s found
  unfolding way_of_found
  found_at is up_to =
      let from = is.from in
      let same : found.start ≡ s = omega (arith, from, up_to) in
      record {
        start = same;
        ends = tt;
        of_way = way_of_found tree haystack s found is;
        preferred = λ other j may way.
            is.most_preferred.preferred other j
            (subst (λ z. IsWayThrough tree haystack z other j) (sym same) way);
      }

  -- and the other way round
  pub found_from : IsFoundAt false tree haystack s found → IsFound tree haystack s found
  found_from is = record {
    from = omega (arith, is.start);
    inside = is.of_way.inside;
    least = λ i j m. (let low = m.from in omega (arith, low, is.start));
    way = is.of_way.way;
    most_preferred = record {
      is_way = is.of_way.is_way;
      preferred = λ other j way.
          is.preferred other j tt
          (subst (λ z. IsWayThrough tree haystack z other j) is.start way);
    };
    marks = is.of_way.marks;
  }

module _ (trees : List Tree) (haystack : Text) (s number : ℕ) (found : Found) where
  pub found_at_in_list : IsFoundInList trees haystack s number found → found.start ≤ s
      → IsFoundAtInList false trees haystack s number found
  found_at_in_list is up_to =
      let from = is.from in
      let same : found.start ≡ s = omega (arith, from, up_to) in
      record {
        tree = is.tree;
        numbered = is.numbered;
        answer =
            found_at is.tree haystack s found
            (subst (λ z. IsFound is.tree haystack z found) same is.answer) up_to;
        lowest = λ k other there (inside, (j, may, m)).
            is.lowest k j other there (subst (λ z. Matches haystack other z j) (sym same) m);
      }
