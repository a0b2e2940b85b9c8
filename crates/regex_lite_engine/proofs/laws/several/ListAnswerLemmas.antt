-- A search for several patterns has one answer.
use Rattle.regex_lite_engine.proofs.Common.{◌≡◌, ℕ, zero, suc, ◌<◌, ◌≤◌, ◌↔◌, List, [], ◌∷◌}
use Rattle.regex_lite_engine.proofs.Common.{slice_get, Some, None, Option, sym, refl, ap, ◌∙◌}
use Rattle.regex_lite_engine.proofs.Common.{subst, inl, inr, arith, cases_lt, Text, Tree, Matches}
use Rattle.regex_lite_engine.proofs.Common.{IsRegular, HasTree, IsMatchFrom, HasMatchFrom, Found}
use Rattle.regex_lite_engine.proofs.Common.{IsFound, IsAnswer, AnyMatchesFrom, IsAnswerOfList}
use Rattle.std.proofs.Common.{IsSome, le_antisymm}
use Rattle.regex_lite_engine.specs.Search.AnswerOfList.{IsFoundInList}
use Rattle.regex_lite_engine.specs.ListSearchLaws.{by_itself}
use Rattle.regex_lite_engine.proofs.laws.answer.AnswerLemmas.{has_answer, found_match, one_answer}
use Rattle.regex_lite_syntax.proofs.OptionLemmas.{not_there, same_some}

-- an answer is one from where it starts
pub from_its_start : (tree : Tree) (haystack : Text) (s : ℕ) (found : Found)
    → IsFound tree haystack s found → IsFound tree haystack found.start found
from_its_start tree haystack s found is = record {
  from = omega arith;
  inside = is.inside;
  least = λ i j m. m.from;
  way = is.way;
  most_preferred = is.most_preferred;
  marks = is.marks;
}

-- and one from an earlier position, where nothing lies between
from_before : (tree : Tree) (haystack : Text) (s : ℕ) (found : Found) → s ≤ found.start
    → ((i j : ℕ) → IsMatchFrom tree haystack s i j → found.start ≤ i)
    → IsFound tree haystack found.start found → IsFound tree haystack s found
from_before tree haystack s found low least is = record {
  from = low;
  inside = is.inside;
  least = least;
  way = is.way;
  most_preferred = is.most_preferred;
  marks = is.marks;
}

module _ (tree : Tree) (rest : List Tree) (haystack : Text) (s : ℕ) where
  -- the first pattern's answer is that of the list where the others match no earlier
  own_first : (f : Found) → IsFound tree haystack s f
      → ((k i j : ℕ) (other : Tree) → HasTree rest k other → IsMatchFrom other haystack s i j
      → f.start ≤ i)
      → IsFoundInList (tree ∷ rest) haystack s 0 f
  own_first f is others = record {
    tree = tree;
    numbered = refl;
    from = is.from;
    least = least;
    lowest = λ k j other there m. omega arith;
    answer = from_its_start tree haystack s f is;
  }
    where
      least : (k i j : ℕ) (other : Tree) → HasTree (tree ∷ rest) k other
          → IsMatchFrom other haystack s i j → f.start ≤ i
      least zero i j other there m =
          is.least i j (subst (λ t. IsMatchFrom t haystack s i j) (sym (same_some there)) m)
      least (suc k) i j other there m = others k i j other there m

  -- that of the others is where the first pattern matches later
  later_first : (n : ℕ) (g : Found) → IsFoundInList rest haystack s n g
      → ((i j : ℕ) → IsMatchFrom tree haystack s i j → g.start < i)
      → IsFoundInList (tree ∷ rest) haystack s (suc n) g
  later_first n g is later = record {
    tree = is.tree;
    numbered = is.numbered;
    from = is.from;
    least = least;
    lowest = lowest;
    answer = is.answer;
  }
    where
      least : (k i j : ℕ) (other : Tree) → HasTree (tree ∷ rest) k other
          → IsMatchFrom other haystack s i j → g.start ≤ i
      least zero i j other there m =
          let less =
          later i j (subst (λ t. IsMatchFrom t haystack s i j) (sym (same_some there)) m) in
          omega (arith, less)
      least (suc k) i j other there m = is.least k i j other there m

      lowest : (k j : ℕ) (other : Tree) → HasTree (tree ∷ rest) k other
          → Matches haystack other g.start j → suc n ≤ k
      lowest zero j other there m =
          let own : IsMatchFrom tree haystack s g.start j = record {
            from = is.from;
            inside = is.answer.inside;
            matches = subst (λ t. Matches haystack t g.start j) (sym (same_some there)) m;
          } in
          let less = later g.start j own in
          absurd (omega (arith, less))
      lowest (suc k) j other there m =
          let le = is.lowest k j other there m in omega (arith, le)

  abbrev Answered : Type 0
  Answered = (answer : Option (ℕ × Found)) × IsAnswerOfList (tree ∷ rest) haystack s answer

  choose : (a : Option Found) → IsAnswer tree haystack s a → (b : Option (ℕ × Found))
      → IsAnswerOfList rest haystack s b → Answered
  choose None none None gone = (None, λ (k, other, there, m). by_number k other there m)
    where
      by_number : (k : ℕ) (other : Tree) → HasTree (tree ∷ rest) k other
          → HasMatchFrom other haystack s → ⊥
      by_number zero other there m =
          none (subst (λ t. HasMatchFrom t haystack s) (sym (same_some there)) m)
      by_number (suc k) other there m = gone (k, other, there, m)
  choose (Some f) is None gone = (
    Some (0, f),
    own_first f is (λ k i j other there m. absurd (gone (k, other, there, (i, j, m)))),
  )
  choose None none (Some (n, g)) is =
      (Some (suc n, g), later_first n g is (λ i j m. absurd (none (i, j, m))))
  choose (Some f) p (Some (n, g)) q = elim (cases_lt g.start f.start) [
    | inl less ↦ (
      Some (suc n, g),
      later_first n g q (λ i j m. (let le = p.least i j m in omega (arith, le, less))),
    )
    | inr le ↦ (
      Some (0, f),
      own_first f p
          (λ k i j other there m.
          (let more = q.least k i j other there m in omega (arith, more, le))),
    )
  ]

pub has_list_answer : (trees : List Tree) (haystack : Text) (s : ℕ)
    → ((k : ℕ) (tree : Tree) → HasTree trees k tree → IsRegular tree)
    → (answer : Option (ℕ × Found)) × IsAnswerOfList trees haystack s answer
has_list_answer [] haystack s regular =
    (None, λ (k, tree, there, m). not_there there)
has_list_answer (tree ∷ rest) haystack s regular =
    let own = has_answer tree haystack (regular 0 tree refl) s in
    let others = has_list_answer rest haystack s (λ k other there. regular (suc k) other there) in
    choose tree rest haystack s own.0 own.1 others.0 others.1

module _ (trees : List Tree) (haystack : Text)
    (regular : (k : ℕ) (tree : Tree) → HasTree trees k tree → IsRegular tree) (s : ℕ) where
  -- what is found is a match of its pattern, and its answer
  list_match : (k : ℕ) (f : Found) (is : IsFoundInList trees haystack s k f)
      → IsMatchFrom is.tree haystack s f.start f.end
  list_match k f is =
      let m = found_match is.tree haystack (regular k is.tree is.numbered) f.start f is.answer in
      record { from = is.from; inside = m.inside; matches = m.matches }

  one_list_found : (k l : ℕ) (f g : Found) → IsFoundInList trees haystack s k f
      → IsFoundInList trees haystack s l g
      → ◌≡◌ {A = Option (ℕ × Found)} (Some (k, f)) (Some (l, g))
  one_list_found k l f g p q = λ t. Some (number t, found t)
    where
      start : f.start ≡ g.start
      start = le_antisymm
          (p.least l g.start g.end q.tree q.numbered (list_match l g q))
          (q.least k f.start f.end p.tree p.numbered (list_match k f p))

      p_matches : Matches haystack p.tree g.start f.end
      p_matches = subst (λ z. Matches haystack p.tree z f.end) start (list_match k f p).matches

      q_matches : Matches haystack q.tree f.start g.end
      q_matches =
          subst (λ z. Matches haystack q.tree z g.end) (sym start) (list_match l g q).matches

      number : k ≡ l
      number = le_antisymm
          (p.lowest l g.end q.tree q.numbered q_matches)
          (q.lowest k f.end p.tree p.numbered p_matches)

      tree : p.tree ≡ q.tree
      tree = same_some (sym p.numbered ∙ ap (slice_get trees) number ∙ q.numbered)

      moved : IsAnswer p.tree haystack f.start (Some g)
      moved = subst (λ (x : Tree). IsAnswer x haystack f.start (Some g)) (sym tree)
          (subst (λ z. IsAnswer q.tree haystack z (Some g)) (sym start) q.answer)

      found : f ≡ g
      found = same_some (one_answer p.tree haystack (regular k p.tree p.numbered) f.start (Some f)
          (Some g) p.answer moved)

  pub one_list_answer : (a b : Option (ℕ × Found)) → IsAnswerOfList trees haystack s a
      → IsAnswerOfList trees haystack s b → a ≡ b
  one_list_answer None None p q = refl
  one_list_answer None (Some (l, g)) p q =
      absurd (p (l, q.tree, q.numbered, (g.start, g.end, list_match l g q)))
  one_list_answer (Some (k, f)) None p q =
      absurd (q (k, p.tree, p.numbered, (f.start, f.end, list_match k f p)))
  one_list_answer (Some (k, f)) (Some (l, g)) p q = one_list_found k l f g p q

  pub list_answers : (answer : Option (ℕ × Found)) → IsAnswerOfList trees haystack s answer
      → (IsSome answer ↔ AnyMatchesFrom trees haystack s)
      × ((number : ℕ) (found : Found) → answer ≡ Some (number, found)
      → (tree : Tree) × HasTree trees number tree
      × IsMatchFrom tree haystack s found.start found.end
      × IsAnswer tree haystack s (Some found))
  list_answers None gone =
      ((λ some. absurd (cc (some)), λ any. absurd (gone any)), λ k f e. absurd cc)
  list_answers (Some (k, f)) is = (
    (λ some. (k, is.tree, is.numbered, (f.start, f.end, list_match k f is)), λ any. refl),
    λ l g e. by_parts l g (ap (λ (z : ℕ × Found). z.0) (same_some e))
        (ap (λ (z : ℕ × Found). z.1) (same_some e)),
  )
    where
      by_parts : (l : ℕ) (g : Found) → k ≡ l → f ≡ g → (tree : Tree) × HasTree trees l tree
          × IsMatchFrom tree haystack s g.start g.end × IsAnswer tree haystack s (Some g)
      by_parts l g e d = (
        is.tree,
        ap (slice_get trees) (sym e) ∙ is.numbered,
        subst (λ (z : Found). IsMatchFrom is.tree haystack s z.start z.end) d (list_match k f is),
        subst (λ (z : Found). IsAnswer is.tree haystack s (Some z)) d
            (from_before is.tree haystack s f is.from
            (λ i j m. is.least k i j is.tree is.numbered m) is.answer),
      )

pub none_match : (haystack : Text) (s : ℕ) → IsAnswerOfList [] haystack s None
none_match haystack s = λ (k, tree, there, m). not_there there

-- a list of one pattern
module _ (tree : Tree) (haystack : Text) (s : ℕ) where
  pub alone_in_list : (answer : Option Found) → IsAnswer tree haystack s answer
      → IsAnswerOfList (tree ∷ []) haystack s (by_itself answer)
  unfolding choose
  alone_in_list None is = (choose tree [] haystack s None is None (none_match haystack s)).1
  alone_in_list (Some f) is =
      (choose tree [] haystack s (Some f) is None (none_match haystack s)).1

  pub alone_by_itself : (answer : Option Found)
      → IsAnswerOfList (tree ∷ []) haystack s (by_itself answer) → IsAnswer tree haystack s answer
  alone_by_itself None gone = λ m. gone (0, tree, refl, m)
  alone_by_itself (Some f) is =
      from_before tree haystack s f is.from (λ i j m. is.least 0 i j tree refl m)
      (subst (λ (t : Tree). IsFound t haystack f.start f) (sym (same_some is.numbered)) is.answer)
