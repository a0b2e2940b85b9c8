-- The answers of a regex, and of a list of patterns, are lawful.
use Rattle.regex_lite.proofs.Common.{◌≡◌, ℕ, ◌≤◌, List, Option, length, chars, subst, arith, Text}
use Rattle.regex_lite.proofs.Common.{Tree, Found, IsFound, IsPatternTree, IsWithin, AreLawful}
use Rattle.regex_lite.proofs.Common.{Expression}
use Rattle.regex_lite.proofs.Common.{IsAnswerOf, IsAnswerOfPatterns}
use Rattle.regex_lite_engine.specs.Graph.WrittenOut.{place_of_pattern, start_address, end_address}
use Rattle.regex_lite_engine.specs.ListSearchLaws.{ArePatternTrees}
use Rattle.regex_lite_engine.specs.Search.Answer.{IsAnswer, IsOfWay}
use Rattle.regex_lite_engine.specs.Search.AnswerOfList.{IsAnswerOfList}
use Rattle.regex_lite_engine.proofs.laws.PatternTreeLemmas.{regular_tree}
use Rattle.regex_lite_engine.proofs.laws.answer.AnswerAtLemmas.{way_of_found}
use Rattle.regex_lite_engine.proofs.laws.answer.AnswerLemmas.{one_answer}
use Rattle.regex_lite_engine.proofs.laws.answer.ReachLemmas.{walk_inside}
use Rattle.regex_lite_engine.proofs.laws.groups.SpanLemmas.{groups_inside}
use Rattle.regex_lite_engine.proofs.laws.several.ListAnswerLemmas.{one_list_answer}
use Rattle.regex_lite.proofs.ListBuildLemmas.{one_list, pattern_tree}
use Rattle.regex_lite.proofs.OneTreeLemmas.{one_tree}

-- what is reported of a way lies in the haystack
pub way_within : (tree : Tree) (haystack : Text) (found : Found) → IsPatternTree tree
    → IsOfWay tree haystack found → (found.start ≤ found.end) × (found.end ≤ length haystack)
way_within tree haystack found given is =
    let inner = groups_inside tree haystack found (regular_tree tree given) is in (
      (inner.inside 0 found.start found.end inner.whole).1,
      walk_inside haystack (place_of_pattern tree) is.way (start_address, found.start)
          (end_address, found.end) is.is_way.0 is.inside,
    )

pub found_within : (tree : Tree) (haystack : Text) (s : ℕ) (found : Found) → IsPatternTree tree
    → IsFound tree haystack s found → IsWithin haystack s found
found_within tree haystack s found given is =
    let own = way_within tree haystack found given (way_of_found tree haystack s found is) in
    record { from = is.from; ordered = own.0; inside = own.1 }

-- an answer from s is also the answer from any position up to its start
pub answer_from : (tree : Tree) (haystack : Text) (s p : ℕ) (found : Found) → s ≤ p
    → p ≤ found.start → IsFound tree haystack s found → IsFound tree haystack p found
answer_from tree haystack s p found further before is = record {
  from = before;
  inside = is.inside;
  least = λ i j m. is.least i j (record {
    from = omega (arith, further, m.from);
    inside = m.inside;
    matches = m.matches;
  });
  way = is.way;
  most_preferred = is.most_preferred;
  marks = is.marks;
}

one_of : (re : Expression) (haystack : Text) (s : ℕ) (a b : Option Found)
    → IsAnswerOf re haystack s a → IsAnswerOf re haystack s b → a ≡ b
one_of re haystack s a b (tree, given, is) (other, given_too, is_too) =
    one_answer tree haystack (regular_tree tree (re.flags, _, given)) s a b is
    (subst (λ t. IsAnswer t haystack s b)
    (one_tree re.flags (chars re.pattern) other tree given_too given) is_too)

pub regex_lawful : (re : Expression) (haystack : Text)
    → AreLawful (λ (own : Found). own) haystack (IsAnswerOf re haystack)
regex_lawful re haystack = record {
  within = λ s found (tree, given, is).
      found_within tree haystack s found (re.flags, _, given) is;
  further = λ s p found later before (tree, given, is).
      (tree, given, answer_from tree haystack s p found later before is);
  one = one_of re haystack;
}

-- so are those of several trees
list_lawful : (trees : List Tree) (haystack : Text) → ArePatternTrees trees
    → AreLawful (λ (own : ℕ × Found). own.1) haystack (IsAnswerOfList trees haystack)
list_lawful trees haystack given = record {
  within = λ s answer is.
      let own = found_within is.tree haystack answer.1.start answer.1
      (given answer.0 is.tree is.numbered) is.answer in
      record { from = is.from; ordered = own.ordered; inside = own.inside };
  further = λ s p answer later before is. record {
    tree = is.tree;
    numbered = is.numbered;
    from = before;
    least = λ k i j other there m. is.least k i j other there (record {
      from = omega (arith, later, m.from);
      inside = m.inside;
      matches = m.matches;
    });
    lowest = is.lowest;
    answer = is.answer;
  };
  one = λ s. one_list_answer trees haystack
      (λ k tree there. regular_tree tree (given k tree there)) s;
}

-- and those of several patterns, which have one list of trees
pub patterns_lawful : (list : List Expression) (haystack : Text)
    → AreLawful (λ (own : ℕ × Found). own.1) haystack (IsAnswerOfPatterns list haystack)
patterns_lawful list haystack = record {
  within = λ s answer (trees, given, is).
      (list_lawful trees haystack (pattern_tree list trees given)).within s answer is;
  further = λ s p answer later before (trees, given, is). (
    trees,
    given,
    (list_lawful trees haystack (pattern_tree list trees given)).further s p answer later before is,
  );
  one = λ s a b (trees, given, is) (other, given_too, is_too).
      (list_lawful trees haystack (pattern_tree list trees given)).one s a b is
      (subst (λ own. IsAnswerOfList own haystack s b) (one_list list other trees given_too given)
      is_too);
}
