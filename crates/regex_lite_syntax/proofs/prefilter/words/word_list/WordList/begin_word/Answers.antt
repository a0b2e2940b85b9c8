use Rattle.regex_lite_syntax.proofs.Common.{◌≡◌, ◌∷◌, ◌++◌, [], ap, arith, length, sym, ◌∙◌}
use Rattle.regex_lite_syntax.proofs.Common.{drop_all, List, rules, subst}
use Rattle.std.proofs.Common.{ap₂}
use Rattle.regex_lite_syntax.specs.Prefilter.WordLists.{AreEnds, ListOfWords, words_between}
use Rattle.regex_lite_syntax.specs.declared.prefilter.words.letter.Letter.{Letter}
use Rattle.regex_lite_syntax.proofs.prefilter.words.WordListLemmas.{longer, one_more}
use Rattle.regex_lite_syntax.proofs.prefilter.words.word_list.WordList.begin_word.Goals as goal

abbrev listed : List (List Letter) → List Letter → ListOfWords
listed done last = record { done = done; last = last }

pub invariant_of-self-2 : goal.invariant_of-self-2
invariant_of-self-2 c =
    let inside = c.self.inside in
    let same : c.len-end.result ≡ length c.self.inside.letters.items = search rules in (
      subst (λ ends. AreEnds 0 ends c.len-end.result) (sym c.in_ok-push.ensures.items)
          (longer 0 inside.ends.items inside.last c.len-end.result c.self.invariant.0
          (omega (arith, same, c.self.invariant.1))),
      omega (arith, same),
    )

pub returns : goal.returns
returns c = λ begun.
    let inside = c.self.inside in
    let same : c.len-end.result ≡ length c.self.inside.letters.items = search rules in
    let words = ap (λ ends. words_between 0 ends inside.letters.items)
    (c.in_ok-push.ensures.items ∙ ap (λ n. inside.ends.items ++ n ∷ []) same)
    ∙ one_more 0 inside.ends.items inside.last inside.letters.items c.self.invariant.0
    c.self.invariant.1 in
    let none = drop_all c.len-end.result inside.letters.items (omega (arith, same)) in
    ap₂ listed words none
    ∙ ap (λ words. listed (words.done ++ words.last ∷ []) []) c.self.view_is
