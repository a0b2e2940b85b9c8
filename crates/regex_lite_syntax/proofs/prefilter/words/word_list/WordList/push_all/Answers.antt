use Rattle.regex_lite_syntax.proofs.Common.{◌++◌, ap, drop, List}
use Rattle.regex_lite_syntax.proofs.Common.{◌∙◌}
use Rattle.std.proofs.Common.{ap₂}
use Rattle.std.proofs.lemmas.List.{drop-append-le}
use Rattle.regex_lite_syntax.specs.declared.prefilter.words.letter.Letter.{Letter}
use Rattle.regex_lite_syntax.specs.Prefilter.WordLists.{ListOfWords, words_between}
use Rattle.regex_lite_syntax.proofs.prefilter.words.WordListLemmas.{same_words}
use Rattle.regex_lite_syntax.proofs.prefilter.words.word_list.WordList.push_all.Goals as goal

abbrev listed : List (List Letter) → List Letter → ListOfWords
listed done last = record { done = done; last = last }

pub returns : goal.returns
returns c =
    let inside = c.self.inside in
    let more = c.args.letters.now in
    let added = c.in_ok-extend_from_slice.ensures.items in
    ap₂ listed
    (ap (words_between 0 inside.ends.items) added
    ∙ same_words 0 inside.ends.items inside.last inside.letters.items more
    c.self.invariant.0 c.self.invariant.1)
    (ap (drop inside.last) added
    ∙ drop-append-le inside.last inside.letters.items more c.self.invariant.1)
    ∙ ap (λ words. listed words.done (words.last ++ more)) c.self.view_is
