use Rattle.regex_lite_syntax.proofs.Common.{◌≡◌, ap, sym, ◌∙◌, ◌+◌, length, rules}
use Rattle.regex_lite_syntax.specs.Prefilter.WordLists.{all_words}
use Rattle.regex_lite_syntax.proofs.prefilter.words.WordListLemmas.{how_many}
use Rattle.regex_lite_syntax.proofs.prefilter.words.word_list.WordList.len.Goals as goal

pub returns : goal.returns
returns c =
    let inside = c.self.inside in
    let same : c.len.result ≡ length c.self.inside.ends.items = search rules in
    ap (λ n. n + 1) same
    ∙ sym (how_many 0 inside.ends.items inside.letters.items _)
    ∙ ap (λ words. length (all_words words)) c.self.view_is
