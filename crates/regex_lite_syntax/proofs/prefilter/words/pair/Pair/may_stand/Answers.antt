use Rattle.regex_lite_syntax.proofs.prefilter.words.PairLemmas.{exact_letter, none_in_block}
use Rattle.regex_lite_syntax.proofs.prefilter.words.pair.Pair.may_stand.Goals as goal

pub returns-then-is_exact-2 : goal.returns-then-is_exact-2
returns-then-is_exact-2 g c = λ none.
    let a = c.index-word-self.result in
    let b = c.index-word-self-2.result in
    none_in_block c.args.word.now c.args.bytes.now c.args.at g.row.N c.args.self.first
    c.args.self.second
    a b c.requires.first c.requires.second c.index-word-self.is c.index-word-self-2.is
    c.requires.room
    (λ k below first second. c.has_both.ensures none k below
    (exact_letter a _ (c.is_exact.ensures.0 c.if-is_exact.true) first)
    (exact_letter b _ (c.is_exact-then-is_exact.ensures.0 c.if-is_exact-2.true) second))

pub returns-else-is_exact : goal.returns-else-is_exact
returns-else-is_exact g c = λ none.
    none_in_block c.args.word.now c.args.bytes.now c.args.at g.row.N c.args.self.first
    c.args.self.second
    c.index-word-self.result c.index-word-self-2.result c.requires.first c.requires.second
    c.index-word-self.is c.index-word-self-2.is c.requires.room
    (c.has_both_letters.ensures none)
