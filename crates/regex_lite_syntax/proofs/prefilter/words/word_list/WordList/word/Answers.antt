use Rattle.regex_lite_syntax.proofs.Common.{◌≡◌, ℕ, ◌≤◌, ◌<◌, ◌∷◌, ◌++◌, [], ap, arith, drop, refl}
use Rattle.regex_lite_syntax.proofs.Common.{length, List, slice_index, subst, sym, take, ◌-◌, ◌∙◌}
use Rattle.std.proofs.Common.{ap₂}
use Rattle.regex_lite_syntax.specs.declared.prefilter.words.letter.Letter.{Letter}
use Rattle.regex_lite_syntax.specs.Prefilter.WordLists.{ListOfWords, all_words, words_between}
use Rattle.regex_lite_syntax.specs.Prefilter.Words.{word_at}
use Rattle.regex_lite_syntax.proofs.prefilter.words.WordListLemmas.{how_many, in_order, is_word}
use Rattle.regex_lite_syntax.proofs.prefilter.words.word_list.WordList.word.Goals as goal

-- the word is the last one or one before it
few : (words view : ListOfWords) (ends : List ℕ) (letters : List Letter) (n : ℕ)
    → view ≡ words → view.done ≡ words_between 0 ends letters → n < length (all_words words)
    → n ≤ length ends
few words view ends letters n is done less =
    let many = ap (λ w. length (all_words w)) is in
    let all = ap (λ d. length (d ++ view.last ∷ [])) done ∙ how_many 0 ends letters view.last in
    omega (arith, many, all, less)

pub begin_of-from-requires : goal.begin_of-from-requires
begin_of-from-requires c =
    let inside = c.self.inside in
    subst (λ ends. c.args.number ≤ length ends) (sym c.deref.ensures.value)
    (few _ _ inside.ends.items inside.letters.items c.args.number c.self.view_is refl c.requires)

pub end_of-end-requires : goal.end_of-end-requires
end_of-end-requires c =
    let inside = c.self.inside in
    subst (λ ends. c.args.number ≤ length ends) (sym c.deref-2.ensures.value)
    (few _ _ inside.ends.items inside.letters.items c.args.number c.self.view_is refl c.requires)

pub part-requires-clause-order : goal.part-requires-clause-order
part-requires-clause-order c =
    let inside = c.self.inside in
    let len = c.len.ensures ∙ sym c.deref-3.ensures.len ∙ ap length c.deref-3.ensures.value in
    let from = c.begin_of-from.ensures ∙ ap (λ ends. slice_index (0 ∷ ends) c.args.number)
    c.deref.ensures.value in
    let end = c.end_of-end.ensures ∙ ap₂ (λ ends n. slice_index (ends ++ n ∷ []) c.args.number)
    c.deref-2.ensures.value len in
    let both = in_order 0 inside.ends.items inside.last (length inside.letters.items) c.args.number
    c.self.invariant.0 c.self.invariant.1
    (few _ _ inside.ends.items inside.letters.items c.args.number c.self.view_is refl c.requires) in
    omega (arith, from, end, both.0)

pub part-requires-clause-inside : goal.part-requires-clause-inside
part-requires-clause-inside c =
    let inside = c.self.inside in
    let same = ap length c.deref-3.ensures.value in
    let len = c.len.ensures ∙ sym c.deref-3.ensures.len ∙ same in
    let end = c.end_of-end.ensures ∙ ap₂ (λ ends n. slice_index (ends ++ n ∷ []) c.args.number)
    c.deref-2.ensures.value len in
    let both = in_order 0 inside.ends.items inside.last (length inside.letters.items) c.args.number
    c.self.invariant.0 c.self.invariant.1
    (few _ _ inside.ends.items inside.letters.items c.args.number c.self.view_is refl c.requires) in
    omega (arith, end, both.1, same)

pub returns : goal.returns
returns c =
    let inside = c.self.inside in
    let number = c.args.number in
    let len = c.len.ensures ∙ sym c.deref-3.ensures.len ∙ ap length c.deref-3.ensures.value in
    let from = c.begin_of-from.ensures ∙ ap (λ ends. slice_index (0 ∷ ends) number)
    c.deref.ensures.value in
    let end = c.end_of-end.ensures ∙ ap₂ (λ ends n. slice_index (ends ++ n ∷ []) number)
    c.deref-2.ensures.value len in
    c.part.ensures
    ∙ ap (λ letters. take (c.end_of-end.result - c.begin_of-from.result)
    (drop c.begin_of-from.result letters)) c.deref-3.ensures.value
    ∙ ap₂ (λ e b. take (e - b) (drop b inside.letters.items)) end from
    ∙ is_word 0 inside.ends.items inside.last number inside.letters.items
    c.self.invariant.0 c.self.invariant.1
    (few _ _ inside.ends.items inside.letters.items number c.self.view_is refl c.requires)
    ∙ ap (λ words. word_at (all_words words) number) c.self.view_is
