use Rattle.regex_lite_engine.proofs.Common.{◌≡◌, [], length, get_or, Some, None, sym, subst, arith}
use Rattle.regex_lite_engine.proofs.Common.{nil_from_length, take_all}
use Rattle.std.proofs.lemmas.List.{drop_all}
use Rattle.std.proofs.lemmas.Str.Pattern.{find_char}
use Rattle.regex_lite_engine.proofs.interpolate.TextLemmas.{text_first}
use Rattle.regex_lite_engine.proofs.interpolate.split_text.Goals as goal

pub returns-in-Some-clause-cut : goal.returns-in-Some-clause-cut
returns-in-Some-clause-cut c =
    let t = c.args.template.now in
    let found = find_char 36 t (Some c.in-Some.end) c.in-Some.ensures.cases (omega arith) in
    text_first t c.split_at.result.0.now c.split_at.result.1.now c.in-Some.end
    c.requires.some found.2
    (λ zero. subst (λ i. ◌≡◌ (get_or t i 0) 36) zero found.1) c.requires.start
    (omega (arith, found.0)) c.split_at.ensures.front c.split_at.ensures.back

pub returns-in-None-clause-cut : goal.returns-in-None-clause-cut
returns-in-None-clause-cut c =
    let t = c.args.template.now in
    let lacks = find_char 36 t None c.in-None.ensures.cases (omega arith) in
    text_first t t [] (length t) c.requires.some lacks
    (λ none. absurd (c.requires.some (nil_from_length t none))) c.requires.start (omega arith)
    (sym (take_all (length t) t (omega arith))) (sym (drop_all (length t) t (omega arith)))
