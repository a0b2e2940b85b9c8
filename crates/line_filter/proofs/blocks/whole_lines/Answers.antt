use Rattle.std.proofs.Common.{◌≡◌, ◌<◌, ◌≤◌, ◌+◌, ◌-◌, ◌==◌, ◌∙◌, ◌++◌, suc, true, arith, take}
use Rattle.std.proofs.Common.{drop, length, subst}
use Rattle.std.proofs.lemmas.List.{get_or-drop, get_or-take, length-drop, length-take-le}
use Rattle.line_filter.specs.Lines.{lines_of}
use Rattle.line_filter.proofs.LineLemmas.{whole_upto}
use Rattle.line_filter.proofs.blocks.whole_lines.Goals as goal

pub returns-in-Some-clause-whole : goal.returns-in-Some-clause-whole
returns-in-Some-clause-whole c = λ more.
    let bytes = c.args.bytes.now in
    let start = c.args.start in
    let at = c.in-Some.at in
    let count = length bytes - start in
    let few : count ≤ length (drop start bytes) = omega (arith, length-drop start bytes) in
    let long = length-take-le count (drop start bytes) few in
    let inside : at < count = omega (arith, c.in-Some.ensures.0.high, long) in
    let feed = subst (λ byte. (byte == 10) ≡ true)
    (get_or-take count (drop start bytes) at 0 inside ∙ get_or-drop start bytes at 0)
    c.in-Some.ensures.1 in
    let after : suc (start + at) ≡ start + at + 1 = omega arith in
    subst (λ n. lines_of (bytes ++ more)
    ≡ lines_of (take n bytes) ++ lines_of (drop n bytes ++ more)) after
    (whole_upto bytes more (start + at) (omega (arith, inside)) feed)
