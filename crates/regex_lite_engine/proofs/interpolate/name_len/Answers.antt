use Rattle.regex_lite_engine.proofs.Common.{◌≡◌, ◌≤◌, false, length, get_or, sym, arith, rules}
use Rattle.regex_lite_engine.proofs.Common.{is_name_character}
use Rattle.std.proofs.lemmas.List.Sums.{prefix_len_is}
use Rattle.regex_lite_engine.proofs.interpolate.name_len.Goals as goal

pub returns-then-not-is_valid_cap_letter : goal.returns-then-not-is_valid_cap_letter
returns-then-not-is_valid_cap_letter c =
    let bytes = c.args.bytes.now in
    let inside : c.loop-i.i ≤ length bytes = search rules in
    let ends : is_name_character (get_or bytes c.loop-i.i 0) ≡ false = search rules in
    sym (prefix_len_is is_name_character bytes c.loop-i.i 0 inside c.loop-i.invariant (λ _. ends))

pub returns : goal.returns
returns c =
    let bytes = c.args.bytes.now in
    sym (prefix_len_is is_name_character bytes (length bytes) 0 (omega arith)
    (λ k l. c.loop-i.invariant k (omega (arith, l, c.loop-i-test.false)))
    (λ l. absurd (omega arith)))
