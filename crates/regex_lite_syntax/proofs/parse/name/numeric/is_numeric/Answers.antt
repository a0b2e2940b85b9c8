use Rattle.regex_lite_syntax.proofs.Common.{◌≡◌, ◌<◌, ℕ, ◌∙◌, refl, sym, arith, nat_tests}
use Rattle.std.specs.Bool.{beq}
use Rattle.std.specs.Char.{is_ascii_digit}
use Rattle.unicode.specs.GeneralCategory.{general_category}
use Rattle.unicode.proofs.Facts.{Stepped-below, same_from_beq}
use Rattle.unicode.proofs.GeneralCategoryLemmas.{general_category_stepped}
use Rattle.unicode.proofs.Stepped.{map_stepped}
use Rattle.unicode.proofs.TableComputing.{tables}
use Rattle.regex_lite_syntax.specs.Grammar.GroupNames.{is_number}
use Rattle.regex_lite_syntax.proofs.parse.name.numeric.is_numeric.Goals as goal

-- of the ASCII characters the digits alone are numbers
ascii_numbers : (c : ℕ) → c < 128 → is_number (general_category c) ≡ is_ascii_digit c
unfolding tables general_category_stepped
ascii_numbers c ascii =
    let steps = map_stepped is_number general_category general_category_stepped in
    same_from_beq _ _
    (Stepped-below _ steps (λ x value. beq value (is_ascii_digit x)) 128 refl c ascii)

pub returns-then-is_ascii : goal.returns-then-is_ascii
returns-then-is_ascii c =
    let ascii : c.args.c < 128 = grind (arith, nat_tests) in
    c.is_ascii_digit.ensures.value ∙ sym (ascii_numbers c.args.c ascii)

pub returns : goal.returns
returns c = c.contains.ensures (λ x. is_number (general_category x)) c.runs.ensures
