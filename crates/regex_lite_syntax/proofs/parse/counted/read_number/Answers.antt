use Rattle.regex_lite_syntax.proofs.Common.{◌-◌, ◌^◌, drop, codes, refl, subst, arith, is_digit}
use Rattle.regex_lite_syntax.proofs.Common.{WholeSide, Number}
use Rattle.regex_lite_syntax.proofs.grammar.NumberLemmas.{NoDigit, digit_read, no_digits_read}
use Rattle.regex_lite_syntax.proofs.grammar.NumberLemmas.{number_read, no_number_at_end}
use Rattle.regex_lite_syntax.proofs.grammar.LongerNumberLemmas.{of_text, longer_too_large}
use Rattle.regex_lite_syntax.proofs.grammar.LongerNumberLemmas.{longer_number_only}
use Rattle.regex_lite_syntax.proofs.grammar.LongerNumberLemmas.{no_longer_number}
use Rattle.regex_lite_syntax.proofs.grammar.ResumedNumberLemmas.{number_begun, digit_is_character}
use Rattle.regex_lite_syntax.proofs.parse.IndexLemmas.{left_at_end, some_at}
use Rattle.regex_lite_syntax.proofs.parse.counted.read_number.Goals as goal
use Rattle.regex_lite_syntax.proofs.grammar.WordLemmas.{all_characters}
use Rattle.regex_lite_syntax.proofs.grammar.CompletedGapLemmas.{past_gap}

pub returns-then-first-chars-clause-refused : goal.returns-then-first-chars-clause-refused
returns-then-first-chars-clause-refused c =
    let xs = c.args.chars.now in
    let none = left_at_end xs c.skip_side-first.result c.if-first-chars.true in
    let t = drop c.args.at xs in
    λ more follows (rest, n, number, ends).
    no_number_at_end (subst (λ u. WholeSide c.args.verbose t u) none c.skip_side-first.ensures.side)
    (of_text (λ v. Number c.args.verbose v rest n) t more (follows refl) number)

pub returns-then-first-chars-clause-completes : goal.returns-then-first-chars-clause-completes
returns-then-first-chars-clause-completes c =
    let xs = c.args.chars.now in
    let none = left_at_end xs c.skip_side-first.result c.if-first-chars.true in
    let t = drop c.args.at xs in
    let side = subst (λ u. WholeSide c.args.verbose t u) none c.skip_side-first.ensures.side in
    λ short.
    let greatest = codes "4294967295" in
    past_gap c.args.verbose (λ v rest. Number c.args.verbose v rest (2 ^ 32 - 1)) t greatest
    (all_characters is_digit greatest digit_is_character refl)
    (λ next. number_begun c.args.verbose t next greatest side.0 refl (omega arith) (omega arith))

pub loop-next-init : goal.loop-next-init
loop-next-init c = record {
  inside = (omega arith, omega arith);
  small = omega arith;
  read = no_digits_read _ _ _ (omega arith);
}

pub returns-in_default-with_digit-clause-refused : goal.returns-in_default-with_digit-clause-refused
returns-in_default-with_digit-clause-refused c =
    let some = some_at c.args.chars.now c.skip_side-first.result (omega arith) in
    let read = digit_read {read' = 1} c.loop-next.invariant.read c.in-Some.ensures.some refl in
    λ more follows (rest, n, number, ends).
    longer_too_large more _ c.skip_side-first.ensures.side some read
    (omega (arith, c.in_default-with_digit.ensures)) number ends

pub loop-next-preserved : goal.loop-next-preserved
loop-next-preserved c =
    let inside = c.in-Some.ensures.inside in
    record {
      inside = (omega (arith, inside), inside.1);
      small = omega (arith, c.in-Some-with_digit.ensures);
      read = digit_read c.loop-next.invariant.read c.in-Some.ensures.some
          c.in-Some-with_digit.ensures.1;
    }

pub returns-then-end-first-clause-refused : goal.returns-then-end-first-clause-refused
returns-then-end-first-clause-refused c =
    let xs = c.args.chars.now in
    let some = some_at xs c.skip_side-first.result (omega arith) in
    let none = subst (λ i. NoDigit c.args.verbose (drop i xs)) c.if-end-first.true
    c.in_default.ensures.none in
    λ more follows (rest, n, number, ends).
    no_longer_number more _ _ c.skip_side-first.ensures.side some none number

pub returns-clause-ok : goal.returns-clause-ok
returns-clause-ok c =
    number_read c.skip_side-first.ensures.side c.loop-next.invariant.read
    (omega arith) c.skip_side.ensures.side c.loop-next.invariant.small

pub returns-clause-only : goal.returns-clause-only
returns-clause-only c more rest n follows number ends =
    let some = some_at c.args.chars.now c.skip_side-first.result (omega arith) in
    longer_number_only more _ c.skip_side-first.ensures.side some c.loop-next.invariant.read
    c.in_default.ensures.none c.skip_side.ensures.side follows number ends
