use Rattle.regex_lite_syntax.proofs.Common.{◌≡◌, ℕ, ◌≤◌, ◌++◌, drop, sym, refl, ap, ◌∙◌, subst}
use Rattle.regex_lite_syntax.proofs.Common.{arith, ClassElement, one, RangeTo, Set, span}
use Rattle.regex_lite_syntax.specs.declared.parse.escape.Primitive.{Primitive}
use Rattle.regex_lite_syntax.specs.declared.parse.escape.Primitive.TheVariants as primitives
use Rattle.regex_lite_syntax.specs.Parser.Readings.{primitive_of}
use Rattle.regex_lite_syntax.proofs.ExitLemmas.{at_exit}
use Rattle.regex_lite_syntax.proofs.grammar.ClassLemmas.{one_same, part_once}
use Rattle.regex_lite_syntax.proofs.parse.CompletionLemmas.{completes_part}
use Rattle.regex_lite_syntax.proofs.parse.bracket.LongerItemLemmas.{char_before, part_longer}
use Rattle.regex_lite_syntax.proofs.parse.bracket.item.read_range.Goals as goal

-- a primitive that is no character
no_char : (p : Primitive) (c : ℕ) → ((d : ℕ) → p ≡ primitives.Char d → ⊥)
    → primitive_of p ≡ one c → ⊥
no_char (primitives.Char d) c none is = none d refl
no_char _ c none is = cc is

pub returns-in_err-past-clause-refused : goal.returns-in_err-past-clause-refused
returns-in_err-past-clause-refused c =
    at_exit _ _ c.from_residual.ensures.1 (λ more follows found.
    let starts = one_same _ _ (sym (ap primitive_of c.in-Char.is) ∙ found.2.starts) in
    let reaches : c.in-Char.start ≤ found.2.end = omega (arith, starts, found.2.ordered) in
    c.in_err-past.ensures.refused more follows
    (found.0, one found.2.end, found.2.ends, tt, reaches))

pub returns-in_err-past-clause-completes : goal.returns-in_err-past-clause-completes
returns-in_err-past-clause-completes c =
    let verbose = c.args.verbose in
    let t = drop c.args.last c.args.chars.now in
    let start = c.in-Char.start in
    at_exit _ _ c.from_residual.ensures.1 (λ short.
    completes_part (λ u r. (d : ℕ) × ClassElement verbose u r (one d) × (start ≤ d))
    (λ u r. (s : Set) × RangeTo verbose (primitive_of c.args.first) u r s) t t (λ more r found. (
      span start found.0,
      record {
        start = start;
        end = found.0;
        starts = ap primitive_of c.in-Char.is;
        ends = found.1;
        ordered = found.2;
        set_is = refl;
      },
    )) (c.in_err-past.ensures.completes short))

pub returns-then-start-end-clause-refused : goal.returns-then-start-end-clause-refused
returns-then-start-end-clause-refused c =
    let verbose = c.args.verbose in
    let xs = c.args.chars.now in
    let t = drop c.args.last xs in
    let part = subst (λ e. ClassElement verbose t (drop c.in_ok-past.past xs) (primitive_of e))
    c.in-Char-element.is c.in_ok-past.ensures.ok in
    λ more follows found.
    let starts = one_same _ _ (sym (ap primitive_of c.in-Char.is) ∙ found.2.starts) in
    let longer = part_longer more verbose t (drop c.in_ok-past.past xs) _ tt part in
    let ends = one_same _ _ (part_once verbose (t ++ more) _ found.0 _ _ longer found.2.ends).1 in
    omega (arith, starts, ends, found.2.ordered, c.if-start-end.true)

pub returns-clause-ok : goal.returns-clause-ok
returns-clause-ok c =
    let verbose = c.args.verbose in
    let xs = c.args.chars.now in
    let t = drop c.args.last xs in
    let part = subst (λ e. ClassElement verbose t (drop c.in_ok-past.past xs) (primitive_of e))
    c.in-Char-element.is c.in_ok-past.ensures.ok in
    record {
      start = c.in-Char.start;
      end = c.in-Char-element.end;
      starts = ap primitive_of c.in-Char.is;
      ends = part;
      ordered = c.if-start-end.false;
      set_is = refl;
    }

pub returns-in_default-clause-refused : goal.returns-in_default-clause-refused
returns-in_default-clause-refused c more follows found =
    no_char c.args.first found.2.start c.in_default.not-Char found.2.starts

pub returns-in_default-element-clause-refused : goal.returns-in_default-element-clause-refused
returns-in_default-element-clause-refused c more follows found =
    let verbose = c.args.verbose in
    let xs = c.args.chars.now in
    let char = char_before more verbose (drop c.args.last xs) (drop c.in_ok-past.past xs) found.0
    (primitive_of c.in_ok-past.element) found.2.end c.in_ok-past.ensures.ok found.2.ends in
    no_char c.in_ok-past.element char.0 c.in_default-element.not-Char char.1
