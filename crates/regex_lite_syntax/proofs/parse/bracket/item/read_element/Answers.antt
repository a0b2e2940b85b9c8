use Rattle.regex_lite_syntax.proofs.Common.{◌≡◌, ℕ, ◌+◌, ◌≤◌, ◌∷◌, ◌++◌, drop, Ok, Err, Result, sym}
use Rattle.regex_lite_syntax.proofs.Common.{ap, ◌∙◌, subst, false≢true, IfErr-weaker, IfOk-weaker}
use Rattle.regex_lite_syntax.proofs.Common.{ClassElement, one, Escape, IsElement, ReachesTo, Text}
use Rattle.regex_lite_syntax.proofs.Common.{the}
use Rattle.std.proofs.Common.{MatchResult, IfOk, is_ok}
use Rattle.regex_lite_syntax.specs.Grammar.Escapes.{Primitive}
use Rattle.regex_lite_syntax.specs.Grammar.Classes.{escaped}
use Rattle.regex_lite_syntax.proofs.parse.DenialLemmas.{none_of_part}
use Rattle.regex_lite_syntax.proofs.parse.IndexLemmas.{drop_char}
use Rattle.regex_lite_syntax.proofs.parse.bracket.ClassItemLemmas.{part_literal, escape_of_part}
use Rattle.regex_lite_syntax.proofs.parse.CompletionLemmas.{completes_of}
use Rattle.regex_lite_syntax.proofs.parse.bracket.item.read_element.Goals as goal
use Rattle.regex_lite_syntax.proofs.parse.bracket.item.read_element.Goals.{Else-c-ne92}

pub returns-then-c-ne92-clause-ok : goal.returns-then-c-ne92-clause-ok
returns-then-c-ne92-clause-ok c =
    let here = drop_char c.args.chars.now c.args.at c.index-chars-at.result c.requires.inside
    c.index-chars-at.is in
    part_literal _ _ _ _ here c.if-c-ne92.true c.requires.past_gap

-- a backslash stands there
backslash : (c : Else-c-ne92)
    → drop c.args.at c.args.chars.now ≡ the "\\" ∷ drop (c.args.at + 1) c.args.chars.now
backslash c =
    let xs = c.args.chars.now in
    drop_char xs c.args.at c.index-chars-at.result c.requires.inside c.index-chars-at.is
    ∙ ap (λ d. d ∷ drop (c.args.at + 1) xs) c.if-c-ne92.false

pub returns-then-not-is_at-clause-ok : goal.returns-then-not-is_at-clause-ok
returns-then-not-is_at-clause-ok c =
    let here = backslash (goal.at.returns-then-not-is_at-clause-ok c).Else-c-ne92 in
    IfOk-weaker _ _ _ (λ r x. escaped (drop (c.args.at + 1) c.args.chars.now) here x)
    c.read_escape.ensures.ok

pub returns-then-not-is_at-clause-refused : goal.returns-then-not-is_at-clause-refused
returns-then-not-is_at-clause-refused c =
    let verbose = c.args.verbose in
    let least = c.args.least in
    let t = drop c.args.at c.args.chars.now in
    let rest = drop (c.args.at + 1) c.args.chars.now in
    let here = backslash (goal.at.returns-then-not-is_at-clause-refused c).Else-c-ne92 in
    none_of_part c.read_escape.result
    (λ u. (r : Text) × (p : Primitive) × ClassElement verbose u r p × IsElement p
    × ReachesTo least p)
    (λ u. (r : Text) × (p : Primitive) × Escape verbose u r p × ReachesTo least p) t rest
    (λ more (r, p, part, element, reaches). (
      r,
      p,
      escape_of_part verbose (t ++ more) (rest ++ more) r p (ap (λ u. u ++ more) here) part,
      reaches,
    )) c.read_escape.ensures.refused

pub returns-then-not-is_at-clause-completes : goal.returns-then-not-is_at-clause-completes
returns-then-not-is_at-clause-completes c =
    let verbose = c.args.verbose in
    let least = c.args.least in
    let t = drop c.args.at c.args.chars.now in
    let rest = drop (c.args.at + 1) c.args.chars.now in
    let here = backslash (goal.at.returns-then-not-is_at-clause-completes c).Else-c-ne92 in
    let bare = c.is_at.ensures.absent c.if-not-is_at.true in
    completes_of c.read_escape.result (λ u r. (d : ℕ) × Escape verbose u r (one d) × (least ≤ d))
    (λ u r. (d : ℕ) × ClassElement verbose u r (one d) × (least ≤ d)) rest t
    (λ more r (d, escape, reaches).
    (d, escaped (rest ++ more) (ap (λ u. u ++ more) here) escape, reaches))
    (IfErr-weaker c.read_escape.result _ _ (λ fault reaches. reaches bare)
    c.read_escape.ensures.reaches)

-- a fault that is changed changes nothing that was read
kept : {T E D : Type 0} (before : Result T E) (after : Result T D) (P : T → Type 0)
    (Q : E → Type 0) → MatchResult before (λ x. after ≡ Ok x) Q → is_ok after ≡ is_ok before
    → IfOk before P → IfOk after P
kept (Ok x) after P Q same variant holds = subst (λ r. IfOk r P) (sym same) holds
kept (Err e) (Ok x) P Q same variant holds = absurd (false≢true (sym variant))
kept (Err e) (Err d) P Q same variant holds = tt

pub returns-clause-ok : goal.returns-clause-ok
returns-clause-ok c =
    let here = backslash (goal.at.returns-clause-ok c).Else-c-ne92 in
    kept c.read_escape-2.result c.map_err.result _ _ c.map_err.ensures.cases
    c.map_err.ensures.variant
    (IfOk-weaker _ _ _ (λ r x. escaped (drop (c.args.at + 1) c.args.chars.now) here x)
    c.read_escape-2.ensures.ok)
