use Rattle.regex_lite_syntax.proofs.Common.{◌≡◌, ℕ, List, ◌∷◌, ◌++◌, drop, sym, subst, arith}
use Rattle.regex_lite_syntax.proofs.Common.{ClassOpening, ClassItems, only_if, BracketedClass}
use Rattle.regex_lite_syntax.proofs.Common.{in_ranges, Denies, Completable, IfCutShort, Set, just}
use Rattle.regex_lite_syntax.proofs.Common.{union, Text, the}
use Rattle.regex_lite_syntax.proofs.ExitLemmas.{at_exit}
use Rattle.regex_lite_syntax.proofs.grammar.LongerClassLemmas.{opening_longer}
use Rattle.regex_lite_syntax.proofs.parse.DenialLemmas.{none_at_end, denies_part}
use Rattle.regex_lite_syntax.proofs.parse.IndexLemmas.{left_at_end, some_at}
use Rattle.regex_lite_syntax.proofs.parse.bracket.ClassItemLemmas.{nothing_left}
use Rattle.regex_lite_syntax.proofs.parse.bracket.ClassOpeningLemmas.{class_from, class_items}
use Rattle.regex_lite_syntax.proofs.parse.bracket.ClassSetLemmas.{holds_all, class_as}
use Rattle.regex_lite_syntax.proofs.parse.bracket.CompletedClassLemmas.{ClassTo, completes_opening}
use Rattle.regex_lite_syntax.proofs.parse.CompletionLemmas.{completes_part, cut_short_says}
use Rattle.regex_lite_syntax.proofs.parse.bracket.read_class.Goals as goal
use Rattle.regex_lite_syntax.proofs.parse.bracket.read_class.Goals.{In_ok-class}

pub returns-then-start-chars-clause-refused : goal.returns-then-start-chars-clause-refused
returns-then-start-chars-clause-refused c =
    let insensitive = c.args.insensitive in
    let verbose = c.args.verbose in
    let xs = c.args.chars.now in
    let t = drop c.args.at xs in
    let start = c.read_opening-start.result.0 in
    subst (λ e. Denies e (λ t. (r : Text) × (s : Set) × BracketedClass insensitive verbose t r s) t)
    (sym c.into.ensures) (none_at_end c.unclosed.result
    (λ t. (r : Text) × (s : Set) × BracketedClass insensitive verbose t r s) t c.unclosed.ensures
    (λ found. nothing_left verbose found.2.sets found.0
    (subst (λ u. ClassItems verbose found.2.sets u found.0)
    (left_at_end xs start c.if-start-chars.true) (class_items insensitive verbose t
    (drop start xs) found.0 _ _ _ found.1 c.read_opening-start.ensures.opens found.2))))

pub returns-in_err-end-clause-refused : goal.returns-in_err-end-clause-refused
returns-in_err-end-clause-refused c =
    let insensitive = c.args.insensitive in
    let verbose = c.args.verbose in
    let xs = c.args.chars.now in
    let t = drop c.args.at xs in
    let u = drop c.read_opening-start.result.0 xs in
    let some = some_at xs c.read_opening-start.result.0
    (omega (arith, c.if-start-chars.false, c.read_opening-start.ensures.inside)) in
    at_exit _ _ c.from_residual-in_err-end.ensures.1 (denies_part _
    (λ t. (r : Text) × (sets : List Set) × ClassItems verbose sets t r)
    (λ t. (r : Text) × (s : Set) × BracketedClass insensitive verbose t r s) u t (λ more found. (
      found.0,
      found.2.sets,
      class_items insensitive verbose (t ++ more) (u ++ more) found.0 _ _ _ found.1
          (opening_longer more c.read_opening-start.ensures.opens some) found.2,
    )) c.in_err-end.ensures.refused)

pub returns-then-start-chars-clause-completes : goal.returns-then-start-chars-clause-completes
returns-then-start-chars-clause-completes c =
    let insensitive = c.args.insensitive in
    let verbose = c.args.verbose in
    let xs = c.args.chars.now in
    let t = drop c.args.at xs in
    let opening = c.read_opening-start.result.1 in
    subst (λ e. IfCutShort e (Completable
    (λ t r. (s : Set) × BracketedClass insensitive verbose t r s) t)) (sym c.into.ensures)
    (λ short. completes_opening insensitive verbose t opening.negated opening.dash opening.bracket
    (subst (λ u. ClassOpening verbose t u opening.negated opening.dash opening.bracket)
    (left_at_end xs c.read_opening-start.result.0 c.if-start-chars.true)
    c.read_opening-start.ensures.opens))

pub returns-in_err-end-clause-completes : goal.returns-in_err-end-clause-completes
returns-in_err-end-clause-completes c =
    let insensitive = c.args.insensitive in
    let verbose = c.args.verbose in
    let xs = c.args.chars.now in
    let t = drop c.args.at xs in
    let u = drop c.read_opening-start.result.0 xs in
    let some = some_at xs c.read_opening-start.result.0
    (omega (arith, c.if-start-chars.false, c.read_opening-start.ensures.inside)) in
    at_exit _ _ c.from_residual-in_err-end.ensures.1 (cut_short_says _
    (Completable (ClassTo verbose) u)
    (Completable (λ t r. (s : Set) × BracketedClass insensitive verbose t r s) t)
    (completes_part (ClassTo verbose)
    (λ t r. (s : Set) × BracketedClass insensitive verbose t r s) u t (λ more rest found. (
      _,
      class_from insensitive verbose (t ++ more) (u ++ more) rest _ _ _ found.0
          (opening_longer more c.read_opening-start.ensures.opens some) found.1,
    ))) c.in_err-end.ensures.completes)

-- what the class is the union of
dash_set : In_ok-class → Set
dash_set c = only_if c.read_opening-start.result.1.dash (just (the "-"))

bracket_set : In_ok-class → Set
bracket_set c = only_if c.read_opening-start.result.1.bracket (just (the "]"))

holds : (c : In_ok-class) (d : ℕ)
    → in_ranges c.read_items.new.ranges.items d
    ≡ union (dash_set c ∷ bracket_set c ∷ c.in_ok-end.ensures.ok.0) d
unfolding dash_set bracket_set
holds c d =
    holds_all _ _ _ (dash_set c)
    (bracket_set c) c.in_ok-end.ensures.ok.0 d c.new-ranges.ensures.items
    (c.in_ok-push_opening.ensures d) (c.in_ok-end.ensures.ok.2 d)

pub returns-clause-ok : goal.returns-clause-ok
unfolding dash_set bracket_set
returns-clause-ok c =
    let sets = dash_set c ∷ bracket_set c ∷ c.in_ok-end.ensures.ok.0 in
    let runs = c.in_ok-class.ensures sets (holds c) in
    class_as c.args.insensitive c.args.verbose _ _ _ _ runs.members
    (class_from c.args.insensitive c.args.verbose _ _ _ _ _ _ c.in_ok-end.ensures.ok.0
    c.read_opening-start.ensures.opens c.in_ok-end.ensures.ok.1)

pub returns-clause-runs : goal.returns-clause-runs
returns-clause-runs c =
    (c.in_ok-class.ensures (dash_set c ∷ bracket_set c ∷ c.in_ok-end.ensures.ok.0) (holds c)).runs
