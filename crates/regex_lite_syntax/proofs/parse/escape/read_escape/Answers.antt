use Rattle.regex_lite_syntax.proofs.Common.{◌≡◌, ℕ, ◌≤◌, Bool, [], ◌∷◌, ◌++◌, sym, refl, ap, subst}
use Rattle.regex_lite_syntax.proofs.Common.{arith, one, look_at, word_boundary, hexadecimal}
use Rattle.regex_lite_syntax.proofs.Common.{escape_kind, Hexadecimal, WordBoundary, Escape}
use Rattle.regex_lite_syntax.proofs.Common.{ReachesTo, Completable, Text, Begins, the, Look}
use Rattle.regex_lite_syntax.specs.Grammar.Escapes.{Primitive}
use Rattle.regex_lite_syntax.proofs.ExitLemmas.{at_exit}
use Rattle.regex_lite_syntax.proofs.grammar.GapLemmas.{empty_gap}
use Rattle.regex_lite_syntax.proofs.grammar.EscapeLemmas.{escape_as, escape_from, boundary_is_b}
use Rattle.regex_lite_syntax.proofs.parse.escape.CompletedDigitLemmas.{number_completable}
use Rattle.regex_lite_syntax.proofs.parse.CompletionLemmas.{completes_part}
use Rattle.regex_lite_syntax.proofs.parse.escape.read_escape.Goals as goal

-- the readings that complete an escape
abbrev Escaped : (verbose : Bool) → (t rest : Text) → Type 0
Escaped verbose t rest = (p : Primitive) × Escape verbose t rest p

abbrev Reaching : (verbose : Bool) → (least : ℕ) → (t rest : Text) → Type 0
Reaching verbose least t rest = (c : ℕ) × Escape verbose t rest (one c) × (least ≤ c)

abbrev Number : (verbose : Bool) → (n least : ℕ) → (t rest : Text) → Type 0
Number verbose n least t rest = (c : ℕ) × Hexadecimal verbose n t rest c × (least ≤ c)

abbrev Boundary : (verbose : Bool) → (t rest : Text) → Type 0
Boundary verbose t rest = (look : Look) × WordBoundary verbose t rest look

-- past the backslash the number of the last character may stand
last_completes : (verbose : Bool) (least : ℕ) (t : Text) → t ≡ [] → least ≤ 0x10FFFF
    → Completable (Reaching verbose least) t
last_completes verbose least t none inside =
    let number = number_completable verbose 2 least [] inside (empty_gap verbose []) in
    record {
      more = the "x" ∷ number.more;
      characters = (refl, number.characters);
      reads = λ next.
          let read = number.reads next in (
            read.0,
            escape_as verbose _ (number.more ++ next) next (one read.0) (the "x") (hexadecimal 2)
                (ap (λ u. u ++ ((the "x" ∷ number.more) ++ next)) none) refl (read.0, read.1, refl),
            read.2,
          );
    }

any_escape : (verbose : Bool) (least : ℕ) (t : Text) → Completable (Reaching verbose least) t
    → Completable (Escaped verbose) t
any_escape verbose least t completed =
    completes_part (Reaching verbose least) (Escaped verbose) t t
    (λ more rest (c, escape, far). (one c, escape)) completed

-- what completes the number completes its escape
number_escape : (verbose : Bool) (n least c : ℕ) (t past : Text) → t ≡ c ∷ past
    → hexadecimal n ≡ escape_kind c → Completable (Number verbose n least) past
    → Completable (Reaching verbose least) t
number_escape verbose n least c t past begins asked completed =
    completes_part (Number verbose n least) (Reaching verbose least) past t
    (λ more rest (d, number, far). (
      d,
      escape_as verbose _ (past ++ more) rest (one d) c _ (ap (λ u. u ++ more) begins) asked
          (d, number, refl),
      far,
    )) completed

look_escape : (verbose : Bool) (c : ℕ) (t past : Text) → t ≡ c ∷ past
    → word_boundary ≡ escape_kind c → Completable (Boundary verbose) past
    → Completable (Escaped verbose) t
look_escape verbose c t past begins asked completed =
    completes_part (Boundary verbose) (Escaped verbose) past t (λ more rest (look, boundary). (
      look_at look,
      escape_as verbose _ (past ++ more) rest (look_at look) c _ (ap (λ u. u ++ more) begins) asked
          (look, boundary, refl),
    )) completed

begins_with : (c d : ℕ) (t past : Text) → t ≡ c ∷ past → c ≡ d → Begins d t
begins_with c d t past here same = subst (λ u. Begins d u) (sym here) same

pub returns-in_default-clause-completes : goal.returns-in_default-clause-completes
returns-in_default-clause-completes c short =
    any_escape _ c.args.least _ (last_completes _ c.args.least _ c.in_default.ensures (omega arith))

pub returns-in_default-clause-reaches : goal.returns-in_default-clause-reaches
returns-in_default-clause-reaches c other short =
    last_completes _ c.args.least _ c.in_default.ensures (omega arith)

pub returns-in_err-end-in-WordBoundary-clause-refused :
    goal.returns-in_err-end-in-WordBoundary-clause-refused
returns-in_err-end-in-WordBoundary-clause-refused c =
    at_exit _ _ c.from_residual.ensures.1 (λ more follows (rest, primitive, escape, far).
    let boundary = escape_from _ _ _ rest primitive _ _ (ap (λ u. u ++ more) c.in-Some.ensures.1)
    c.in-WordBoundary.ensures escape in
    c.in_err-end-in-WordBoundary.ensures.refused more follows (rest, boundary.0, boundary.1))

pub returns-in_err-end-in-WordBoundary-clause-completes :
    goal.returns-in_err-end-in-WordBoundary-clause-completes
returns-in_err-end-in-WordBoundary-clause-completes c =
    at_exit _ _ c.from_residual.ensures.1 (λ short.
    look_escape _ _ _ _ c.in-Some.ensures.1 c.in-WordBoundary.ensures
    (c.in_err-end-in-WordBoundary.ensures.completes short))

pub returns-in_err-end-in-WordBoundary-clause-reaches :
    goal.returns-in_err-end-in-WordBoundary-clause-reaches
returns-in_err-end-in-WordBoundary-clause-reaches c =
    at_exit _ _ c.from_residual.ensures.1 (λ other short.
    absurd (other (begins_with _ _ _ _ c.in-Some.ensures.1
    (boundary_is_b _ c.in-WordBoundary.ensures))))

pub returns-in_err-end-in-Hexadecimal-clause-refused :
    goal.returns-in_err-end-in-Hexadecimal-clause-refused
returns-in_err-end-in-Hexadecimal-clause-refused c =
    at_exit _ _ c.from_residual-in_err-end-in-Hexadecimal.ensures.1
    (λ more follows (rest, primitive, escape, far).
    let number = escape_from _ _ _ rest primitive _ _ (ap (λ u. u ++ more) c.in-Some.ensures.1)
    c.in-Hexadecimal.ensures escape in
    c.in_err-end-in-Hexadecimal.ensures.refused more follows
    (rest, number.0, number.1, subst (λ p. ReachesTo c.args.least p) number.2 far))

pub returns-in_err-end-in-Hexadecimal-clause-completes :
    goal.returns-in_err-end-in-Hexadecimal-clause-completes
returns-in_err-end-in-Hexadecimal-clause-completes c =
    at_exit _ _ c.from_residual-in_err-end-in-Hexadecimal.ensures.1 (λ short.
    any_escape _ c.args.least _
    (number_escape _ _ c.args.least _ _ _ c.in-Some.ensures.1 c.in-Hexadecimal.ensures
    (c.in_err-end-in-Hexadecimal.ensures.completes short)))

pub returns-in_err-end-in-Hexadecimal-clause-reaches :
    goal.returns-in_err-end-in-Hexadecimal-clause-reaches
returns-in_err-end-in-Hexadecimal-clause-reaches c =
    at_exit _ _ c.from_residual-in_err-end-in-Hexadecimal.ensures.1 (λ other short.
    number_escape _ _ c.args.least _ _ _ c.in-Some.ensures.1 c.in-Hexadecimal.ensures
    (c.in_err-end-in-Hexadecimal.ensures.completes short))

pub returns-in_ok-end-in-WordBoundary-clause-ok : goal.returns-in_ok-end-in-WordBoundary-clause-ok
returns-in_ok-end-in-WordBoundary-clause-ok c =
    escape_as _ _ _ _ _ _ _ c.in-Some.ensures.1 c.in-WordBoundary.ensures
    (c.in_ok-end-in-WordBoundary.look, c.in_ok-end-in-WordBoundary.ensures.ok, refl)
