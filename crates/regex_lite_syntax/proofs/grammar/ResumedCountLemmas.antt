-- Counted operators at the end of a pattern that goes on.
use Rattle.regex_lite_syntax.proofs.Common.{◌≡◌, ℕ, ◌-◌, ◌^◌, ◌<◌, ◌≤◌, Bool, [], ◌∷◌, ◌++◌, Some}
use Rattle.regex_lite_syntax.proofs.Common.{None, codes, Option, sym, refl, ap, subst, inr, arith}
use Rattle.regex_lite_syntax.proofs.Common.{Number, Limit, Counted, exactly, Gap, Becomes}
use Rattle.regex_lite_syntax.proofs.Common.{IsNotBelow, Completable, Text, the}
use Rattle.std.proofs.lemmas.List.{append_assoc}
use Rattle.regex_lite_syntax.specs.Parser.Numbers.{CanReach}
use Rattle.regex_lite_syntax.proofs.CharacterLemmas.{joined_are}
use Rattle.regex_lite_syntax.proofs.grammar.NumberLemmas.{side_of}
use Rattle.regex_lite_syntax.proofs.grammar.CountLemmas.{counted_to}
use Rattle.regex_lite_syntax.proofs.grammar.LongerNumberLemmas.{number_longer}
use Rattle.regex_lite_syntax.proofs.grammar.ResumedGapLemmas.{resumed, gap_resumed}
use Rattle.regex_lite_syntax.proofs.grammar.ResumedNumberLemmas.{becomes_resumed, longer_becomes}
use Rattle.regex_lite_syntax.proofs.grammar.ResumedNumberLemmas.{number_begun, number_resumed}
use Rattle.regex_lite_syntax.proofs.grammar.CompletedGapLemmas.{past_gap}

-- the greatest number, where one can follow, and the brace that closes
brace_past_greatest : (verbose : Bool) (R : Text → Text → Type 0) (t : Text)
    → Completable (λ v rest. Number verbose v rest (2 ^ 32 - 1)) t
    → ((more next : Text) → Number verbose (t ++ more) (the "}" ∷ next) (2 ^ 32 - 1)
    → R (t ++ more) next) → Completable R t
brace_past_greatest verbose R t number reads = record {
  more = number.more ++ the "}" ∷ [];
  characters = joined_are number.more (the "}" ∷ []) number.characters (refl, tt);
  reads = λ next. reads ((number.more ++ the "}" ∷ []) ++ next) next
      (subst (λ u. Number verbose (t ++ u) (the "}" ∷ next) (2 ^ 32 - 1))
      (sym (append_assoc number.more (the "}" ∷ []) next)) (number.reads (the "}" ∷ next)));
}

-- what may stand past the comma of an operator that repeats so often at least
abbrev pub LimitFrom : (verbose : Bool) → (least : ℕ) → Text → Text → Type 0
LimitFrom verbose least t rest =
    (most : Option ℕ) × Limit verbose t rest most × IsNotBelow least most

-- a number past whose digits this is left
abbrev pub NumberTo : (verbose : Bool) → (t rest past_digits : Text) → ℕ → Type 0
NumberTo verbose t rest past_digits n =
    (p : Number verbose t rest n) × (p.last ≡ past_digits)

module _ (verbose : Bool) (least : ℕ) (t : Text) where
  -- past a gap that led to the end no limit need follow
  pub unlimited : Gap verbose t [] → Completable (LimitFrom verbose least) t
  unlimited gap = past_gap verbose (LimitFrom verbose least) t (the "}" ∷ []) (refl, tt)
      (λ next. (None, gap_resumed verbose t (the "}" ∷ next) gap, tt))

  -- where a number can follow, the greatest one is a limit
  pub greatest_limit : least < 2 ^ 32 → Completable (λ v rest. Number verbose v rest (2 ^ 32 - 1)) t
      → Completable (LimitFrom verbose least) t
  greatest_limit small number =
      brace_past_greatest verbose (LimitFrom verbose least) t number
      (λ more next read. (Some (2 ^ 32 - 1), read, omega (arith, small)))

  -- a number that reaches the least becomes a limit
  pub limit_reached : (past_digits : Text) (n : ℕ) → NumberTo verbose t [] past_digits n
      → CanReach least (Becomes verbose past_digits n) → Completable (LimitFrom verbose least) t
  limit_reached past_digits n p (m, becomes, reaches, small) =
      let r =
      becomes_resumed verbose t p.0 (subst (λ u. Becomes verbose u n m) (sym p.1) becomes) small in
      past_gap verbose (LimitFrom verbose least) t (r.digits ++ the "}" ∷ [])
      (joined_are r.digits (the "}" ∷ []) r.characters (refl, tt)) (λ next. (
        Some m,
        subst (λ u. Number verbose (t ++ (resumed verbose ++ u)) (the "}" ∷ next) m)
            (sym (append_assoc r.digits (the "}" ∷ []) next)) (r.reads (the "}" ∷ next)),
        reaches,
      ))

  -- and one that doesn't is none in any longer text
  pub never_reached : (past_digits : Text) (n : ℕ) → NumberTo verbose t [] past_digits n
      → (CanReach least (Becomes verbose past_digits n) → ⊥) → (more rest : Text) (m : ℕ)
      → Number verbose (t ++ more) (the "}" ∷ rest) m → least ≤ m → ⊥
  never_reached past_digits n p none more rest m q reaches = none (
    m,
    subst (λ u. Becomes verbose u n m) p.1
        (longer_becomes verbose t more p.0 q (inr refl)),
    reaches,
    q.in_range,
  )

-- a counted operator, whatever its bounds
abbrev pub Counts : (verbose : Bool) → Text → Text → Type 0
Counts verbose t rest = (least : ℕ) × (most : Option ℕ) × Counted verbose t rest least most

module _ (verbose : Bool) (t : Text) where
  -- past a gap that led to the end the bounds can follow
  pub bounds_follow : Gap verbose t [] → Completable (Counts verbose) t
  bounds_follow gap = past_gap verbose (Counts verbose) t (codes "0}") (refl, (refl, tt))
      (λ next. (
        0,
        Some 0,
        exactly (number_begun verbose t (the "}" ∷ next) (codes "0") (side_of verbose t [] gap) refl
            (omega arith) (omega arith)) refl,
      ))

  -- where a number can follow, a brace can follow it
  pub number_closed : Completable (λ v rest. Number verbose v rest (2 ^ 32 - 1)) t
      → Completable (Counts verbose) t
  number_closed number =
      brace_past_greatest verbose (Counts verbose) t number
      (λ more next read. (2 ^ 32 - 1, Some (2 ^ 32 - 1), exactly read refl))

  -- and a brace can follow a number past whose side nothing is left
  pub brace_follows : (n : ℕ) → Number verbose t [] n → Completable (Counts verbose) t
  brace_follows n number = past_gap verbose (Counts verbose) t (the "}" ∷ []) (refl, tt)
      (λ next. (n, Some n, exactly (number_resumed verbose t (the "}" ∷ next) number) refl))

  -- where a limit can follow past the comma, the operator can
  pub limit_follows : (u past : Text) (c n : ℕ) → Number verbose t u n → u ≡ c ∷ past
      → c ≡ the "," → Completable (LimitFrom verbose n) past → Completable (Counts verbose) t
  limit_follows u past c n number here is limit = record {
    more = limit.more;
    characters = limit.characters;
    reads = λ next.
        let on = limit.more ++ next in
        let reads = limit.reads next in (
          n,
          reads.0,
          counted_to reads.0 (u ++ on) (past ++ on) c
              (number_longer on number (λ none. cc (here, none))) (ap (λ v. v ++ on) here) is
              reads.1 reads.2,
        );
  }
