-- A template that begins with a `$` begins with one piece.
use Rattle.regex_lite_engine.proofs.Common.{◌≡◌, ℕ, ◌+◌, ◌<◌, ◌≤◌, ◌≢◌, ◌⊎◌, List, [], ◌∷◌, length}
use Rattle.regex_lite_engine.proofs.Common.{take, drop, sym, refl, ap, ◌∙◌, subst, inl, inr, ⊎_elim}
use Rattle.regex_lite_engine.proofs.Common.{arith, cases_eq, cases_lt, plain, is_name_character}
use Rattle.regex_lite_engine.proofs.Common.{BeginsWith, no_dollar, reference, one_dollar}
use Rattle.std.specs.List.{prefix_len, position_or_len, before_first, after_first}
use Rattle.std.proofs.lemmas.List.{length-drop}
use Rattle.regex_lite_syntax.proofs.ListLemmas.{same_head, same_tail}
use Rattle.regex_lite_engine.specs.Interpolation.{Piece, is_closing, IsBraced, IsReference}
use Rattle.regex_lite_engine.specs.Interpolation.{HasNoReference, referred, two_dollars}

-- what follows the `$` of such a piece
pub data AtDollar (after : List ℕ) (piece : Piece) (rest : List ℕ) : Type 0 where
  doubled : after ≡ 36 ∷ rest → piece ≡ plain (36 ∷ []) → AtDollar after piece rest
  refers : (name : List ℕ) → IsReference after name rest → piece ≡ referred name
      → AtDollar after piece rest
  lone : ((t : List ℕ) → after ≢ 36 ∷ t) → HasNoReference after → rest ≡ after
      → piece ≡ plain (36 ∷ []) → AtDollar after piece rest

pub at_dollar : (template after rest : List ℕ) (piece : Piece) → template ≡ 36 ∷ after
    → BeginsWith template piece rest → AtDollar after piece rest
at_dollar template after rest piece starts (no_dollar [] some lacks cut is) = absurd (some refl)
at_dollar template after rest piece starts (no_dollar (b ∷ run) some lacks cut is) =
    absurd (lacks (0, omega arith, same_head (sym cut ∙ starts)))
at_dollar template after rest piece starts (two_dollars cut is) =
    doubled (same_tail (sym starts ∙ cut)) is
at_dollar template after rest piece starts (reference later name cut refer is) =
    refers name (subst (λ t. IsReference t name rest) (same_tail (sym cut ∙ starts)) refer) is
at_dollar template after rest piece starts (one_dollar cut single none is) =
    let same = same_tail (sym cut ∙ starts) in
    lone (subst (λ u. (t : List ℕ) → u ≢ 36 ∷ t) same single)
    (subst HasNoReference same none) same is

pub begins_at_dollar : (template after rest : List ℕ) (piece : Piece) → template ≡ 36 ∷ after
    → AtDollar after piece rest → BeginsWith template piece rest
begins_at_dollar template after rest piece starts (doubled is_after is) =
    two_dollars (starts ∙ ap (λ t. 36 ∷ t) is_after) is
begins_at_dollar template after rest piece starts (refers name refer is) =
    reference after name starts refer is
begins_at_dollar template after rest piece starts (lone single none same is) =
    one_dollar (starts ∙ ap (λ t. 36 ∷ t) (sym same))
    (subst (λ u. (t : List ℕ) → u ≢ 36 ∷ t) (sym same) single)
    (subst HasNoReference (sym same) none) is

-- no name begins with a brace or a `$`
no_brace_in_name : (after inner : List ℕ) → after ≡ 123 ∷ inner
    → 0 < prefix_len is_name_character after → ⊥
no_brace_in_name after inner is some = let none = rw is at some in omega (arith, none)

no_dollar_in_name : (after inner : List ℕ) → after ≡ 36 ∷ inner
    → 0 < prefix_len is_name_character after → ⊥
no_dollar_in_name after inner is some = let none = rw is at some in omega (arith, none)

no_reference_in_dollar : (after t name rest : List ℕ) → after ≡ 36 ∷ t
    → IsReference after name rest → ⊥
no_reference_in_dollar after t name rest is (inl braced) = apart (same_head (sym is ∙ braced.opens))
  where
    apart : ◌≡◌ {A = ℕ} 36 123 → ⊥
    apart e = omega arith
no_reference_in_dollar after t name rest is (inr bare) = no_dollar_in_name after t is bare.some

one_reference : (after name rest other left : List ℕ) → IsReference after name rest
    → IsReference after other left → (name ≡ other) × (rest ≡ left)
one_reference after name rest other left (inl a) (inl b) =
    let same = same_tail (sym a.opens ∙ b.opens) in (
      a.is_name ∙ ap (before_first is_closing) same ∙ sym b.is_name,
      a.is_rest ∙ ap (after_first is_closing) same ∙ sym b.is_rest,
    )
one_reference after name rest other left (inl a) (inr b) =
    absurd (no_brace_in_name after a.inner a.opens b.some)
one_reference after name rest other left (inr a) (inl b) =
    absurd (no_brace_in_name after b.inner b.opens a.some)
one_reference after name rest other left (inr a) (inr b) =
    (a.is_name ∙ sym b.is_name, a.is_rest ∙ sym b.is_rest)

pub one_piece : (after rest left : List ℕ) (piece other : Piece) → AtDollar after piece rest
    → AtDollar after other left
    → (piece ≡ other) × (rest ≡ left)
one_piece after rest left piece other (doubled a is) (doubled b was) =
    (is ∙ sym was, same_tail (sym a ∙ b))
one_piece after rest left piece other (doubled a is) (refers name b was) =
    absurd (no_reference_in_dollar after rest name left a b)
one_piece after rest left piece other (doubled a is) (lone single none b was) =
    absurd (single rest a)
one_piece after rest left piece other (refers name a is) (doubled b was) =
    absurd (no_reference_in_dollar after left name rest b a)
one_piece after rest left piece other (refers name a is) (refers name' b was) =
    let same = one_reference after name rest name' left a b in
    (is ∙ ap referred same.0 ∙ sym was, same.1)
one_piece after rest left piece other (refers name a is) (lone single none b was) =
    absurd (none name rest a)
one_piece after rest left piece other (lone single none a is) (doubled b was) =
    absurd (single left b)
one_piece after rest left piece other (lone single none a is) (refers name b was) =
    absurd (none name left b)
one_piece after rest left piece other (lone single none a is) (lone single' none' b was) =
    (is ∙ sym was, a ∙ sym b)

-- whether a reference stands there
abbrev Refers : List ℕ → Type 0
Refers after =
    (name : List ℕ) × (rest : List ℕ) × IsReference after name rest × (length rest ≤ length after)

in_braces : (after : List ℕ) → prefix_len is_name_character after ≡ 0
    → Refers after ⊎ HasNoReference after
in_braces [] none =
    inr (λ name rest refer.
    ⊎_elim (λ a. absurd (no_opening name rest a)) (λ a. absurd (omega (arith, a.some))) refer)
  where
    no_opening : (name rest : List ℕ) → IsBraced [] name rest → ⊥
    no_opening name rest a = let e = a.opens in cc
in_braces (b ∷ t) none = ⊎_elim
    (λ is. ⊎_elim
    (λ closes. inl (
      before_first is_closing t,
      after_first is_closing t,
      inl (record {
        inner = t;
        opens = ap (λ x. x ∷ t) is;
        closes = closes;
        is_name = refl;
        is_rest = refl;
      }),
      omega (arith, length-drop (position_or_len is_closing t + 1) t),
    ))
    (λ unclosed. inr (λ name rest refer. ⊎_elim (λ a. closed t name rest b unclosed a)
    (λ a. absurd (omega (arith, a.some, none))) refer))
    (cases_lt (position_or_len is_closing t) (length t)))
    (λ other. inr (λ name rest refer.
    ⊎_elim (λ a. other (same_head a.opens)) (λ a. absurd (omega (arith, a.some, none))) refer))
    (cases_eq b 123)
  where
    closed : (t name rest : List ℕ) (b : ℕ) → length t ≤ position_or_len is_closing t
        → IsBraced (b ∷ t) name rest → ⊥
    closed t name rest b unclosed a =
        let same : t ≡ a.inner = same_tail a.opens in
        let closes : position_or_len is_closing t < length t =
        subst (λ i. position_or_len is_closing i < length i) (sym same) a.closes in
        omega arith

reference_or_none : (after : List ℕ) → Refers after ⊎ HasNoReference after
reference_or_none after = ⊎_elim
    (λ some. inl (
      take (prefix_len is_name_character after) after,
      drop (prefix_len is_name_character after) after,
      inr (record { some = some; is_name = refl; is_rest = refl }),
      omega (arith, length-drop (prefix_len is_name_character after) after),
    ))
    (λ none. in_braces after (omega arith))
    (cases_lt 0 (prefix_len is_name_character after))

dollar_or_none : (t : List ℕ) → ((u : List ℕ) × (t ≡ 36 ∷ u)) ⊎ ((u : List ℕ) → t ≢ 36 ∷ u)
dollar_or_none [] = inr (λ u e. cc)
dollar_or_none (b ∷ t) =
    ⊎_elim (λ e. inl (t, ap (λ x. x ∷ t) e)) (λ other. inr (λ u e. other (same_head e)))
    (cases_eq b 36)

pub some_piece : (after : List ℕ)
    → (piece : Piece) × (rest : List ℕ) × AtDollar after piece rest × (length rest ≤ length after)
some_piece after = ⊎_elim
    (λ more. (plain (36 ∷ []), more.0, doubled more.1 refl, omega (arith, ap length more.1)))
    (λ single. ⊎_elim
    (λ found. (referred found.0, found.1, refers found.0 found.2 refl, found.3))
    (λ none. (plain (36 ∷ []), after, lone single none refl refl, omega arith))
    (reference_or_none after))
    (dollar_or_none after)
