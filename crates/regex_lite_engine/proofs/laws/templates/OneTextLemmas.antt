-- A template gives one text.
use Rattle.regex_lite_engine.proofs.Common.{◌≡◌, ℕ, zero, suc, ◌<◌, ◌≢◌, List, [], ◌∷◌, ◌++◌}
use Rattle.regex_lite_engine.proofs.Common.{length, sym, refl, ap, ◌∙◌, subst, ⊎_elim, arith}
use Rattle.regex_lite_engine.proofs.Common.{cases_eq, plain, BeginsWith, no_dollar, reference}
use Rattle.regex_lite_engine.proofs.Common.{one_dollar}
use Rattle.std.proofs.Common.{Contains}
use Rattle.std.proofs.lemmas.List.{append-nil}
use Rattle.regex_lite_syntax.proofs.ListLemmas.{same_head, same_tail}
use Rattle.regex_lite_engine.specs.Interpolation.{Piece, two_dollars, GroupTexts, piece_text}
use Rattle.regex_lite_engine.specs.Interpolation.{IsInterpolation, nothing, piece_and_rest}
use Rattle.regex_lite_engine.proofs.laws.templates.PieceLemmas.{at_dollar, begins_at_dollar}
use Rattle.regex_lite_engine.proofs.laws.templates.PieceLemmas.{one_piece, some_piece}

no_piece : (template rest : List ℕ) (piece : Piece) → template ≡ []
    → BeginsWith template piece rest → ⊥
no_piece template rest piece empty (no_dollar [] some lacks cut is) = some refl
no_piece template rest piece empty (no_dollar (b ∷ run) some lacks cut is) = absurd (cc)
no_piece template rest piece empty (two_dollars cut is) = absurd (cc)
no_piece template rest piece empty (reference after name cut refer is) = absurd (cc)
no_piece template rest piece empty (one_dollar cut single none is) = absurd (cc)

-- the interpolation of what is left after an element that is no `$`
module _ (groups : GroupTexts) where
  from_nothing : (template text : List ℕ) → template ≡ [] → IsInterpolation groups template text
      → text ≡ []
  from_nothing template text empty (nothing is given) = given
  from_nothing template text empty (piece_and_rest piece rest more begins further given) =
      absurd (no_piece template rest piece empty begins)

  -- what a text piece gives beside its first element
  less : (run rest more : List ℕ) → ¬ (Contains run 36) → IsInterpolation groups rest more
      → IsInterpolation groups (run ++ rest) (run ++ more)
  less [] rest more lacks further = further
  less (b ∷ run) rest more lacks further =
      piece_and_rest (plain (b ∷ run)) rest more
      (no_dollar (b ∷ run) (λ e. cc) lacks refl refl) further refl

  lacks_after : (b : ℕ) (run : List ℕ) → ¬ (Contains (b ∷ run) 36) → ¬ (Contains run 36)
  lacks_after b run lacks (k, inside, is) = lacks (suc k, omega (arith, inside), is)

  abbrev AfterByte : (b : ℕ) (t text : List ℕ) → Type 0
  AfterByte b t text = (more : List ℕ) × IsInterpolation groups t more × (text ≡ b ∷ more)

  begun : (template t text rest more : List ℕ) (b : ℕ) (piece : Piece) → b ≢ 36 → template ≡ b ∷ t
      → BeginsWith template piece rest → IsInterpolation groups rest more
      → text ≡ piece_text groups piece ++ more
      → AfterByte b t text
  begun template t text rest more b piece other starts (no_dollar [] some lacks cut is) further
      given = absurd (some refl)
  begun template t text rest more b piece other starts (no_dollar (c ∷ run) some lacks cut is)
      further given =
      let same = sym cut ∙ starts in (
        run ++ more,
        subst (λ u. IsInterpolation groups u (run ++ more)) (same_tail same)
            (less run rest more (lacks_after c run lacks) further),
        given ∙ ap (λ p. piece_text groups p ++ more) is
            ∙ ap (λ d. d ∷ (run ++ more)) (same_head same),
      )
  begun template t text rest more b piece other starts (two_dollars cut is) further given =
      absurd (other (same_head (sym starts ∙ cut)))
  begun template t text rest more b piece other starts (reference after name cut refer is)
      further given =
      absurd (other (same_head (sym starts ∙ cut)))
  begun template t text rest more b piece other starts (one_dollar cut single none is)
      further given =
      absurd (other (same_head (sym starts ∙ cut)))

  after_byte : (template t text : List ℕ) (b : ℕ) → b ≢ 36 → template ≡ b ∷ t
      → IsInterpolation groups template text
      → AfterByte b t text
  after_byte template t text b other starts (nothing empty given) = absurd (cc)
  after_byte template t text b other starts (piece_and_rest piece rest more begins further given) =
      begun template t text rest more b piece other starts begins further given

  abbrev OneText : List ℕ → Type 0
  OneText template = (text : List ℕ) × IsInterpolation groups template text
      × ((other : List ℕ) → IsInterpolation groups template other → other ≡ text)

  -- a template that begins with such an element, and one that begins with a `$`
  one_more : (b : ℕ) (t : List ℕ) → b ≢ 36 → OneText t → OneText (b ∷ t)
  one_more b t other (text, is, only) = (
    b ∷ text,
    less (b ∷ []) t text lacks is,
    λ x i. let left = after_byte (b ∷ t) t x b other refl i in
        left.2 ∙ ap (λ u. b ∷ u) (only left.0 left.1),
  )
    where
      lacks : ¬ (Contains (b ∷ []) 36)
      lacks (zero, inside, e) = other e
      lacks (suc k, inside, e) = absurd (omega (arith, inside))

  one_after_dollar : (template after rest : List ℕ) (piece : Piece) → template ≡ 36 ∷ after
      → BeginsWith template piece rest → OneText rest → OneText template
  one_after_dollar template after rest piece starts begins (text, is, only) =
      (piece_text groups piece ++ text, piece_and_rest piece rest text begins is refl, same)
    where
      same : (x : List ℕ) → IsInterpolation groups template x → x ≡ piece_text groups piece ++ text
      same x (nothing empty given) = absurd (cc)
      same x (piece_and_rest other left more begins' further given) =
          let e =
          one_piece after left rest other piece (at_dollar template after left other starts begins')
          (at_dollar template after rest piece starts begins) in
          let tail = only more (subst (λ u. IsInterpolation groups u more) e.1 further) in
          given ∙ ap (λ p. piece_text groups p ++ more) e.0
          ∙ ap (λ u. piece_text groups piece ++ u) tail

  one_within : (n : ℕ) (template : List ℕ) → length template < n → OneText template
  one_within zero template short = absurd (omega arith)
  one_within (suc n) [] short = ([], nothing refl refl, λ x i. from_nothing [] x refl i)
  one_within (suc n) (b ∷ t) short = ⊎_elim
      (λ is. let some = some_piece t in let starts = ap (λ c. c ∷ t) is in
      one_after_dollar (b ∷ t) t some.1 some.0 starts
      (begins_at_dollar (b ∷ t) t some.1 some.0 starts some.2)
      (one_within n some.1 (omega (arith, some.3, short))))
      (λ other. one_more b t other (one_within n t (omega (arith, short))))
      (cases_eq b 36)

  pub one_text : (template : List ℕ) → OneText template
  one_text template = one_within (suc (length template)) template (omega arith)

  pub plain_text : (template text : List ℕ) → ¬ (Contains template 36)
      → IsInterpolation groups template text → text ≡ template
  plain_text template text lacks is =
      let one = one_text template in
      let whole : IsInterpolation groups template template =
      subst (λ t. IsInterpolation groups t t) (append-nil template)
      (less template [] [] lacks (nothing refl refl)) in
      one.2 text is ∙ sym (one.2 template whole)
