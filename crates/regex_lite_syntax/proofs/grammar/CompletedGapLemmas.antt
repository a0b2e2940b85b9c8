-- What completes a part of a pattern that ends inside a gap.
use Rattle.regex_lite_syntax.proofs.Common.{ℕ, Bool, [], ◌∷◌, ◌++◌, IsTrue, sym, refl, subst}
use Rattle.regex_lite_syntax.proofs.Common.{append_assoc, and_from, and_parts, list_all}
use Rattle.regex_lite_syntax.proofs.Common.{AreCharacters, Gap, Spaced, Completable, Text}
use Rattle.regex_lite_syntax.proofs.grammar.GapLemmas.{empty_gap}
use Rattle.regex_lite_syntax.proofs.grammar.ResumedGapLemmas.{resumed, gap_resumed}
use Rattle.regex_lite_syntax.proofs.grammar.ResumedGapLemmas.{resumed_characters}

-- characters that stand together
pub spaced_together : (verbose : Bool) (kind : ℕ → Bool) (cs next : Text)
    → IsTrue (list_all kind cs) → Spaced verbose kind cs (cs ++ next) next
spaced_together verbose kind [] next all = refl
spaced_together verbose kind (c ∷ cs) next all =
    let parts = and_parts _ _ all in (
      cs ++ next,
      empty_gap verbose (c ∷ cs ++ next),
      parts.0,
      spaced_together verbose kind cs next parts.1,
    )

-- characters past a gap, and what follows them, past the gap where there are none of them
pub spaced_on : (verbose : Bool) (kind : ℕ → Bool) (cs t next : Text)
    → IsTrue (list_all kind cs) → Gap verbose t (cs ++ next)
    → (last : Text) × Spaced verbose kind cs t last × Gap verbose last next
spaced_on verbose kind [] t next all gap = (t, refl, gap)
spaced_on verbose kind (c ∷ cs) t next all gap =
    let parts = and_parts _ _ all in (
      next,
      (cs ++ next, gap, parts.0, spaced_together verbose kind cs next parts.1),
      empty_gap verbose next,
    )

-- what goes on past a gap, or a side, that led to the end
pub past_gap : (verbose : Bool) (R : Text → Text → Type 0) (t ends : Text) → AreCharacters ends
    → ((next : Text) → R (t ++ (resumed verbose ++ (ends ++ next))) next) → Completable R t
past_gap verbose R t ends all reads = record {
  more = resumed verbose ++ ends;
  characters = resumed_characters verbose ends all;
  reads = λ next.
      subst (λ u. R (t ++ u) next) (sym (append_assoc (resumed verbose) ends next)) (reads next);
}

-- the same past a gap at the end of the pattern
pub gap_completed : (verbose : Bool) (t more next : Text) → Gap verbose t []
    → Gap verbose (t ++ ((resumed verbose ++ more) ++ next)) (more ++ next)
gap_completed verbose t more next gap =
    subst (λ u. Gap verbose (t ++ u) (more ++ next))
    (sym (append_assoc (resumed verbose) more next)) (gap_resumed verbose t (more ++ next) gap)

-- characters that go on with further ones
pub spaced_further : (verbose : Bool) (kind : ℕ → Bool) (cs ds t u v : Text)
    → Spaced verbose kind cs t u → Spaced verbose kind ds u v → Spaced verbose kind (cs ++ ds) t v
spaced_further verbose kind [] ds t u v a b =
    subst (λ w. Spaced verbose kind ds w v) (sym a) b
spaced_further verbose kind (c ∷ cs) ds t u v a b =
    (a.0, a.1, a.2, spaced_further verbose kind cs ds a.0 u v a.3 b)

-- what is read as characters of a kind is of the kind
pub spaced_are : (verbose : Bool) (kind : ℕ → Bool) (cs t rest : Text)
    → Spaced verbose kind cs t rest → IsTrue (list_all kind cs)
spaced_are verbose kind [] t rest s = refl
spaced_are verbose kind (c ∷ cs) t rest s =
    and_from _ _ s.2 (spaced_are verbose kind cs s.0 rest s.3)
