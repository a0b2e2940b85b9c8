-- Pieces, one after another.
use Rattle.regex_lite.proofs.Common.{◌≡◌, ℕ, zero, suc, ◌-◌, ◌<◌, Bool, false, ◌↔◌, List, [], ◌∷◌}
use Rattle.regex_lite.proofs.Common.{map, drop, slice_range, Some, None, MatchBool, Option, chars}
use Rattle.regex_lite.proofs.Common.{unwrap_or, sym, refl, ap, ◌∙◌, subst, arith, Found, Ahead}
use Rattle.regex_lite.proofs.Common.{IsOver, Passes, Expression, found_span}
use Rattle.regex_lite.specs.Ahead.{whole}
use Rattle.regex_lite.specs.Pieces.{ArePiecesWithin, IsCut, pieces}
use Rattle.regex_lite.proofs.AheadLemmas.{ahead_cons, ahead_nil}

-- what stands before a match that was passed comes before the pieces after it
pub cut_cons : (old new : Ahead) (from : ℕ) (found : Found) (span : ℕ × ℕ) (list : List (List ℕ))
    → Passes old found new → span ≡ found_span (chars old.haystack) found → IsCut new span.1 list
    → IsCut old from (slice_range old.haystack from span.0 ∷ list)
cut_cons old new from found span list passes is rest =
    let hay = old.haystack in
    let Spans : List Found → List (ℕ × ℕ) = map (found_span (chars hay)) in
    let later : list ≡ pieces hay span.1 (Spans rest.found) = rest.cut
    ∙ ap (λ (a : Ahead). pieces a.haystack span.1 (map (found_span (chars a.haystack)) rest.found))
    passes.passed in
    record {
      found = found ∷ rest.found;
      are_ahead = ahead_cons old new found rest.found passes rest.are_ahead;
      cut = ap (λ t. slice_range hay from span.0 ∷ t) later
          ∙ ap (λ (s : ℕ × ℕ). slice_range hay from s.0 ∷ pieces hay s.1 (Spans rest.found)) is;
    }

-- where it is over, all that is left is the last piece
pub cut_nil : (a : Ahead) (from : ℕ) → IsOver a → IsCut a from (drop from a.haystack ∷ [])
cut_nil a from over = record { found = []; are_ahead = ahead_nil a over; cut = refl }

-- what stands for a choice that is known
pub chosen : (P : Type 0) {Q : Type 0} (b : Bool) → b ≡ false → Q → MatchBool b P Q
chosen P {Q} b is q = subst (λ b. MatchBool b P Q) (sym is) q

-- what is left at first, where at most this many pieces may come, at least one
pub left_at_first : (limit : ℕ) (re : Expression) (hay : List ℕ) (a : Ahead) (ended : Option ℕ)
    → 0 < limit → a ≡ whole re hay (Some (limit - 1)) → ended ≡ None → (list : List (List ℕ))
    → IsCut a (unwrap_or ended 0) list ↔ ArePiecesWithin limit re hay list
left_at_first zero re hay a ended some is begins list = absurd (omega (arith, some))
left_at_first (suc k) re hay a ended some is begins list =
    let same : a ≡ whole re hay (Some k) = is ∙ ap (λ n. whole re hay (Some n)) (omega arith) in
    let start : unwrap_or ended 0 ≡ 0 = ap (λ e. unwrap_or e 0) begins in (
      λ left. subst (λ from. IsCut (whole re hay (Some k)) from list) start
          (subst (λ b. IsCut b (unwrap_or ended 0) list) same left),
      λ cut. subst (λ b. IsCut b (unwrap_or ended 0) list) (sym same)
          (subst (λ from. IsCut (whole re hay (Some k)) from list) (sym start) cut),
    )
