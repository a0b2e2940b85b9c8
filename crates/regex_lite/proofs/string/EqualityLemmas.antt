-- Equality of matches.
use Rattle.regex_lite.proofs.Common.{◌≡◌, ℕ, List, refl, ap, haystack_of_match, Match}
use Rattle.std.specs.Bool.{Decides}
use Rattle.std.specs.Cmp.{IsEquivalence, unsigned_Decides}
use Rattle.std.proofs.lemmas.Bool.Decides.{Decides-and}
use Rattle.std.proofs.lemmas.Cmp.{and_equiv, nat_eq_equiv, nat_list_eq_equiv, on_equiv}
use Rattle.std.proofs.lemmas.Slice.Eq.{bytes_eq-Decides}
use Rattle.regex_lite.specs.MatchViews.{is_same_match, match_with_haystack}

pub same_match_equiv : IsEquivalence is_same_match
same_match_equiv =
    and_equiv (on_equiv haystack_of_match nat_list_eq_equiv)
    (and_equiv (on_equiv (λ (m : Match). m.start) nat_eq_equiv)
    (on_equiv (λ (m : Match). m.end) nat_eq_equiv))

same_parts : {h k : List ℕ} {a b i j : ℕ} → h ≡ k → a ≡ i → b ≡ j
    → ◌≡◌ {A = List ℕ × (ℕ × ℕ)} (h, (a, b)) (k, (i, j))
same_parts {h} {k} {a} {b} {i} {j} text start end = rw (text, start, end) refl

pub by_span : (m n : Match)
    → Decides (is_same_match m n) (match_with_haystack m ≡ match_with_haystack n)
by_span m n =
    let all = Decides-and _ _ (bytes_eq-Decides (haystack_of_match m) (haystack_of_match n))
    (Decides-and _ _ (unsigned_Decides m.start n.start) (unsigned_Decides m.end n.end)) in (
      λ same. (
          let parts = all.0 same in
          same_parts parts.0 parts.1.0 parts.1.1),
      λ same. all.1 (
        ap (λ (p : List ℕ × (ℕ × ℕ)). p.0) same,
        (ap (λ (p : List ℕ × (ℕ × ℕ)). p.1.0) same, ap (λ (p : List ℕ × (ℕ × ℕ)). p.1.1) same),
      ),
    )
