-- The places of a table, and the pending nodes that each adds, by its arrows.
use Rattle.regex_lite_engine.proofs.Common.{◌≡◌, ℕ, zero, suc, ◌+◌, ◌≤◌, List, [], ◌∷◌, ◌++◌, map}
use Rattle.regex_lite_engine.proofs.Common.{IsTrue, slice_get, Some, None, Option, sym, refl, ap}
use Rattle.regex_lite_engine.proofs.Common.{◌∙◌, subst, arith, Text, Arrow, complete, with_arrows}
use Rattle.regex_lite_engine.proofs.Common.{go, arrow_taken, step_from, arrow_count, place_of}
use Rattle.regex_lite_engine.proofs.Common.{mark_of, place_with, is_complete, numbered_step, is_end}
use Rattle.regex_lite_engine.proofs.Common.{Node, PendingNode}
use Rattle.std.proofs.lemmas.Option.{slice_get_past}
use Rattle.regex_lite_engine.specs.declared.nfa.place.Place as code
use Rattle.regex_lite_engine.specs.Graph.Places.{Place}
use Rattle.regex_lite_syntax.proofs.OptionLemmas.{not_there, same_some}
use Rattle.regex_lite_engine.proofs.search.PendingLemmas as order

-- the place with this number
pub got_place : (spots : List code.Place) (q : ℕ) (x : code.Place) → slice_get spots q ≡ Some x
    → slice_get (map (λ s. place_of s) spots) q ≡ Some (place_of x)
got_place [] q x e = absurd (not_there e)
got_place (y ∷ spots) zero x e = ap (λ z. Some (place_of z)) (same_some e)
got_place (y ∷ spots) (suc q) x e = got_place spots q x e

module _ (table : List (Place ℕ)) (h : Text) where
  abbrev pub wide : Node → ℕ
  wide n = arrow_count (place_with table n.0)

  no_more_at : (x : Place ℕ) (i k : ℕ) → arrow_count x ≤ k → step_from h x i k ≡ None
  no_more_at complete i k le = refl
  no_more_at (with_arrows arrows) i k le = ap (arrow_taken h i) (slice_get_past arrows k le)

  pub no_more : (n : Node) (k : ℕ) → wide n ≤ k → numbered_step table h n k ≡ None
  no_more n k le = no_more_at (place_with table n.0) n.1 k le

  pub no_arrow_at : (x : Place ℕ) (i k : ℕ) → IsTrue (is_complete x) → step_from h x i k ≡ None
  no_arrow_at complete i k e = refl
  no_arrow_at (with_arrows arrows) i k e = cc

  abbrev pub one : Option Node → List ℕ → List (PendingNode Node)
  one None w = []
  one (Some m) w = (m, w) ∷ []

  -- the pending nodes that a place adds
  abbrev pub is_pending_by : Place ℕ → ℕ → List ℕ → ℕ → ℕ → List (PendingNode Node)
  is_pending_by x p w zero k = []
  is_pending_by x p w (suc c) k = one (step_from h x p k) (w ++ k ∷ []) ++ is_pending_by x p w c
      (suc k)

  -- the place's arrows, one by one
  pub pending_listed : (q p : ℕ) (w : List ℕ) (c j : ℕ)
      → order.pending Node (numbered_step table h) (q, p) w c j
      ≡ is_pending_by (place_with table q) p w c j
  pending_listed q p w zero j = refl
  pending_listed q p w (suc c) j =
      by_first (step_from h (place_with table q) p j) (pending_listed q p w c (suc j))
    where
      by_first : (o : Option Node) → order.pending Node (numbered_step table h) (q, p) w c (suc j)
          ≡ is_pending_by (place_with table q) p w c (suc j)
          → order.one_pending_node Node (numbered_step table h) o (w ++ j ∷ [])
          ++ order.pending Node (numbered_step table h) (q, p) w c (suc j)
          ≡ one o (w ++ j ∷ []) ++ is_pending_by (place_with table q) p w c (suc j)
      by_first None e = e
      by_first (Some m) e = ap (λ z. (m, w ++ j ∷ []) ∷ z) e

got_map : (qs : List ℕ) (t l : ℕ) → slice_get qs t ≡ Some l → slice_get (map go qs) t ≡ Some (go l)
got_map [] t l e = absurd (not_there e)
got_map (q ∷ qs) zero l e = ap (λ z. Some (go z)) (same_some e)
got_map (q ∷ qs) (suc t) l e = got_map qs t l e

pub free_marks : (qs : List ℕ) (a : ℕ) → mark_of (with_arrows (map go qs)) a ≡ None
free_marks [] a = refl
free_marks (q ∷ qs) zero = refl
free_marks (q ∷ qs) (suc a) = free_marks qs a

module _ (table : List (Place ℕ)) (h : Text) (q p : ℕ) where
  -- where there are arrows, no match is complete
  pub open_at : (arrows : List (Arrow ℕ)) → place_with table q ≡ with_arrows arrows
      → IsTrue (is_end table h (q, p)) → ⊥
  open_at arrows e ends = closed (subst (λ x. IsTrue (is_complete x)) e ends)
    where
      closed : IsTrue (is_complete (with_arrows arrows)) → ⊥
      closed b = cc

  -- where no arrow fits, no node is added
  pub none_is_pending : ((k : ℕ) → numbered_step table h (q, p) k ≡ None) → (w : List ℕ) (c k : ℕ)
      → is_pending_by table h (place_with table q) p w c k ≡ []
  none_is_pending blocked w zero k = refl
  none_is_pending blocked w (suc c) k =
      ap (λ (o : Option Node). one table h o (w ++ k ∷ [])
      ++ is_pending_by table h (place_with table q) p w c (suc k)) (blocked k)
      ∙ none_is_pending blocked w c (suc k)

  -- a free arrow leads to its place at the same position
  pub hops : (to : List ℕ) → place_with table q ≡ with_arrows (map go to) → (t l : ℕ)
      → slice_get to t ≡ Some l → numbered_step table h (q, p) (0 + t) ≡ Some (l, p)
  hops to e t l got =
      ap (λ x. step_from h x p (0 + t)) e
      ∙ ap (λ y. arrow_taken h p (slice_get (map go to) y)) (omega arith)
      ∙ ap (arrow_taken h p) (got_map to t l got)

  -- a place's only arrow is its first
  pub no_second : (arrow : Arrow ℕ) → place_with table q ≡ with_arrows (arrow ∷ []) → (k : ℕ)
      → numbered_step table h (q, p) (suc k) ≡ None
  no_second arrow e k =
      let lone : wide table h (q, p) ≡ 1 = ap arrow_count e in
      no_more table h (q, p) (suc k) (omega (arith, lone))

  pub one_blocked : (arrow : Arrow ℕ) → place_with table q ≡ with_arrows (arrow ∷ [])
      → numbered_step table h (q, p) 0 ≡ None → (k : ℕ) → numbered_step table h (q, p) k ≡ None
  one_blocked arrow e none zero = none
  one_blocked arrow e none (suc k) = no_second arrow e k

-- free arrows stay at the position
pub free_stays : (h : Text) (qs : List ℕ) (p a : ℕ) (l : Node)
    → step_from h (with_arrows (map go qs)) p a ≡ Some l → l.1 ≡ p
free_stays h [] p a l e = absurd (not_there e)
free_stays h (q ∷ qs) p zero l e = sym (ap (λ (z : Node). z.1) (same_some e))
free_stays h (q ∷ qs) p (suc a) l e = free_stays h qs p a l e
