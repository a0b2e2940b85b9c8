-- A depth-first walk over a table of numbered places: its steps, and what it has found at its end.
use Rattle.regex_lite_engine.proofs.Common.{◌≡◌, ℕ, ◌≤◌, List, [], ◌∷◌, ◌++◌, length, IsTrue, Some}
use Rattle.regex_lite_engine.proofs.Common.{None, Option, sym, refl, ap, subst, Text, WayHolds}
use Rattle.regex_lite_engine.proofs.Common.{Found, Marks, marked, over, mark_of, marks_along}
use Rattle.regex_lite_engine.proofs.Common.{place_with, numbered_step, is_end, IsNumberedOutcome}
use Rattle.regex_lite_engine.proofs.Common.{Node, PendingNode, offset, HasSlots, Row, IsDeadAt}
use Rattle.regex_lite_engine.specs.Backtrack.DepthFirst as walk
use Rattle.regex_lite_engine.specs.Graph.Places.{Place}
use Rattle.regex_lite_engine.proofs.backtrack.DepthFirstEnterLemmas.{
  depth_first_entered,
  depth_first_complete,
}
use Rattle.regex_lite_engine.proofs.backtrack.DepthFirstLemmas.{depth_first_over}
use Rattle.regex_lite_engine.proofs.laws.LeadsLemmas.{leads_append}
use Rattle.regex_lite_engine.proofs.laws.search.OverLemmas.{answer_when_over}
use Rattle.regex_lite_engine.proofs.search.MarkLemmas.{same_slots, marks_append}
use Rattle.regex_lite_engine.proofs.search.RecordLemmas.{extended, same_node}
use Rattle.regex_lite_engine.proofs.search.PlaceLemmas.{wide, no_more, no_arrow_at, is_pending_by}
use Rattle.regex_lite_engine.proofs.search.PlaceLemmas.{pending_listed}

module _ (table : List (Place ℕ)) (h : Text) (s : ℕ) where
  pub holds_on : (i : ℕ) (row row' : Row) (n : Node) (w : List ℕ) (a : ℕ) (l : Node)
      → WayHolds table h s i row n w → numbered_step table h n a ≡ Some l
      → ((ms : Marks) → HasSlots h row ms
      → HasSlots h row' (over (marked (mark_of (place_with table n.0) a) n.1) ms))
      → WayHolds table h s i row' l (w ++ a ∷ [])
  holds_on i row row' n w a l (j, ks, eb, e, path, has) hops f = (
    j,
    ks ++ a ∷ [],
    eb,
    ap (λ z. z ++ a ∷ []) e,
    leads_append (numbered_step table h) ks (a ∷ []) (s, j) n l path (l, hops, refl),
    same_slots h row'
        (over (marked (mark_of (place_with table n.0) a) n.1) (marks (Some (s, j)) ks))
        (marks (Some (s, j)) (ks ++ a ∷ []))
        (λ slot. sym (marks_append h (place_with table) ks (s, j) n a slot path))
        (f (marks (Some (s, j)) ks) has),
  )
    where
      marks : Option Node → List ℕ → Marks
      marks = marks_along h (place_with table)

module _ (table : List (Place ℕ)) (haystack : Text) (s first : ℕ) where
  abbrev start : ℕ → Node
  start i = (s, i)

  abbrev IsDepthFirst : ℕ → (Node → Option (List ℕ)) → List (PendingNode Node) → Type 0
  IsDepthFirst =
      walk.IsDepthFirst Node (numbered_step table haystack) start (is_end table haystack) first
      (length haystack)

  -- no match has its start at or after the first position
  pub numbered_over : (from : ℕ) (recorded : Node → Option (List ℕ))
      → ((i : ℕ) → from ≤ i → i ≤ length haystack → IsDeadAt table haystack s i)
      → IsDepthFirst from recorded [] → IsNumberedOutcome table haystack s first None
  numbered_over from recorded dead u =
      answer_when_over table haystack s first recorded None None
      (depth_first_over Node (numbered_step table haystack) start (is_end table haystack) first
      (length haystack) from recorded dead u) refl

  module _ (from : ℕ) (recorded : Node → Option (List ℕ)) (q p : ℕ) (w : List ℕ)
      (fresh : recorded (q, p) ≡ None) (rest : List (PendingNode Node))
      (u : IsDepthFirst from recorded (((q, p), w) ∷ rest)) where
    abbrev recorded_now : Node → Option (List ℕ)
    recorded_now = extended Node same_node recorded (q, p) w

    -- the arrows of a place where no match is complete come first of what is left
    pub numbered_entered : (IsTrue (is_end table haystack (q, p)) → ⊥)
        → IsDepthFirst from recorded_now
        (is_pending_by table haystack (place_with table q) p w (wide table haystack (q, p)) 0
        ++ rest)
    numbered_entered no_match =
        subst (λ z. IsDepthFirst from recorded_now (z ++ rest))
        (pending_listed table haystack q p w (wide table haystack (q, p)) 0)
        (depth_first_entered Node (numbered_step table haystack) start (is_end table haystack)
        first (length haystack) same_node from recorded (q, p) w fresh rest u
        (wide table haystack (q, p)) (no_more table haystack (q, p)) no_match)

    -- the first complete match is the answer
    pub numbered_complete : (i : ℕ) (row : Row) → IsTrue (is_end table haystack (q, p))
        → WayHolds table haystack s i row (q, p) w
        → IsNumberedOutcome table haystack s first (Some (i, offset haystack p, row))
    numbered_complete i row ends (j, ks, at, parts, along, has) =
        let found : Found = record {
          start = j;
          end = p;
          marks = marks_along haystack (place_with table) (Some (s, j)) ks;
        } in (
          found,
          answer_when_over table haystack s first recorded_now (Some w) (Some found)
              (depth_first_complete Node (numbered_step table haystack) start
              (is_end table haystack)
              first (length haystack) same_node from recorded (q, p) w fresh rest u ends
              (λ a. no_arrow_at table haystack (place_with table q) p a ends))
              (found, ks, q, refl, parts, along, refl),
          at,
          refl,
          has,
        )
