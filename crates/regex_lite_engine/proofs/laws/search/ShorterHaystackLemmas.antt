-- A haystack that is cut off at a position. If no arrow requires a look, the ways in it are those
-- in the whole haystack that end there or before.
use Rattle.regex_lite_engine.proofs.Common.{◌≡◌, ℕ, zero, suc, ◌<◌, ◌≤◌, List, [], ◌∷◌}
use Rattle.regex_lite_engine.proofs.Common.{length, take, Some, Option, sym, refl, ap, ◌∙◌}
use Rattle.regex_lite_engine.proofs.Common.{arith, length-take-le, Text, after, Tree}
use Rattle.regex_lite_engine.proofs.Common.{IsRegular, Address, Condition, free, holding, reading}
use Rattle.regex_lite_engine.proofs.Common.{Arrow, complete, with_arrows, read_past, taken, arrived}
use Rattle.regex_lite_engine.proofs.Common.{arrow_taken, step_from}
use Rattle.regex_lite_engine.proofs.Common.{end_address, start_address, place_of_pattern}
use Rattle.regex_lite_engine.proofs.Common.{IsWayThrough, IsMatchFrom, Found, IsFound}
use Rattle.regex_lite_engine.specs.Graph.NoLooks.{RequiresNoLook, IsNoLook, RequireNoLook}
use Rattle.regex_lite_engine.specs.Graph.Places.{Place}
use Rattle.regex_lite_engine.proofs.laws.PatternWayLemmas.{match_way, walk_match}
use Rattle.regex_lite_engine.proofs.laws.WalkLemmas.{was_read}
use Rattle.regex_lite_engine.proofs.laws.answer.ReachLemmas.{walk_inside}
use Rattle.regex_lite_engine.proofs.laws.search.AlikeLemmas.{after_kept, arrived_at, leads_alike}
use Rattle.regex_lite_engine.proofs.laws.search.AlikeLemmas.{leads_onward, marks_alike, way_alike}
use Rattle.regex_lite_engine.proofs.laws.search.AlikeLemmas.{StepsAlike}

-- there is none at the end
before_end : (haystack : Text) (end i c : ℕ) → after (take end haystack) i ≡ Some c → i < end
before_end haystack zero i c e = absurd cc
before_end [] (suc end) i c e = absurd cc
before_end (d ∷ haystack) (suc end) zero c e = omega arith
before_end (d ∷ haystack) (suc end) (suc i) c e =
    let less = before_end haystack end i c e in omega (arith, less)

-- a condition by which an arrow leads from position i to position j
module _ (haystack : Text) (end i j : ℕ) where
  taken_in_whole : (condition : Condition) → IsNoLook condition
      → taken (take end haystack) condition i ≡ Some j → taken haystack condition i ≡ Some j
  taken_in_whole free plain s = s
  taken_in_whole (holding test) plain s = absurd plain
  taken_in_whole (reading set) plain s =
      let read = was_read set i j (after (take end haystack) i) s in
      let less = before_end haystack end i read.0 read.1 in
      ap (read_past set i) (sym (after_kept haystack end i less)) ∙ s

  loaded_to : j ≤ end → (condition : Condition) → IsNoLook condition
      → taken haystack condition i ≡ Some j → taken (take end haystack) condition i ≡ Some j
  loaded_to low free plain s = s
  loaded_to low (holding test) plain s = absurd plain
  loaded_to low (reading set) plain s =
      let read = was_read set i j (after haystack i) s in
      ap (read_past set i) (after_kept haystack end i (omega (arith, low, read.3))) ∙ s

-- the arrow that is taken, where `leads` says where one leads on each haystack
record IsTaken {A : Type 0} (haystack : Text) (i : ℕ) (leads : Text → Option (A × ℕ))
    (next : A × ℕ) : Type 0 where
  arrow : Arrow A
  plain : IsNoLook arrow.condition
  there : (other : Text) → leads other ≡ arrow_taken other i (Some arrow)
  to : arrow.to ≡ next.0
  fits : taken haystack arrow.condition i ≡ Some next.1

module _ {A : Type 0} (haystack : Text) where
  taken_of : (arrows : List (Arrow A)) (i k : ℕ) (next : A × ℕ) → RequireNoLook arrows
      → step_from haystack (with_arrows arrows) i k ≡ Some next
      → IsTaken haystack i (λ other. step_from other (with_arrows arrows) i k) next
  taken_of [] i k next plain s = absurd cc
  taken_of (arrow ∷ arrows) i zero next plain s =
      let at = arrived_at arrow.to next.0 (taken haystack arrow.condition i) next.1 s in
      record {
        arrow = arrow;
        plain = plain.0;
        there = λ other. refl;
        to = at.0;
        fits = at.1;
      }
  taken_of (arrow ∷ arrows) i (suc k) next plain s = taken_of arrows i k next plain.1 s

  taken_at : (place : Place A) (i k : ℕ) (next : A × ℕ) → RequiresNoLook place
      → step_from haystack place i k ≡ Some next
      → IsTaken haystack i (λ other. step_from other place i k) next
  taken_at complete i k next plain s = absurd cc
  taken_at (with_arrows arrows) i k next plain s = taken_of arrows i k next plain s

-- if it fits another haystack there, it leads to the same place and position
step_there : {A : Type 0} {haystack : Text} {leads : Text → Option (A × ℕ)} (other : Text) (i : ℕ)
    (next : A × ℕ) (t : IsTaken haystack i leads next)
    → taken other t.arrow.condition i ≡ Some next.1 → leads other ≡ Some next
step_there other i next t fits =
    t.there other ∙ ap (arrived t.arrow.to) fits ∙ ap (λ a. Some (a, next.1)) t.to

-- a graph whose arrows require no look, on the whole haystack and on its part up to a position
module _ {A : Type 0} (place : A → Place A) (plain : (a : A) → RequiresNoLook (place a))
    (haystack : Text) (end : ℕ) where
  step_in_whole : StepsAlike place (take end haystack) haystack end
  step_in_whole n m k low s =
      let t = taken_at (take end haystack) (place n.0) n.1 k m (plain n.0) s in
      step_there haystack n.1 m t
      (taken_in_whole haystack end n.1 m.1 t.arrow.condition t.plain t.fits)

  step_up_to : StepsAlike place haystack (take end haystack) end
  step_up_to n m k low s =
      let t = taken_at haystack (place n.0) n.1 k m (plain n.0) s in
      step_there (take end haystack) n.1 m t
      (loaded_to haystack end n.1 m.1 low t.arrow.condition t.plain t.fits)

module _ (tree : Tree) (haystack : Text) (found : Found)
    (plain : (a : Address) → RequiresNoLook (place_of_pattern tree a)) where
  abbrev start : ℕ → Address × ℕ
  start i = (start_address, i)

  abbrev end : ℕ → Address × ℕ
  end j = (end_address, j)

  abbrev part : Text
  part = take found.end haystack

  -- what is found in the haystack is found in its part up to the match's end
  pub found_up_to : (s : ℕ) → IsRegular tree → IsFound tree haystack s found
      → IsFound tree part s found
  found_up_to s regular is = record {
    from = is.from;
    inside = omega (arith, forward, long);
    least = λ i j m. is.least i j (whole_match i j m);
    way = is.way;
    most_preferred = record {
      is_way = is_way;
      preferred = λ other k p. is.most_preferred.preferred other k (way_in_whole other k p);
    };
    marks = is.marks
        ∙ marks_alike place haystack part found.end up_to is.way (start found.start)
        (end found.end) (omega arith) is.most_preferred.is_way.0;
  }
    where
      place : Address → Place Address
      place = place_of_pattern tree

      in_whole : StepsAlike place part haystack found.end
      in_whole = step_in_whole place plain haystack found.end

      up_to : StepsAlike place haystack part found.end
      up_to = step_up_to place plain haystack found.end

      is_way : IsWayThrough tree part found.start is.way found.end
      is_way = way_alike place haystack part found.end up_to in_whole is.way (start found.start)
          (end found.end) (omega arith) is.most_preferred.is_way

      forward : found.start ≤ found.end
      forward = leads_onward place haystack is.way (start found.start) (end found.end)
          is.most_preferred.is_way.0

      inside : found.end ≤ length haystack
      inside = walk_inside haystack place is.way (start found.start) (end found.end)
          is.most_preferred.is_way.0 is.inside

      long : length part ≡ found.end
      long = length-take-le found.end haystack inside

      way_in_whole : (way : List ℕ) (j : ℕ) → IsWayThrough tree part found.start way j
          → IsWayThrough tree haystack found.start way j
      way_in_whole way j p =
          let low = walk_inside part place way (start found.start) (end j) p.0
          (omega (arith, forward, long)) in
          way_alike place part haystack found.end in_whole up_to way (start found.start) (end j)
          (omega (arith, low, long)) p

      whole_match : (i j : ℕ) → IsMatchFrom tree part s i j → IsMatchFrom tree haystack s i j
      whole_match i j m =
          let way = match_way tree part i j regular m.matches in
          let low = walk_inside part place way.0 (start i) (end j) way.1.0 m.inside in
          record {
            from = m.from;
            inside = omega (arith, m.inside, long, inside);
            matches = walk_match tree haystack i j way.0 regular
                (leads_alike place part haystack found.end in_whole way.0 (start i) (end j)
                (omega (arith, low, long)) way.1.0);
          }
