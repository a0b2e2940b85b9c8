-- The answer over a table of numbered places is that over the pattern which the table stands for.
use Rattle.regex_lite_engine.proofs.Common.{ℕ, ◌<◌, List, length, Some, None, Option, sym, ap, ◌∙◌}
use Rattle.regex_lite_engine.proofs.Common.{Text, Tree, IsRegular, Address, IsRenumbered}
use Rattle.regex_lite_engine.proofs.Common.{IsNumberOf, start_address, written_out}
use Rattle.regex_lite_engine.proofs.Common.{place_of_pattern, IsMatchFrom, Found, IsAnswer}
use Rattle.regex_lite_engine.proofs.Common.{marks_along, marks_of_way, IsNumberedMatch, ◌≤◌, ◌≡◌}
use Rattle.regex_lite_engine.proofs.Common.{Bool, IsWayThrough, arith, end_address, place_with}
use Rattle.regex_lite_engine.proofs.Common.{subst}
use Rattle.regex_lite_syntax.specs.Tree.Matches.{IsPosition}
use Rattle.regex_lite_engine.specs.Graph.Places.{Place}
use Rattle.regex_lite_engine.specs.Search.Answer.{IsShortest}
use Rattle.regex_lite_engine.specs.Search.AnswerAt.{HasMatchAt, IsFoundAt, MayEndAt}
use Rattle.regex_lite_engine.specs.Search.NumberedAnswer.{IsNumberedAnswer, IsWantedFound}
use Rattle.regex_lite_engine.specs.Search.NumberedAnswer.{IsWantedMatch, IsWantedWay}
use Rattle.regex_lite_engine.proofs.laws.PatternWayLemmas.{match_way, walk_match}
use Rattle.regex_lite_engine.proofs.laws.search.NumberedWayLemmas.{IsPart, IsPartNumber, whole_part}
use Rattle.regex_lite_engine.proofs.laws.search.NumberedWayLemmas.{whole_number, marks_named}
use Rattle.regex_lite_engine.proofs.laws.search.NumberedWayLemmas.{begins, in_numbers, in_addresses}
use Rattle.regex_lite_engine.proofs.laws.answer.ReachLemmas.{walk_inside}
use Rattle.regex_lite_engine.proofs.search.WantedLemmas.{complete_there, ends_where_wanted}
use Rattle.regex_lite_engine.proofs.search.WantedLemmas.{wanted_and_complete, wanted_there}
use Rattle.regex_lite_engine.proofs.search.WantedLemmas.{wanted_where_ends}

-- what a search from position s on for the shortest match answers
abbrev pub IsNumberedShortest : List (Place ℕ) → Text → (start s : ℕ) → Option ℕ → Type 0
IsNumberedShortest table haystack start s None =
    (i q j : ℕ) (way : List ℕ) → IsNumberedMatch table haystack start s i way q j → ⊥
IsNumberedShortest table haystack start s (Some end) =
    ((i : ℕ) × (q : ℕ) × (way : List ℕ) × IsNumberedMatch table haystack start s i way q end)
    × ((i q j : ℕ) (way : List ℕ) → IsNumberedMatch table haystack start s i way q j → end ≤ j)

module _ (tree : Tree) (haystack : Text) (table : List (Place ℕ)) (start : ℕ)
    (name : ℕ → Address) (Part : ℕ → Type 0) (r : IsPart (written_out tree) name table Part)
    (first : IsPartNumber name Part start_address start) (regular : IsRegular tree) where
  -- a match of the tree, over numbers
  pub numbered_match : (s i j : ℕ) → IsMatchFrom tree haystack s i j
      → (q : ℕ) × (way : List ℕ) × IsNumberedMatch table haystack start s i way q j
  numbered_match s i j m =
      let way = match_way tree haystack i j regular m.matches in
      let numbered = in_numbers tree haystack table start name Part r first i j way.0 way.1 in (
        numbered.0,
        way.0,
        record { from = m.from; inside = m.inside; leads = numbered.1 },
      )

  -- and the other way round
  pub match_of_numbers : (s i q j : ℕ) (way : List ℕ)
      → IsNumberedMatch table haystack start s i way q j → IsMatchFrom tree haystack s i j
  match_of_numbers s i q j way m =
      let is_way = in_addresses tree haystack table start name Part r first i q j way m.leads in
      record {
        from = m.from;
        inside = m.inside;
        matches = walk_match tree haystack i j way regular is_way.0;
      }

  -- what a way marks by its numbers is what it marks in the pattern
  marks_are : (way : List ℕ) (i : ℕ) → marks_of_way tree haystack i way
      ≡ marks_along haystack (place_with table) (Some (start, i)) way
  marks_are way i =
      ap (λ n. marks_along haystack (place_of_pattern tree) (Some n) way)
      (begins tree haystack table start name Part r first i)
      ∙ marks_named tree haystack table start name Part r first way (start, i) first.inside

  pub answer_of_part : (s : ℕ) (answer : Option Found)
      → IsNumberedAnswer table haystack start s answer → IsAnswer tree haystack s answer
  answer_of_part s None none = λ (i, j, m). (
      let (q, way, numbered) = numbered_match s i j m in none i q j way numbered)
  answer_of_part s (Some found) is = record {
    from = is.from;
    inside = is.inside;
    least = λ i j m. (
        let (q, way, numbered) = numbered_match s i j m in is.least i q j way numbered);
    way = is.way;
    most_preferred = record {
      is_way =
          in_addresses tree haystack table start name Part r first found.start is.last found.end
          is.way is.is_way;
      preferred = λ other j p. (
          let numbered =
          in_numbers tree haystack table start name Part r first found.start j other p in
          is.preferred other numbered.0 j numbered.1);
    };
    marks = is.marks ∙ sym (marks_are is.way found.start);
  }

  -- what is found of the tree is found over numbers
  pub found_in_part : (s : ℕ) (found : Found) → IsAnswer tree haystack s (Some found)
      → IsNumberedAnswer table haystack start s (Some found)
  found_in_part s found is =
      let numbered =
      in_numbers tree haystack table start name Part r first found.start found.end is.way
      is.most_preferred.is_way in
      record {
        from = is.from;
        inside = is.inside;
        least = λ i q j way m. is.least i j (match_of_numbers s i q j way m);
        way = is.way;
        last = numbered.0;
        is_way = numbered.1;
        preferred = λ other q j p.
            is.most_preferred.preferred other j
            (in_addresses tree haystack table start name Part r first found.start q j other p);
        marks = is.marks ∙ marks_are is.way found.start;
      }

  -- a way to where a match may end, over numbers
  wanted_way : (whole : Bool) (i j : ℕ) (way : List ℕ) → MayEndAt whole haystack j
      → IsWayThrough tree haystack i way j
      → (q : ℕ) × IsWantedWay table haystack whole start i way q j
  wanted_way whole i j way may is =
      let numbered = in_numbers tree haystack table start name Part r first i j way is in (
        numbered.0,
        record {
          is_way = numbered.1.is_way;
          ends = wanted_and_complete table haystack whole (numbered.0, j)
              (wanted_where_ends haystack whole j may) numbered.1.ends;
        },
      )

  -- and the other way round
  way_of_wanted : (whole : Bool) (i q j : ℕ) (way : List ℕ) → IsPosition haystack i
      → IsWantedWay table haystack whole start i way q j
      → IsWayThrough tree haystack i way j × MayEndAt whole haystack j
  way_of_wanted whole i q j way inside is =
      let own = in_addresses tree haystack table start name Part r first i q j way
      (record { is_way = is.is_way; ends = complete_there table haystack whole (q, j) is.ends }) in (
        own,
        ends_where_wanted haystack whole j
            (walk_inside haystack (place_of_pattern tree) way (start_address, i) (end_address, j)
            own.0
            inside) (wanted_there table haystack whole (q, j) is.ends),
      )

  -- a match at position s, over numbers
  pub wanted_match : (whole : Bool) (s : ℕ) → HasMatchAt whole tree haystack s
      → (j : ℕ) × (q : ℕ) × (way : List ℕ)
      × IsWantedMatch table haystack whole start s s way q j
  wanted_match whole s (inside, (j, may, m)) =
      let way = match_way tree haystack s j regular m in
      let numbered = wanted_way whole s j way.0 may way.1 in (
        j,
        numbered.0,
        way.0,
        record { from = omega arith; inside = inside; leads = numbered.1 },
      )

  -- and the other way round
  pub match_of_wanted : (whole : Bool) (s i q j : ℕ) (way : List ℕ) → i ≤ s
      → IsWantedMatch table haystack whole start s i way q j → HasMatchAt whole tree haystack s
  match_of_wanted whole s i q j way up_to m =
      let from = m.from in
      let same : i ≡ s = omega (arith, from, up_to) in
      let own = way_of_wanted whole i q j way m.inside m.leads in
      subst (HasMatchAt whole tree haystack) same
      (m.inside, (j, own.1, walk_match tree haystack i j way regular own.0.0))

  -- what is found at position s
  pub found_at_of_part : (whole : Bool) (s : ℕ) (found : Found) → found.start ≤ s
      → IsWantedFound table haystack whole start s found
      → IsFoundAt whole tree haystack s found
  found_at_of_part whole s found up_to is =
      let from = is.from in
      let same : found.start ≡ s = omega (arith, from, up_to) in
      let own = way_of_wanted whole found.start is.last found.end is.way is.inside is.is_way in
      record {
        start = same;
        ends = own.1;
        of_way = record {
          inside = is.inside;
          way = is.way;
          is_way = own.0;
          marks = is.marks ∙ sym (marks_are is.way found.start);
        };
        preferred = λ other j may way. (
            let numbered = wanted_way whole found.start j other may
            (subst (λ z. IsWayThrough tree haystack z other j) (sym same) way) in
            is.preferred other numbered.0 j numbered.1);
      }

  pub shortest_of_part : (s : ℕ) (answer : Option ℕ)
      → IsNumberedShortest table haystack start s answer → IsShortest tree haystack s answer
  shortest_of_part s None none = λ (i, j, m). (
      let (q, way, numbered) = numbered_match s i j m in none i q j way numbered)
  shortest_of_part s (Some end) ((i, q, way, m), least) = record {
    start = i;
    is_match = match_of_numbers s i q end way m;
    least = λ k j n. (
        let (p, other, numbered) = numbered_match s k j n in least k p j other numbered);
  }

-- over the whole table
module _ (tree : Tree) (haystack : Text) (table : List (Place ℕ)) (start : ℕ)
    (name : ℕ → Address) (r : IsRenumbered (written_out tree) name table)
    (first : IsNumberOf name table start_address start) (regular : IsRegular tree) where
  pub answer_of_numbers : (s : ℕ) (answer : Option Found)
      → IsNumberedAnswer table haystack start s answer → IsAnswer tree haystack s answer
  answer_of_numbers =
      answer_of_part tree haystack table start name (λ q. q < length table)
      (whole_part (written_out tree) name table r)
      (whole_number name table start_address start first)
      regular

  pub found_in_numbers : (s : ℕ) (found : Found) → IsAnswer tree haystack s (Some found)
      → IsNumberedAnswer table haystack start s (Some found)
  found_in_numbers =
      found_in_part tree haystack table start name (λ q. q < length table)
      (whole_part (written_out tree) name table r)
      (whole_number name table start_address start first)
      regular

  pub shortest_of_numbers : (s : ℕ) (answer : Option ℕ)
      → IsNumberedShortest table haystack start s answer → IsShortest tree haystack s answer
  shortest_of_numbers =
      shortest_of_part tree haystack table start name (λ q. q < length table)
      (whole_part (written_out tree) name table r)
      (whole_number name table start_address start first)
      regular
