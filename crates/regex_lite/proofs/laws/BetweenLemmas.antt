-- Pieces and matches in turn are the haystack.
use Rattle.regex_lite.proofs.Common.{◌≡◌, ℕ, ◌+◌, ◌-◌, ◌≤◌, List, [], ◌∷◌, ◌++◌, map, length, take}
use Rattle.regex_lite.proofs.Common.{drop, slice_range, Some, None, Option, chars, unwrap_or, sym}
use Rattle.regex_lite.proofs.Common.{refl, ap, ◌∙◌, subst, arith, length-map, Found, offset}
use Rattle.regex_lite.proofs.Common.{Expression, text_at, found_span}
use Rattle.std.proofs.lemmas.List.{append-nil, drop-drop, take-append-drop}
use Rattle.regex_lite_engine.proofs.OffsetLemmas.{offset_grows}
use Rattle.regex_lite.specs.MatchList.{AreMatches}
use Rattle.regex_lite.specs.PieceLaws.{OnePieceList, PiecesAndMatches, in_turn, texts_of_matches}
use Rattle.regex_lite.specs.Pieces.{pieces}
use Rattle.regex_lite.proofs.laws.NextMatchLemmas.{StandsFrom, first_stands, same_within}

-- a part, and all that follows it
part : (hay : List ℕ) (i j : ℕ) → i ≤ j → slice_range hay i j ++ drop j hay ≡ drop i hay
part hay i j ordered =
    let k : ℕ = j - i in
    let end : i + k ≡ j = omega (arith, ordered) in
    ap (λ n. take k (drop i hay) ++ drop n hay) (sym end)
    ∙ ap (λ t. take k (drop i hay) ++ t) (sym (drop-drop k i hay)) ∙ take-append-drop k (drop i hay)

-- what stands before a match, the match, and what is after it
pub cut_around : (hay : List ℕ) (e from : ℕ) (found : Found) (rest : List ℕ)
    → from ≡ offset (chars hay) e → StandsFrom e found
    → rest ≡ drop (offset (chars hay) found.end) hay
    → slice_range hay from (offset (chars hay) found.start)
    ++ (text_at hay (found_span (chars hay) found) ++ rest) ≡ drop from hay
cut_around hay e from found rest is stands later =
    let h = chars hay in
    let s = offset h found.start in
    let t = offset h found.end in
    let before : from ≤ s =
    subst (λ n. n ≤ s) (sym is) (offset_grows h e found.start stands.from) in
    ap (λ x. slice_range hay from s ++ (slice_range hay s t ++ x)) later
    ∙ ap (λ x. slice_range hay from s ++ x)
    (part hay s t (offset_grows h found.start found.end stands.ordered)) ∙ part hay from s before

one_more : (hay : List ℕ) (from : ℕ) (spans : List (ℕ × ℕ))
    → length (pieces hay from spans) ≡ length spans + 1
one_more hay from [] = refl
one_more hay from (span ∷ spans) = let more = one_more hay span.1 spans in omega (arith, more)

woven : (re : Expression) (hay : List ℕ) (ended : Option ℕ) (from : ℕ) (list : List Found)
    → from ≡ offset (chars hay) (unwrap_or ended 0) → AreMatches re (chars hay) ended list
    → in_turn (pieces hay from (map (found_span (chars hay)) list)) (texts_of_matches hay list)
    ≡ drop from hay
woven re hay ended from [] is matches = append-nil (drop from hay)
woven re hay ended from (found ∷ list) is (next, rest) =
    let h = chars hay in
    cut_around hay (unwrap_or ended 0) from found
    (in_turn (pieces hay (offset h found.end) (map (found_span h) list))
    (texts_of_matches hay list)) is (first_stands re h None ended found list (next, rest))
    (woven re hay (Some found.end) (offset h found.end) list refl rest)

pub one_piece_list : OnePieceList
one_piece_list re hay list other p q =
    let same = same_within re (chars hay) None None p.found q.found p.are_ahead q.are_ahead in
    p.cut ∙ ap (λ found. pieces hay 0 (map (found_span (chars hay)) found)) same ∙ sym q.cut

pub pieces_and_matches : PiecesAndMatches
pieces_and_matches re hay list found cut matches =
    let h = chars hay in
    let Spans : List Found → List (ℕ × ℕ) = map (found_span h) in
    let same = same_within re h None None cut.found found cut.are_ahead matches in
    let is : list ≡ pieces hay 0 (Spans found) = cut.cut ∙ ap (λ l. pieces hay 0 (Spans l)) same in
    let spans = length-map found (found_span h) in
    let texts = length-map found (λ one. text_at hay (found_span h one)) in
    record {
      one_more = ap length is ∙ one_more hay 0 (Spans found) ∙ ap (λ n. n + 1) (spans ∙ sym texts);
      whole = ap (λ l. in_turn l (texts_of_matches hay found)) is
          ∙ woven re hay None 0 found refl matches;
    }
