-- The pieces of a haystack between its matches.
use Rattle.std.specs.Prelude.{◌≡◌, ◌+◌, ℕ, zero, suc, Bool, true, false, List, [], ◌∷◌}
use Rattle.std.specs.Prelude.{Option, Some, None, MatchOption, MatchBool, is_none, map, drop}
use Rattle.std.specs.Prelude.{slice_range, chars, unwrap_or, if◌then◌else◌}
use Rattle.std.specs.Borrow.{Bor}
use Rattle.std.specs.Iterator.{Count, at_most}
use Rattle.regex_lite_syntax.specs.Text.{Text}
use Rattle.regex_lite_engine.specs.Search.Answer.{Found}
use Rattle.regex_lite.specs.Expression.{Expression}
use Rattle.regex_lite.specs.Searches.{offsets}
use Rattle.regex_lite.specs.Ahead.{Ahead, AreAhead, ahead_of, most_ahead, whole}
use Rattle.regex_lite.specs.Scanning.{Scanning}

-- the span of a match, as offsets
abbrev pub found_span : Text → Found → ℕ × ℕ
found_span haystack found = offsets haystack (found.start, found.end)

-- the texts before, between and after the spans, from this offset on
abbrev pub pieces : (haystack : List ℕ) → (from : ℕ) → (spans : List (ℕ × ℕ)) → List (List ℕ)
pieces haystack from [] = drop from haystack ∷ []
pieces haystack from (span ∷ spans) =
    slice_range haystack from span.0 ∷ pieces haystack span.1 spans

-- the haystack from this offset on is cut at the matches ahead
pub record IsCut (ahead : Ahead) (from : ℕ) (list : List (List ℕ)) : Type 0 where
  pub found : List Found
  pub are_ahead : AreAhead ahead found
  pub cut : list ≡ pieces ahead.haystack from (map (found_span (chars ahead.haystack)) found)

-- these are the pieces of the haystack
abbrev pub ArePieces : Expression → (haystack : List ℕ) → List (List ℕ) → Type 0
ArePieces re haystack list = IsCut (whole re haystack None) 0 list

-- these are at most this many pieces of the haystack, the last of which is the rest of it
abbrev pub ArePiecesWithin : (limit : ℕ) → Expression → (haystack : List ℕ) → List (List ℕ)
    → Type 0
ArePiecesWithin zero re haystack list = list ≡ []
ArePiecesWithin (suc cuts) re haystack list = IsCut (whole re haystack (Some cuts)) 0 list

-- the matches at which a haystack is still to be cut, and whether its last piece was returned
pub record Cutting : Type 0 where
  pub matches : Scanning Expression
  pub is_done : Bool

-- a haystack that is cut at matches, or the rest of the text as one piece, if there is any
pub data CuttingN : Type 0 where
  at_matches : (it : Cutting) → CuttingN
  as_it_is : (text : Option (List ℕ)) → CuttingN

-- these pieces are left
abbrev pub ArePiecesLeft : Cutting → List (List ℕ) → Type 0
ArePiecesLeft it list =
    MatchBool it.is_done (list ≡ [])
    (IsCut (ahead_of it.matches) (unwrap_or it.matches.ended 0) list)

abbrev pub ArePiecesLeftN : CuttingN → List (List ℕ) → Type 0
ArePiecesLeftN (at_matches it) list = ArePiecesLeft it list
ArePiecesLeftN (as_it_is None) list = list ≡ []
ArePiecesLeftN (as_it_is (Some text)) list = list ≡ text ∷ []

-- the first of the pieces that were left was returned; or none was left, and none comes from then
-- on
abbrev pub GivesPiece : (old : Cutting) → Option (Bor (List ℕ)) → (new : Cutting) → Type 0
GivesPiece old item new =
    MatchOption item ((old.is_done ≡ true) × (new.is_done ≡ true))
    (λ piece. (old.is_done ≡ false)
    × ((list : List (List ℕ)) → ArePiecesLeft new list → ArePiecesLeft old (piece.now ∷ list)))

-- no piece is left
abbrev pub is_over : CuttingN → Bool
is_over (at_matches it) = it.is_done
is_over (as_it_is text) = is_none text

abbrev pub GivesPieceN : (old : CuttingN) → Option (Bor (List ℕ)) → (new : CuttingN) → Type 0
GivesPieceN old item new =
    MatchOption item ((is_over old ≡ true) × (is_over new ≡ true))
    (λ piece. (is_over old ≡ false)
    × ((list : List (List ℕ)) → ArePiecesLeftN new list → ArePiecesLeftN old (piece.now ∷ list)))

-- at most this many pieces are left
abbrev pub most_pieces : Cutting → Count
most_pieces it = at_most (if it.is_done then 0 else most_ahead it.matches + 1)

abbrev pub most_pieces_n : CuttingN → Count
most_pieces_n (at_matches it) = most_pieces it
most_pieces_n (as_it_is None) = at_most 0
most_pieces_n (as_it_is (Some text)) = at_most 1
