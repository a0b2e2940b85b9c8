-- From the pieces that come one after another to the list of all.
use Rattle.std.proofs.Common.{◌≡◌, ℕ, true, List, []}
use Rattle.std.proofs.Common.{◌∷◌, ◌++◌, Option, flat_map, codes, refl, sym, ◌∙◌}
use Rattle.std.proofs.lemmas.List.{append_assoc, append-nil}
use Rattle.regex_lite.specs.Expression.{Expression}
use Rattle.regex_lite.specs.Pieces.{ArePieces, ArePiecesLeft, Cutting}
use Rattle.rxl.specs.declared.output.Output.{Output}
use Rattle.rxl.specs.Output.{Puts}
use Rattle.rxl.specs.Printed.{PrintsPieces, piece_line}
use Rattle.rxl.proofs.OutputLemmas.{at_true, puts_more}

-- This text and then the lines of the pieces that are left are the lines of all pieces
pub record PiecesFollow (re : Expression) (haystack : List ℕ) (it : Cutting) (printed : List ℕ)
    : Type 0 where
  pub on : (list : List (List ℕ)) → ArePiecesLeft it list
      → (all : List (List ℕ)) × ArePieces re haystack all
      × (printed ++ flat_map piece_line list ≡ flat_map piece_line all)

module _ (re : Expression) (haystack : List ℕ) where
  pub pieces_start : (it : Cutting)
      → ((list : List (List ℕ)) → ArePiecesLeft it list → ArePieces re haystack list)
      → PiecesFollow re haystack it []
  pieces_start it are = record { on = λ list left. (list, are list left, refl) }

  -- the line of a piece that came is after those before it
  pub pieces_more : (old new : Cutting) (printed piece : List ℕ)
      → PiecesFollow re haystack old printed
      → ((list : List (List ℕ)) → ArePiecesLeft new list → ArePiecesLeft old (piece ∷ list))
      → PiecesFollow re haystack new (printed ++ piece_line piece)
  pieces_more old new printed piece follow came = record {
    on = λ list left.
        let all = follow.on (piece ∷ list) (came list left) in (
          all.0,
          all.1,
          append_assoc printed (piece_line piece) (flat_map piece_line list) ∙ all.2,
        );
  }

  -- where none is left all lines are printed
  pub pieces_end : (it : Cutting) (printed : List ℕ) → PiecesFollow re haystack it printed
      → it.is_done ≡ true → PrintsPieces re haystack printed
  pieces_end it printed follow over =
      let all = follow.on [] (at_true _ _ it.is_done over refl) in
      record { pieces = all.0; are_all = all.1; printed = sym (append-nil printed) ∙ all.2 }

-- a bracket, a piece, a bracket and a line feed are its line
pub line_put : (old first second new : Output) (held one two holds : Option (List ℕ))
    (piece : List ℕ) → Puts old held first one (codes "[") → Puts first one second two piece
    → Puts second two new holds (codes "]\n") → Puts old held new holds (piece_line piece)
line_put old first second new held one two holds piece a b c =
    puts_more old first new held one holds (codes "[") (piece ++ codes "]\n") a
    (puts_more first second new one two holds piece (codes "]\n") b c)
