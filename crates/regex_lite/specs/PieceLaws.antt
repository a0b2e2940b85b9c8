-- Laws of pieces, and of replacements by templates.
use Rattle.std.specs.Prelude.{◌≡◌, ◌+◌, ◌++◌, ℕ, List, [], ◌∷◌, Option}
use Rattle.std.specs.Prelude.{None, Contains, chars, codes, length, map}
use Rattle.std.specs.List.{concat}
use Rattle.regex_lite_syntax.specs.Text.{the}
use Rattle.regex_lite_engine.specs.Search.Answer.{Found}
use Rattle.regex_lite.specs.Ahead.{Ahead, whole}
use Rattle.regex_lite.specs.Expression.{Expression}
use Rattle.regex_lite.specs.Groups.{Groups, text_at}
use Rattle.regex_lite.specs.MatchList.{AreMatches}
use Rattle.regex_lite.specs.Pieces.{ArePieces, found_span}
use Rattle.regex_lite.specs.Replacements.{IsReplacedBy, IsReplacedInTurn, IsReplacement, Replaces}
use Rattle.regex_lite.specs.Replacing.{Answer, IsAppendedTemplate, IsFixedText}

-- the texts of the two lists alternating, beginning with the first list, and then the rest of it
abbrev pub in_turn : (list others : List (List ℕ)) → List ℕ
in_turn [] others = []
in_turn (text ∷ list) [] = text ++ concat list
in_turn (text ∷ list) (other ∷ others) = text ++ (other ++ in_turn list others)

-- there is one more piece than matches, and pieces and matches alternating give the haystack
pub record AreBetween (haystack : List ℕ) (list matches : List (List ℕ)) : Type 0 where
  pub one_more : length list ≡ length matches + 1
  pub whole : in_turn list matches ≡ haystack

-- the texts of the matches
abbrev pub texts_of_matches : (haystack : List ℕ) → List Found → List (List ℕ)
texts_of_matches haystack found =
    map (λ one. text_at haystack (found_span (chars haystack) one)) found

-- the pieces and the matches of a haystack give the haystack in this way
abbrev pub PiecesAndMatches : Type 0
PiecesAndMatches =
    (re : Expression) (haystack : List ℕ) (list : List (List ℕ)) (found : List Found)
    → ArePieces re haystack list → AreMatches re (chars haystack) None found
    → AreBetween haystack list (texts_of_matches haystack found)

abbrev pub OnePieceList : Type 0
OnePieceList =
    (re : Expression) (haystack : List ℕ) (list other : List (List ℕ))
    → ArePieces re haystack list → ArePieces re haystack other → list ≡ other

-- the relations of a replacer that is a template, like every text
module _ {R : Type 0} (template : R → List ℕ) where
  abbrev pub TemplateFixed : R → Option (List ℕ) → R → Type 0
  TemplateFixed old text new = IsFixedText (template old) text × (new ≡ old)

  abbrev pub TemplateAppends : R → Groups → (text : List ℕ) → Answer → R → Type 0
  TemplateAppends old groups text answer new =
      IsAppendedTemplate (template old) groups text answer × (new ≡ old)

-- replacing matches by the template `$0`, all or up to a limit, gives the text of the haystack
abbrev pub WholeMatchesGiveHaystack : Type 0 → Type 0
WholeMatchesGiveHaystack R =
    (template : R → List ℕ) (rep : R) (re : Expression) (haystack : List ℕ) (limit : Option ℕ)
    (new : List ℕ) → template rep ≡ codes "$0"
    → IsReplacement (TemplateFixed template) (TemplateAppends template) rep
    (whole re haystack limit) new
    → new ≡ haystack

-- for a template without a `$`, replacing each match by the template itself gives the same as
-- replacing it by the template's expansion
abbrev pub FixedTextIsTemplate : Type 0 → Type 0
FixedTextIsTemplate R =
    (template : R → List ℕ) (rep : R) (ahead : Ahead) (new other : List ℕ) (last : R)
    → ¬ (Contains (template rep) (the "$")) → IsReplacedBy (template rep) ahead new
    → IsReplacedInTurn (TemplateFixed template) (TemplateAppends template) rep ahead other last
    → new ≡ other

-- if the relations of a replacer that borrows another are those of the other, it replaces matches
-- as the other does, and leaves the other in the same state
module _ {R : Type 0} (Fixed : R → Option (List ℕ) → R → Type 0)
    (Appends : R → Groups → (text : List ℕ) → Answer → R → Type 0) where
  abbrev pub LentReplacersReplaceAlike : Type 0 → Type 0
  LentReplacersReplaceAlike Lent =
      (lender : Lent → R) (rep : Lent) (ahead : Ahead) (new : List ℕ) (last : Lent)
      → Replaces (λ old text after. Fixed (lender old) text (lender after))
      (λ old groups text answer after. Appends (lender old) groups text answer (lender after))
      rep ahead new last
      → Replaces Fixed Appends (lender rep) ahead new (lender last)
