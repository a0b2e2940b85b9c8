-- Laws of what searches return, and of equality.
use Rattle.std.specs.Prelude.{◌≡◌, ◌≤◌, ◌↔◌, ℕ, List, Bool, IsTrue, IsUtf8, Option, Some}
use Rattle.std.specs.Prelude.{IfSome, chars, is_some, length, option_map, option_and_then}
use Rattle.std.specs.Bool.{Decides}
use Rattle.regex_lite_syntax.specs.declared.error.Error.{Error}
use Rattle.regex_lite_syntax.specs.declared.error.ErrorKind.{ErrorKind}
use Rattle.regex_lite_syntax.specs.declared.error.ErrorKind.TheVariants.{Size, Places, Memory}
use Rattle.regex_lite_syntax.specs.Errors.{kind_of}
use Rattle.regex_lite_syntax.specs.Escaped.{StandsAt}
use Rattle.regex_lite_syntax.specs.Text.{Text}
use Rattle.regex_lite_syntax.specs.Tree.Matches.{Matches}
use Rattle.regex_lite.specs.declared.string.matches.Match.{Match}
use Rattle.regex_lite.specs.Escapes.{escaped_pattern}
use Rattle.regex_lite.specs.Expression.{Expression, IsDue, OfTree, expression_of}
use Rattle.regex_lite.specs.Groups.{Groups, LiesIn, group_span, texts_from, whole_span}
use Rattle.regex_lite.specs.MatchViews.{is_same_match, span_of_match, match_with_haystack}
use Rattle.regex_lite.specs.Searches.{MatchesFrom, TellsEnd, TellsGroups, TellsMatch}
use Rattle.regex_lite.specs.Settings.{Settings, default_settings}

-- a search for whether there is a match, one for the match, one for its groups and one for the
-- least end agree
pub record Agree (found : Bool) (reported : Option Match) (groups : Option Groups) (end : Option ℕ)
    : Type 0 where
  pub with_match : is_some reported ≡ found
  pub with_groups : is_some groups ≡ found
  pub with_end : is_some end ≡ found
  -- the match is group 0
  pub whole : option_map span_of_match reported ≡ option_and_then (λ own. group_span own 0) groups

-- the searches for one pattern, in one haystack and from one offset on, agree
abbrev pub SearchesAgree : Type 0
SearchesAgree =
    (re : Expression) (haystack : List ℕ) (start : ℕ) (found : Bool) (reported : Option Match)
    (groups : Option Groups) (end : Option ℕ)
    → (IsTrue found ↔ MatchesFrom re haystack start) → TellsMatch re haystack start reported
    → TellsGroups re haystack start groups → TellsEnd re haystack start end
    → Agree found reported groups end

-- a span lies inside that of the match, and in the haystack on character boundaries
pub record LiesInside (haystack : List ℕ) (whole span : ℕ × ℕ) : Type 0 where
  pub starts_inside : whole.0 ≤ span.0
  pub ends_inside : span.1 ≤ whole.1
  pub lies_in : LiesIn haystack span

-- each group that a search returns and that took part lies inside the match
abbrev pub GroupsLieInside : Type 0
GroupsLieInside =
    (re : Expression) (haystack : List ℕ) (start : ℕ) (groups : Groups) → IsUtf8 haystack
    → TellsGroups re haystack start (Some groups)
    → (index : ℕ) → IfSome (group_span groups index) (LiesInside haystack (whole_span groups))

-- at least as many groups took part as take part in every match
abbrev pub EnoughGroupsTakePart : Type 0
EnoughGroupsTakePart =
    (re : Expression) (haystack : List ℕ) (start : ℕ) (groups : Groups) → IsUtf8 haystack
    → TellsGroups re haystack start (Some groups)
    → IfSome groups.static_captures_len (λ n. n ≤ length (texts_from groups 0))

-- two matches are equal exactly if the texts of their haystacks and their spans are
abbrev pub MatchesAreTheirSpans : Type 0
MatchesAreTheirSpans =
    (one other : Match)
    → Decides (is_same_match one other) (match_with_haystack one ≡ match_with_haystack other)

-- the default settings with an escaped text as the pattern
abbrev pub escaped_settings : (text : List ℕ) → Settings
escaped_settings text = default_settings (escaped_pattern text)

-- an error of this kind says that the pattern is too large, or that memory ran out
abbrev pub IsForSize : ErrorKind → Type 0
IsForSize Size = Unit {0}
IsForSize Places = Unit {0}
IsForSize Memory = Unit {0}
IsForSize _ = ⊥

-- no other error is due for an escaped text
abbrev pub EscapedTextsAreRefusedForSize : Type 0
EscapedTextsAreRefusedForSize =
    (text : List ℕ) (error : Error) → IsUtf8 text → IsDue (escaped_settings text) error
    → IsForSize (kind_of error)

-- an escaped text has a tree, which matches exactly where the text occurs
abbrev pub EscapedTextsMatchThemselves : Type 0
EscapedTextsMatchThemselves =
    (text : List ℕ) → IsUtf8 text
    → OfTree (expression_of (escaped_settings text)) (λ tree.
    (haystack : Text) (i j : ℕ) → Matches haystack tree i j ↔ StandsAt (chars text) haystack i j)
