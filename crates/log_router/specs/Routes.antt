-- The rule that matches in a line, and the fields that it finds there.
use Rattle.std.specs.Prelude.{◌≡◌, ◌<◌, ℕ, List, Option, Some, None, filter_map, map, option_map}
use Rattle.std.specs.Prelude.{slice_get}
use Rattle.regex_lite.specs.Expression.{AreNames, Expression, OfTree}
use Rattle.regex_lite.specs.Groups.{Groups, named_text}
use Rattle.regex_lite.specs.MatchOffsets.{MatchesIn}
use Rattle.regex_lite.specs.Searches.{TellsGroups}
use Rattle.log_router.specs.declared.route.Field.{Field}
use Rattle.log_router.specs.declared.route.Routed.{Routed}

-- the name of a group, if it has one, with the text of the group, if it took part
abbrev pub field_of : Groups → (name : Option (List ℕ)) → Option (List ℕ × List ℕ)
field_of groups None = None
field_of groups (Some name) = option_map (λ text. (name, text)) (named_text groups name)

-- the fields are the named groups that took part, in the order of their indices
pub record AreFields (rule : Expression) (groups : Groups) (fields : List (List ℕ × List ℕ))
    : Type 0 where
  pub names : List (Option (List ℕ))
  pub are_names : OfTree rule (AreNames names)
  pub are : fields ≡ filter_map (field_of groups) names

-- the name and the value of a field
abbrev pub texts_of_field : Field → List ℕ × List ℕ
texts_of_field field = (field.name.now, field.value.now)

-- this is the first rule that matches in the line, with the fields of its first match there
pub record IsRouted (rules : List Expression) (line : List ℕ) (routed : Routed) : Type 0 where
  pub rule : Expression
  pub numbered : slice_get rules routed.rule ≡ Some rule
  pub first : (lower : ℕ) (other : Expression) → lower < routed.rule
      → slice_get rules lower ≡ Some other → ¬ (MatchesIn other line)
  pub groups : Groups
  pub matched : TellsGroups rule line 0 (Some groups)
  pub fields : AreFields rule groups (map texts_of_field routed.fields.items)

-- no rule matches in the line
abbrev pub FitsNone : (rules : List Expression) → (line : List ℕ) → Type 0
FitsNone rules line =
    (number : ℕ) (rule : Expression) → slice_get rules number ≡ Some rule
    → ¬ (MatchesIn rule line)
