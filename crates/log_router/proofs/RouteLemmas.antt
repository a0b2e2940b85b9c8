-- Whether a rule matches in a line, and the fields of names, one after another.
use Rattle.std.proofs.Common.{◌≡◌, ℕ, List, [], ◌∷◌, ◌++◌, Option, Some, None, map, arith}
use Rattle.std.proofs.Common.{refl, sym, ap, ◌∙◌, append_assoc, append-nil}
use Rattle.std.specs.Prelude.{IsUtf8, filter_map, option_map}
use Rattle.std.specs.Borrow.{Bor}
use Rattle.std.proofs.lemmas.List.{map-append}
use Rattle.std.proofs.lemmas.List.Elements.{filter_map-append}
use Rattle.regex_lite.specs.Expression.{Expression}
use Rattle.regex_lite.specs.MatchOffsets.{MatchesIn}
use Rattle.regex_lite.specs.OffsetLaws.{SearchesFindFirst}
use Rattle.regex_lite.specs.Searches.{CanStartAt, TellsGroups}

-- where a search finds nothing no match begins
pub matches_nowhere : SearchesFindFirst → (rule : Expression) (line : List ℕ) → IsUtf8 line
    → CanStartAt line 0 → TellsGroups rule line 0 None → ¬ (MatchesIn rule line)
matches_nowhere first rule line utf8 can reported (at, matches) =
    ((first rule line 0 utf8 can).no_groups.0 reported).1 at (omega arith) matches

-- the bytes of a name, if there is one
abbrev pub text_of : Option (Bor (List ℕ)) → Option (List ℕ)
text_of name = option_map (λ text. text.now) name

-- the names that came, and those that are left
pub names_more : {X Y : Type 0} (v : X → Y) (all : List Y) (done : List X) (x : X)
    (left rest : List Y) → all ≡ map v done ++ left → left ≡ v x ∷ rest
    → all ≡ map v (done ++ x ∷ []) ++ rest
names_more v all done x left rest is next =
    is ∙ ap (λ t. map v done ++ t) next ∙ sym (append_assoc (map v done) (v x ∷ []) rest)
    ∙ ap (λ t. t ++ rest) (sym (map-append v done (x ∷ [])))

module _ {X Y A F : Type 0} (v : X → Y) (f : Y → Option A) (texts : F → A) (done : List X)
    (x : X) (old : List F) (so : map texts old ≡ filter_map f (map v done)) where
  one_more : (more : List A) → filter_map f (v x ∷ []) ≡ more
      → map texts old ++ more ≡ filter_map f (map v (done ++ x ∷ []))
  one_more more is =
      ap (λ t. t ++ more) so ∙ ap (λ t. filter_map f (map v done) ++ t) (sym is)
      ∙ sym (filter_map-append f (map v done) (v x ∷ []))
      ∙ ap (filter_map f) (sym (map-append v done (x ∷ [])))

  -- the last name has a field
  pub made_more : (new : List F) (field : F) → Some (texts field) ≡ f (v x)
      → new ≡ old ++ field ∷ [] → map texts new ≡ filter_map f (map v (done ++ x ∷ []))
  made_more new field is new_is =
      ap (map texts) new_is ∙ map-append texts old (field ∷ [])
      ∙ one_more (texts field ∷ []) (rw (← is) refl)

  -- it has none
  pub made_same : None ≡ f (v x) → map texts old ≡ filter_map f (map v (done ++ x ∷ []))
  made_same is = sym (append-nil (map texts old)) ∙ one_more [] (rw (← is) refl)
