-- Where matches of several patterns can begin, with one pattern more.
use Rattle.regex_lite_syntax.proofs.Common.{◌≡◌, Bool, ◌||◌, List, [], ◌∷◌, ◌++◌, sym, ap, ◌∙◌}
use Rattle.regex_lite_syntax.proofs.Common.{or-false, begins_with, IsUnionOf, FirstSet}
use Rattle.std.specs.List.{list_any}
use Rattle.std.proofs.lemmas.List.Folds.{list_any-append}
use Rattle.regex_lite_syntax.specs.Prefilter.FirstSet.{IsUnion}

pub any_with : {X : Type 0} (p : X → Bool) (xs : List X) (x : X)
    → list_any p (xs ++ x ∷ []) ≡ (list_any p xs || p x)
any_with p xs x = list_any-append p xs (x ∷ []) ∙ ap (λ b. list_any p xs || b) (or-false (p x))

pub union_with : (many : List FirstSet) (s t u : FirstSet) → IsUnion s t u → IsUnionOf many s
    → IsUnionOf (many ++ t ∷ []) u
union_with many s t u both one = record {
  with = λ c. (
      both.with c ∙ ap (λ b. b || begins_with t c) (one.with c)
      ∙ sym (any_with (λ part. begins_with part c) many t));
  at_start = both.at_start ∙ ap (λ b. b || t.at_start) one.at_start
      ∙ sym (any_with (λ (part : FirstSet). part.at_start) many t);
}
