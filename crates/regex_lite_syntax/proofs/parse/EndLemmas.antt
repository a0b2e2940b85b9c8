-- Parts that the pattern ends inside.
use Rattle.regex_lite_syntax.proofs.Common.{◌≡◌, Bool, true, false, ◌⊎◌, [], refl, inl, inr}
use Rattle.regex_lite_syntax.proofs.Common.{is_cut_short, Text, SyntaxFault}
use Rattle.regex_lite_syntax.specs.Refusals.{MayFollow}

-- where more could complete the part, nothing follows
pub at_end_or_never : (fault : SyntaxFault) (goes_on : Bool) (more : Text)
    → is_cut_short fault ≡ goes_on → MayFollow fault more → (more ≡ []) ⊎ (goes_on ≡ false)
at_end_or_never fault true more e follows = inl (follows e)
at_end_or_never fault false more e follows = inr refl

-- so the part is refused for good where it is refused at the end, and nothing could complete it
pub end_refused : (fault : SyntaxFault) (goes_on : Bool) (more : Text)
    → is_cut_short fault ≡ goes_on → MayFollow fault more
    → (more ≡ [] → ⊥) → (goes_on ≡ false → ⊥) → ⊥
end_refused fault goes_on more e follows none never =
    elim (at_end_or_never fault goes_on more e follows) [
      | inl nothing ↦ none nothing
      | inr dead ↦ never dead
    ]
