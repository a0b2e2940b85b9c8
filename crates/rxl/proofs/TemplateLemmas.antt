-- Why a template is refused.
use Rattle.std.proofs.Common.{◌≡◌, ◌⊎◌, inl, inr, ℕ, List, [], ◌∷◌, Option}
use Rattle.std.specs.Borrow.{Bor}
use Rattle.regex_lite.specs.Ahead.{Ahead}
use Rattle.regex_lite.specs.declared.Error.{Error}
use Rattle.regex_lite.specs.Errors.{out_of_memory}
use Rattle.regex_lite.specs.Groups.{Groups}
use Rattle.regex_lite.specs.Replacements.{IsHandedOn, IsRefusedAt}
use Rattle.regex_lite.specs.Replacing.{Answer, IsAppendedTemplate, IsFixedText}

-- what a template appends, and which fixed text it is
abbrev Expands : Bor (List ℕ) → Groups → List ℕ → Answer → Bor (List ℕ) → Type 0
Expands old groups text answer new = IsAppendedTemplate old.now groups text answer × (new ≡ old)

abbrev IsFixed : Bor (List ℕ) → Option (List ℕ) → Bor (List ℕ) → Type 0
IsFixed old fixed new = IsFixedText old.now fixed × (new ≡ old)

-- where a template is refused for one of the matches, that is because memory runs out
refused_at : (template : Bor (List ℕ)) (list : List Groups) (error : Error) (last : Bor (List ℕ))
    → IsRefusedAt IsFixed Expands template list error last → error ≡ out_of_memory
refused_at template [] error last refused = absurd refused
refused_at template (groups ∷ list) error last (inl here) = here.1.0.2.0
refused_at template (groups ∷ list) error last (inr later) =
    refused_at later.1 list error last later.3

pub template_refused : (template : Bor (List ℕ)) (a : Ahead) (error : Error)
    → (error ≡ out_of_memory) ⊎ IsHandedOn IsFixed Expands template a error
    → error ≡ out_of_memory
template_refused template a error (inl is) = is
template_refused template a error (inr handed) =
    refused_at handed.1.0 handed.1.2.groups error handed.0 handed.1.2.are
