use Rattle.regex_lite_syntax.proofs.Common.{◌≡◌, Bool, ◌∷◌, Some, codes, refl, subst}
use Rattle.regex_lite_syntax.proofs.Common.{is_boundary_character, boundary_named, BoundaryName}
use Rattle.regex_lite_syntax.proofs.Common.{Gap, Spaced, Text, the, Look}
use Rattle.regex_lite_syntax.proofs.parse.escape.BoundaryNameLemmas.{one_of_four}
use Rattle.regex_lite_syntax.proofs.parse.escape.boundary.read_name.Goals as goal

-- the name does not stand there
abbrev Absent : (verbose : Bool) → (name t : Text) → Type 0
Absent verbose name t =
    (last rest : Text) → Spaced verbose is_boundary_character name t last
    → Gap verbose last (the "}" ∷ rest) → ⊥

no_name : (verbose : Bool) (t rest : Text) (look : Look) → Absent verbose (codes "start") t
    → Absent verbose (codes "end") t → Absent verbose (codes "start-half") t
    → Absent verbose (codes "end-half") t → BoundaryName verbose t rest look → ⊥
no_name verbose t rest look a b c d n =
    one_of_four n.name look n.named (λ e. is_absent _ e a) (λ e. is_absent _ e b)
    (λ e. is_absent _ e c) (λ e. is_absent _ e d)
  where
    is_absent : (name : Text) → n.name ≡ name → Absent verbose name t → ⊥
    is_absent name e absent = absent n.last rest
        (subst (λ ls. Spaced verbose is_boundary_character ls t n.last) e n.written) n.closes

-- a name that stands there
called : (verbose : Bool) (t rest name : Text) (look : Look) → boundary_named name ≡ Some look
    → (last : Text) × Spaced verbose is_boundary_character name t last
    × Gap verbose last (the "}" ∷ rest) → BoundaryName verbose t rest look
called verbose t rest name look named there =
    record { name = name; last = there.0; written = there.1; closes = there.2; named = named }

pub returns-in-Some-clause-ok : goal.returns-in-Some-clause-ok
returns-in-Some-clause-ok c = called _ _ _ (codes "start") _ refl c.in-Some.ensures.there

pub returns-in-Some-skip_name-clause-ok : goal.returns-in-Some-skip_name-clause-ok
returns-in-Some-skip_name-clause-ok c =
    called _ _ _ (codes "end") _ refl c.in-Some-skip_name.ensures.there

pub returns-in-Some-skip_name-2-clause-ok : goal.returns-in-Some-skip_name-2-clause-ok
returns-in-Some-skip_name-2-clause-ok c =
    called _ _ _ (codes "start-half") _ refl c.in-Some-skip_name-2.ensures.there

pub returns-in-Some-skip_name-3-clause-ok : goal.returns-in-Some-skip_name-3-clause-ok
returns-in-Some-skip_name-3-clause-ok c =
    called _ _ _ (codes "end-half") _ refl c.in-Some-skip_name-3.ensures.there

pub returns-clause-refused : goal.returns-clause-refused
returns-clause-refused c more follows (rest, look, n) =
    let stands = c.fault_of_name.ensures.stands more rest look follows n in
    no_name _ _ stands.0 look c.in_default.ensures.absent c.in_default-skip_name.ensures.absent
    c.in_default-skip_name-2.ensures.absent c.in_default-skip_name-3.ensures.absent stands.1
