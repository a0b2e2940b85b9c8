-- A pattern that is accepted is refused only if memory runs out.
use Rattle.regex_lite.proofs.Common.{◌≡◌, ◌≤◌, Err, chars, refl, subst, inl, inr, arith, Refusal}
use Rattle.regex_lite.proofs.Common.{syntax_error, too_deep, too_many_groups, passed_limit}
use Rattle.regex_lite.proofs.Common.{out_of_memory, refused_replacement, Tree, Error, IsAccepted}
use Rattle.regex_lite.proofs.Common.{IsDue, Settings}
use Rattle.std.proofs.lemmas.Bool.{cases_lt}
use Rattle.regex_lite_syntax.specs.Limits.{depth}
use Rattle.regex_lite_syntax.specs.declared.error.LimitFault.TheVariants as limit
use Rattle.regex_lite_engine.specs.Graph.Size.{Fits}
use Rattle.regex_lite.specs.Expression.{IsReadAs, Builds}
use Rattle.regex_lite.specs.Outlines.{IsDueOnReading, IsReadable}
use Rattle.regex_lite.proofs.OneTreeLemmas.{one_tree}

-- two trees that the pattern is read as are the same
pub same_tree : (settings : Settings) (a b : Tree) → IsReadAs settings a → IsReadAs settings b
    → a ≡ b
same_tree settings a b p q =
    one_tree settings.flags (chars settings.pattern) a b (p.0, p.1, p.2) (q.0, q.1, q.2)

-- so the limits are not passed by the other
pub fits_too : (settings : Settings) (a b : Tree) → IsReadAs settings a → IsReadAs settings b
    → Fits settings.size_limit b → Fits settings.size_limit a
fits_too settings a b p q fits =
    subst (λ tree. Fits settings.size_limit tree) (same_tree settings b a q p) fits

-- a tree that is read is no deeper than the limit
pub read_within : (settings : Settings) (tree : Tree) → IsReadAs settings tree
    → depth tree ≤ settings.nest_limit
read_within settings tree read = elim (cases_lt settings.nest_limit (depth tree)) [
  | inl above ↦ absurd (read.3 (inr above))
  | inr within ↦ within
]

-- a pattern that can be read is refused on reading it only if memory runs out
pub read_for_memory : (settings : Settings) (error : Refusal) → IsDueOnReading settings error
    → IsReadable settings → error ≡ out_of_memory
read_for_memory settings out_of_memory says readable = refl
read_for_memory settings (syntax_error rule) none (tree, read) =
    absurd (none (tree, (read.0, read.1, read.2)))
read_for_memory settings too_deep says (tree, read) =
    absurd (read.3 (says.with_tree tree read.0 read.1 read.2))
read_for_memory settings too_many_groups says (tree, read) =
    absurd (read.4 (says.with_tree tree read.0 read.1 read.2))
read_for_memory settings (passed_limit limit.Size) says readable = absurd says
read_for_memory settings (passed_limit limit.Places) says readable = absurd says
read_for_memory settings (passed_limit limit.Slots) says readable = absurd says
read_for_memory settings refused_replacement says readable = absurd says

pub for_memory : (settings : Settings) (error : Refusal) → IsDue settings error
    → IsAccepted settings → error ≡ out_of_memory
for_memory settings error (inl says) (tree, read, fits) =
    read_for_memory settings error says (tree, read)
for_memory settings out_of_memory (inr says) accepted = refl
for_memory settings (syntax_error rule) (inr (tree, read, says)) accepted = absurd says
for_memory settings too_deep (inr (tree, read, says)) accepted = absurd says
for_memory settings too_many_groups (inr (tree, read, says)) accepted = absurd says
for_memory settings (passed_limit limit.Size) (inr (a, other, passed)) (tree, read, fits) =
    let small = (fits_too settings a tree other read fits).size_fits in
    absurd (omega (small, passed, arith))
for_memory settings (passed_limit limit.Places) (inr (a, other, passed)) (tree, read, fits) =
    let small = (fits_too settings a tree other read fits).places_fit in
    absurd (omega (small, passed, arith))
for_memory settings (passed_limit limit.Slots) (inr (a, other, passed)) (tree, read, fits) =
    let small = (fits_too settings a tree other read fits).slots_fit in
    absurd (omega (small, passed, arith))
for_memory settings refused_replacement (inr (tree, read, says)) accepted = absurd says

-- a refusal of which what it says is so
pub builds_refused : (settings : Settings) (error : Error) → IsDue settings error
    → Builds settings (Err error)
builds_refused settings error refused = record {
  ok = tt;
  accepted = tt;
  refused = refused;
  complete = λ accepted. for_memory settings error refused accepted;
}
