-- The characters of a class, as its ranges are put together.
use Rattle.regex_lite_syntax.proofs.Common.{◌≡◌, ℕ, Bool, false, ◌||◌, List, [], ◌∷◌, ◌++◌, IsTrue}
use Rattle.regex_lite_syntax.proofs.Common.{sym, refl, ap, ◌∙◌, subst, arith, nat_tests}
use Rattle.regex_lite_syntax.proofs.Common.{is_character, BracketedClass, in_ranges, Set, just}
use Rattle.regex_lite_syntax.proofs.Common.{span, union, Text, ClassRange}
use Rattle.std.proofs.Math.Path.{fun_ext}
use Rattle.std.proofs.Math.Bool.{or-false, or_assoc}
use Rattle.regex_lite_syntax.proofs.RangeLemmas.{in_ranges-push}

pub in_both : (a b : List ClassRange) (c : ℕ)
    → in_ranges (a ++ b) c ≡ (in_ranges a c || in_ranges b c)
in_both [] b c = refl
in_both (r ∷ a) b c =
    ap (λ h. span r.start r.end c || h) (in_both a b c)
    ∙ sym (or_assoc (span r.start r.end c) (in_ranges a c) (in_ranges b c))

-- one more range
pub in_more : (a b : List ClassRange) (r : ClassRange) (s : Set) (c : ℕ) → b ≡ a ++ r ∷ []
    → span r.start r.end c ≡ s c → in_ranges b c ≡ (in_ranges a c || s c)
in_more a b r s c e holds =
    ap (λ l. in_ranges l c) e ∙ in_ranges-push a r c ∙ ap (λ h. in_ranges a c || h) holds

-- the ranges of a set
pub in_set : (a b d : List ClassRange) (s : Set) (c : ℕ) → b ≡ a ++ d → in_ranges d c ≡ s c
    → in_ranges b c ≡ (in_ranges a c || s c)
in_set a b d s c e holds =
    ap (λ l. in_ranges l c) e ∙ in_both a d c ∙ ap (λ h. in_ranges a c || h) holds

pub span_one : (c d : ℕ) → IsTrue (is_character c) → span c c d ≡ just c d
span_one c d k = grind (arith, nat_tests)

pub union_push : (sets : List Set) (s : Set) (c : ℕ)
    → union (sets ++ s ∷ []) c ≡ (union sets c || s c)
union_push [] s c = or-false (s c)
union_push (a ∷ sets) s c =
    ap (λ h. a c || h) (union_push sets s c) ∙ sym (or_assoc (a c) (union sets c) (s c))

-- one more item
pub holds_more : (before now next : List ClassRange) (sets : List Set) (s : Set) (c : ℕ)
    → in_ranges now c ≡ (in_ranges before c || union sets c)
    → in_ranges next c ≡ (in_ranges now c || s c)
    → in_ranges next c ≡ (in_ranges before c || union (sets ++ s ∷ []) c)
holds_more before now next sets s c e f =
    f ∙ ap (λ h. h || s c) e ∙ or_assoc (in_ranges before c) (union sets c) (s c)
    ∙ ap (λ h. in_ranges before c || h) (sym (union_push sets s c))

-- what stands first, and the items
pub holds_all : (none first all : List ClassRange) (a b : Set) (sets : List Set) (c : ℕ) → none ≡ []
    → in_ranges first c ≡ (in_ranges none c || union (a ∷ b ∷ []) c)
    → in_ranges all c ≡ (in_ranges first c || union sets c)
    → in_ranges all c ≡ union (a ∷ b ∷ sets) c
holds_all none first all a b sets c n e f =
    f ∙ ap (λ h. h || union sets c) (e ∙ ap (λ l. in_ranges l c || (a c || (b c || false))) n)
    ∙ or_assoc (a c) (b c || false) (union sets c)
    ∙ ap (λ h. a c || (h || union sets c)) (or-false (b c))

pub class_as : (insensitive verbose : Bool) (t rest : Text) (s u : Set) → ((c : ℕ) → u c ≡ s c)
    → BracketedClass insensitive verbose t rest s → BracketedClass insensitive verbose t rest u
class_as insensitive verbose t rest s u same c =
    subst (λ (v : Set). BracketedClass insensitive verbose t rest v) (sym (fun_ext same)) c
