-- The preference lists of some trees, computed: where each match ends, and the spans of its groups.
use Rattle.regex_lite_engine.proofs.Common.{◌≡◌, ℕ, true, false, List, [], ◌∷◌, map, Some, None}
use Rattle.regex_lite_engine.proofs.Common.{Option, refl, Text, Tree, character, repetition}
use Rattle.regex_lite_engine.proofs.Common.{capture, concat, alternation, Trees, none, more, whole}
use Rattle.regex_lite_engine.proofs.Common.{preference_list}
use Rattle.std.proofs.Common.{codes}
use Rattle.regex_lite_syntax.specs.Text.{the}
use Rattle.regex_lite_engine.specs.Search.Marks.{span}

abbrev a : Tree
a = character (the "a")

abbrev b : Tree
b = character (the "b")

abbrev c : Tree
c = character (the "c")

abbrev two : Tree → Tree → Trees
two x y = more x (more y none)

-- `x|y` and `xy`
abbrev either : Tree → Tree → Tree
either x y = alternation (two x y)

abbrev both : Tree → Tree → Tree
both x y = concat (two x y)

abbrev group : (index : ℕ) → Tree → Tree
group index body = capture index None body

-- the ends of the matches from the haystack's start
abbrev ends : Tree → Text → List ℕ
ends tree haystack = map (λ e. e.0) (preference_list haystack tree 0)

-- with the span of this group in each
abbrev spans : (index : ℕ) → Tree → Text → List (ℕ × Option (ℕ × ℕ))
spans index tree haystack =
    map (λ e. (e.0, span e.1 index)) (preference_list haystack (whole tree) 0)

-- `a|ab` and `ab|a`
first_branch : ends (either a (both a b)) (codes "ab") ≡ 1 ∷ 2 ∷ []
first_branch = refl

longer_branch : ends (either (both a b) a) (codes "ab") ≡ 2 ∷ 1 ∷ []
longer_branch = refl

-- `a{0,2}` and `a{0,2}?`
greedy_few : ends (repetition 0 (Some 2) true a) (codes "aaa") ≡ 2 ∷ 1 ∷ 0 ∷ []
greedy_few = refl

lazy_few : ends (repetition 0 (Some 2) false a) (codes "aaa") ≡ 0 ∷ 1 ∷ 2 ∷ []
lazy_few = refl

-- `a+` and `a+?`
greedy_some : ends (repetition 1 None true a) (codes "aaa") ≡ 3 ∷ 2 ∷ 1 ∷ []
greedy_some = refl

lazy_some : ends (repetition 1 None false a) (codes "aaa") ≡ 1 ∷ 2 ∷ 3 ∷ []
lazy_some = refl

-- `a*` and `a*?`
greedy_any : ends (repetition 0 None true a) (codes "aab") ≡ 2 ∷ 1 ∷ 0 ∷ []
greedy_any = refl

lazy_any : ends (repetition 0 None false a) (codes "aab") ≡ 0 ∷ 1 ∷ 2 ∷ []
lazy_any = refl

-- `ab`
whole_span : spans 0 (both a b) (codes "ab") ≡ (2, Some (0, 2)) ∷ []
whole_span = refl

-- `(a|b)*`: the span of the last pass
last_pass : spans 1 (repetition 0 None true (group 1 (either a b))) (codes "ab")
    ≡ (2, Some (1, 2)) ∷ (1, Some (0, 1)) ∷ (0, None) ∷ []
last_pass = refl

-- `(?:(a)|b)*`: a span stays where a later pass goes by another branch
span_stays : spans 1 (repetition 0 None true (either (group 1 a) b)) (codes "ab")
    ≡ (2, Some (0, 1)) ∷ (1, Some (0, 1)) ∷ (0, None) ∷ []
span_stays = refl

-- `(a|ab)(bc|c)?`
two_groups : spans 2
    (both (group 1 (either a (both a b)))
    (repetition 0 (Some 1) true (group 2 (either (both b c) c))))
    (codes "abc")
    ≡ (3, Some (1, 3)) ∷ (1, None) ∷ (3, Some (2, 3)) ∷ (2, None) ∷ []
two_groups = refl
