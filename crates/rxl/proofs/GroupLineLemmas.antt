-- The line of the groups of a match, group after group.
use Rattle.std.proofs.Common.{◌≡◌, ◌++◌, ℕ, List, [], ◌∷◌, Option, Some, None}
use Rattle.std.proofs.Common.{map, option_map, codes, refl, sym, ap, ◌∙◌}
use Rattle.std.proofs.lemmas.List.{append_assoc}
use Rattle.regex_lite.specs.declared.string.matches.Match.{Match}
use Rattle.regex_lite.specs.MatchViews.{Coming, groups_to_come, match_with_haystack, span_of_match}
use Rattle.rxl.specs.Printed.{group_text, groups_line, spaced}

-- the spans of groups, this before the first and a space before each other, and a line feed
abbrev pub separated : (before : List ℕ) → List (Option (ℕ × ℕ)) → List ℕ
separated before [] = codes "\n"
separated before (span ∷ spans) = before ++ group_text span ++ spaced spans ++ codes "\n"

-- the span of a group that comes with its haystack
abbrev span_alone : List ℕ × (ℕ × ℕ) → ℕ × ℕ
span_alone (haystack, span) = span

abbrev pub alone : Option (List ℕ × (ℕ × ℕ)) → Option (ℕ × ℕ)
alone None = None
alone (Some group) = Some (span_alone group)

-- the spans of the groups that an iterator still gives
abbrev pub spans_left : Coming → List (Option (ℕ × ℕ))
spans_left it = map alone (groups_to_come it)

alone_again : (haystack : List ℕ) (spans : List (Option (ℕ × ℕ)))
    → map alone (map (option_map (λ span. (haystack, span))) spans) ≡ spans
alone_again haystack [] = refl
alone_again haystack (None ∷ spans) = ap (λ rest. None ∷ rest) (alone_again haystack spans)
alone_again haystack (Some span ∷ spans) =
    ap (λ rest. Some span ∷ rest) (alone_again haystack spans)

pub all_left : (it : Coming) (spans : List (Option (ℕ × ℕ))) → it.spans ≡ spans
    → spans_left it ≡ spans
all_left it spans are = alone_again it.groups.haystack it.spans ∙ are

pub group_alone : (group : Option Match)
    → alone (option_map match_with_haystack group) ≡ option_map span_of_match group
group_alone None = refl
group_alone (Some found) = refl

pub line_begins : (spans : List (Option (ℕ × ℕ))) → separated [] spans ≡ groups_line spans
line_begins [] = refl
line_begins (span ∷ spans) = refl

one_by_one : (a b c d e : List ℕ) → (a ++ (b ++ c)) ++ (d ++ e) ≡ a ++ (((b ++ c) ++ d) ++ e)
one_by_one a b c d e = simp append_assoc

follows : (spans : List (Option (ℕ × ℕ)))
    → spaced spans ++ codes "\n" ≡ separated (codes " ") spans
follows [] = refl
follows (span ∷ spans) = refl

-- one more group was printed, after what stands before it
pub line_goes_on : (printed before : List ℕ) (old new : List (Option (ℕ × ℕ)))
    (span : Option (ℕ × ℕ)) (line : List ℕ) → printed ++ separated before old ≡ line
    → old ≡ span ∷ new
    → (printed ++ (before ++ group_text span)) ++ separated (codes " ") new ≡ line
line_goes_on printed before old new span line so_far is =
    ap (λ rest. (printed ++ (before ++ group_text span)) ++ rest) (sym (follows new))
    ∙ one_by_one printed before (group_text span) (spaced new) (codes "\n")
    ∙ ap (λ left. printed ++ separated before left) (sym is) ∙ so_far

pub line_ends : (printed before : List ℕ) (old : List (Option (ℕ × ℕ))) (line : List ℕ)
    → printed ++ separated before old ≡ line → old ≡ [] → printed ++ codes "\n" ≡ line
line_ends printed before old line so_far none =
    ap (λ left. printed ++ separated before left) (sym none) ∙ so_far
