-- Matches as contracts see them.
use Rattle.std.specs.Prelude.{ℕ, Bool, List, Option, map, nat_eq, option_map}
use Rattle.std.specs.Ordering.{eq_of_both, on}
use Rattle.std.specs.Str.{bytes_eq}
use Rattle.regex_lite.specs.Groups.{Groups, text_at}
use Rattle.regex_lite.specs.declared.string.matches.Match.{Match}

-- the haystack, as its bytes
abbrev pub haystack_of_match : Match → List ℕ
haystack_of_match m = m.haystack.now

-- the span of the match
abbrev pub span_of_match : Match → ℕ × ℕ
span_of_match m = (m.start, m.end)

-- the text of the match
abbrev pub text_of_match : Match → List ℕ
text_of_match m = text_at (haystack_of_match m) (span_of_match m)

-- the matches have the same start, the same end and the same text of the haystack
abbrev pub is_same_match : Match → Match → Bool
is_same_match =
    eq_of_both (on haystack_of_match bytes_eq)
    (eq_of_both (on (λ m. (span_of_match m).0) nat_eq) (on (λ m. (span_of_match m).1) nat_eq))

-- a match and the haystack that it lies in
abbrev pub match_with_haystack : Match → List ℕ × (ℕ × ℕ)
match_with_haystack m = (haystack_of_match m, span_of_match m)

-- groups that an iterator returns, and the spans of those that are left
pub record Coming : Type 0 where
  pub groups : Groups
  pub spans : List (Option (ℕ × ℕ))

-- these spans, each with the haystack
abbrev pub groups_to_come : Coming → List (Option (List ℕ × (ℕ × ℕ)))
groups_to_come it = map (option_map (λ span. (it.groups.haystack, span))) it.spans
