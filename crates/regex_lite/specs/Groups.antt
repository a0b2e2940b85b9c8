-- Spans in a haystack, and the groups of a match, as plain values.
use Rattle.std.specs.Prelude.{◌≡◌, ◌≤◌, ◌++◌, ℕ, List, [], ◌∷◌, Bool, false, Option, Some}
use Rattle.std.specs.Prelude.{None, IsSome, IfSome, IsCharBoundary, length, take, drop}
use Rattle.std.specs.Prelude.{filter_map, replicate, slice_get, slice_range, option_map}
use Rattle.std.specs.Prelude.{option_and_then, unwrap_or}
use Rattle.std.specs.List.{position}
use Rattle.std.specs.Option.{option_zip, option_flatten}
use Rattle.std.specs.Str.{bytes_eq}

-- the span lies in the haystack, which is given as its bytes, on character boundaries
pub record LiesIn (haystack : List ℕ) (span : ℕ × ℕ) : Type 0 where
  pub ordered : span.0 ≤ span.1
  pub inside : span.1 ≤ length haystack
  pub starts_cleanly : IsCharBoundary haystack span.0
  pub ends_cleanly : IsCharBoundary haystack span.1

-- the text of a span
abbrev pub text_at : List ℕ → (span : ℕ × ℕ) → List ℕ
text_at haystack span = slice_range haystack span.0 span.1

-- the spans that slots hold: slots 2k and 2k + 1 are the start and the end of group k
abbrev pub spans_of : (slots : List (Option ℕ)) → List (Option (ℕ × ℕ))
spans_of [] = []
spans_of (start ∷ []) = []
spans_of (start ∷ end ∷ slots) = option_zip start end ∷ spans_of slots

-- this many spans: the first of these, and none after the last of them
abbrev pub resized : (count : ℕ) → List (Option (ℕ × ℕ)) → List (Option (ℕ × ℕ))
resized count spans = take count (spans ++ replicate count None)

-- the groups of a match: the haystack, by index the spans of the groups that took part and the
-- names of those that have one, and the least number of groups in every match, if known
pub record Groups : Type 0 where
  pub haystack : List ℕ
  pub spans : List (Option (ℕ × ℕ))
  pub names : List (Option (List ℕ))
  pub static_captures_len : Option ℕ

-- the span of the group with this index, if there is such a group and it took part
abbrev pub span_at : List (Option (ℕ × ℕ)) → (index : ℕ) → Option (ℕ × ℕ)
span_at spans index = option_flatten (slice_get spans index)

abbrev pub group_span : Groups → (index : ℕ) → Option (ℕ × ℕ)
group_span groups index = span_at groups.spans index

-- the span of the whole match, which is there in the groups of each match
abbrev pub whole_span : Groups → ℕ × ℕ
whole_span groups = unwrap_or (group_span groups 0) (0, 0)

-- the text of a group
abbrev pub group_text : Groups → (index : ℕ) → Option (List ℕ)
group_text groups index = option_map (text_at groups.haystack) (group_span groups index)

-- the group has this name
abbrev pub is_named : (name : List ℕ) → Option (List ℕ) → Bool
is_named name None = false
is_named name (Some own) = bytes_eq own name

-- the index of the group with this name
abbrev pub index_of : List (Option (List ℕ)) → (name : List ℕ) → Option ℕ
index_of names name = position (is_named name) names

-- the span and the text of the group with this name, if there is one and it took part
abbrev pub named_span : Groups → (name : List ℕ) → Option (ℕ × ℕ)
named_span groups name = option_and_then (group_span groups) (index_of groups.names name)

abbrev pub named_text : Groups → (name : List ℕ) → Option (List ℕ)
named_text groups name = option_map (text_at groups.haystack) (named_span groups name)

-- the texts of the groups that took part, from this index on
abbrev pub texts_from : Groups → (index : ℕ) → List (List ℕ)
texts_from groups index =
    filter_map (option_map (text_at groups.haystack)) (drop index groups.spans)

-- the invariant of the groups of each match
pub record AreGroups (groups : Groups) : Type 0 where
  pub inside : (index : ℕ) → IfSome (group_span groups index) (LiesIn groups.haystack)
  pub each : length groups.spans ≡ length groups.names
  pub whole : IsSome (group_span groups 0)
  pub enough : IfSome groups.static_captures_len (λ n. n ≤ length (texts_from groups 0))
