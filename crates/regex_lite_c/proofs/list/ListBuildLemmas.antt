-- Patterns that are cut out of bytes, and the first of them that is refused.
use Rattle.regex_lite_c.proofs.Common.{◌≡◌, ℕ, zero, suc, ◌+◌, ◌<◌, false, ◌⊎◌, List, [], ◌∷◌, ◌++◌}
use Rattle.regex_lite_c.proofs.Common.{map, length, get_or, drop, slice_get, Some, IsUtf8}
use Rattle.regex_lite_c.proofs.Common.{option_map, unwrap_or, sym, refl, ap, ◌∙◌, subst, inl, inr}
use Rattle.regex_lite_c.proofs.Common.{append_assoc, arith, length-append, cases_lt, length-map}
use Rattle.regex_lite_c.proofs.Common.{map-append, IsAccepted, settings_of_all, settings_of_source}
use Rattle.regex_lite_c.proofs.Common.{IsFirstOtherBytes, settings_of}
use Rattle.std.proofs.Common.{Err, add-one, drop-cons, take}
use Rattle.std.proofs.lemmas.List.Sums.{sum_by-cons}
use Rattle.std.proofs.lemmas.Option.{slice_get-get_or, slice_get-map}
use Rattle.regex_lite_syntax.specs.Errors.{Refusal, out_of_memory}
use Rattle.regex_lite_syntax.specs.Tree.{Tree}
use Rattle.regex_lite.specs.Expression.{Builds}
use Rattle.regex_lite.specs.RegexList.{AreAccepted, AreAcceptedAs, BuildsList, IsDueToAll}
use Rattle.regex_lite.specs.RegexList.{IsDueToLowest}
use Rattle.regex_lite.specs.Settings.{Settings}
use Rattle.regex_lite.proofs.ListBuildLemmas.{memory_or_not}
use Rattle.regex_lite_c.specs.ListBuilding.{AreTexts, IsDueAt, IsEachAccepted, all_len}
use Rattle.regex_lite_c.specs.declared.list.patterns.PatternSource.{PatternSource}
use Rattle.regex_lite_c.specs.declared.list.types.ListPattern.{ListPattern}
use Rattle.regex_lite_c.specs.declared.types.Options.{Options}
use Rattle.regex_lite_syntax.proofs.LookupLemmas.{get_left, get_seam}

-- what stands for an element past the end of a list
abbrev pub no_options : Options
no_options = record {
  case_insensitive = false;
  multi_line = false;
  dot_matches_new_line = false;
  crlf = false;
  swap_greed = false;
  ignore_whitespace = false;
  nest_limit = 0;
  size_limit = 0;
}

abbrev pub no_pattern : ListPattern
no_pattern = record { len = 0; options = no_options }

abbrev pub no_source : PatternSource
no_source = record {
  text = record { ref_ptr = (0, 0); now = [] };
  options = record { ref_ptr = (0, 0); now = no_options };
}

-- this pattern is the next of those that are left
pub at_drop : (patterns : List ListPattern) (k : ℕ) (own : ListPattern) → k < length patterns
    → own ≡ get_or patterns k no_pattern → drop k patterns ≡ own ∷ drop (k + 1) patterns
at_drop patterns k own less there =
    drop-cons patterns k no_pattern less
    ∙ ap (λ p. p ∷ drop (suc k) patterns) (sym there)
    ∙ ap (λ n. own ∷ drop n patterns) (sym (add-one k))

-- those that are left have as many bytes more as it has
pub len_step : (patterns : List ListPattern) (k : ℕ) (own : ListPattern) → k < length patterns
    → own ≡ get_or patterns k no_pattern
    → all_len (drop k patterns) ≡ own.len + all_len (drop (k + 1) patterns)
len_step patterns k own less there =
    ap all_len (at_drop patterns k own less there)
    ∙ sum_by-cons (λ (p : ListPattern). p.len) own (drop (k + 1) patterns)

-- this many of the patterns were cut out of the bytes
pub record IsCut (bytes : List ℕ) (patterns : List ListPattern) (rest : List ℕ) (index : ℕ)
    (sources : List PatternSource) : Type 0 where
  pub joined : map settings_of_source sources ++ settings_of_all rest (drop index patterns)
      ≡ settings_of_all bytes patterns
  pub texts : AreTexts (map settings_of_source sources)
  pub left : all_len (drop index patterns) ≡ length rest
  pub number : length sources ≡ index

texts_more : (xs : List Settings) (x : Settings) → AreTexts xs → IsUtf8 x.pattern
    → AreTexts (xs ++ (x ∷ []))
texts_more [] x are is zero own there =
    subst (λ s. IsUtf8 s.pattern) (ap (λ o. unwrap_or o x) there) is
texts_more [] x are is (suc k) own there = absurd cc
texts_more (y ∷ ys) x are is zero own there = are zero own there
texts_more (y ∷ ys) x are is (suc k) own there =
    texts_more ys x (λ j other. are (suc j) other) is k own there

-- one more was
pub cut_more : (bytes : List ℕ) (patterns : List ListPattern) (rest later : List ℕ) (k : ℕ)
    (sources new : List PatternSource) (own : ListPattern) (source : PatternSource)
    → IsCut bytes patterns rest k sources → k < length patterns → own ≡ get_or patterns k no_pattern
    → settings_of_source source ≡ settings_of (take own.len rest) own.options
    → IsUtf8 (take own.len rest) → later ≡ drop own.len rest
    → length later + own.len ≡ length rest
    → new ≡ sources ++ (source ∷ [])
    → IsCut bytes patterns later (k + 1) new
cut_more bytes patterns rest later k sources new own source is less there same text after len
    more =
    let f = settings_of_source in
    let now = settings_of (take own.len rest) own.options in
    let left = settings_of_all (drop own.len rest) (drop (k + 1) patterns) in
    let next = at_drop patterns k own less there in
    let step = len_step patterns k own less there in
    let longer : map f new ≡ map f sources ++ (now ∷ []) =
    ap (map f) more ∙ map-append f sources (source ∷ [])
    ∙ ap (λ s. map f sources ++ (s ∷ [])) same in
    record {
      joined =
          ap (λ xs. xs ++ settings_of_all later (drop (k + 1) patterns)) longer
          ∙ ap (λ bs. (map f sources ++ (now ∷ [])) ++ settings_of_all bs (drop (k + 1) patterns))
          after
          ∙ append_assoc (map f sources) (now ∷ []) left
          ∙ ap (λ ps. map f sources ++ settings_of_all rest ps) (sym next)
          ∙ is.joined;
      texts = subst AreTexts (sym longer) (texts_more (map f sources) now is.texts text);
      left = omega (arith, step, is.left, len);
      number = ap length more ∙ length-append sources (source ∷ []) ∙ ap (λ n. n + 1) is.number;
    }

-- the next is no UTF-8
pub first_other : (bytes : List ℕ) (patterns : List ListPattern) (rest : List ℕ) (k : ℕ)
    (sources : List PatternSource) (own : ListPattern)
    → IsCut bytes patterns rest k sources → k < length patterns → own ≡ get_or patterns k no_pattern
    → (IsUtf8 (take own.len rest) → ⊥)
    → IsFirstOtherBytes (settings_of_all bytes patterns) (length sources)
first_other bytes patterns rest k sources own is less there not =
    let f = settings_of_source in
    let now = settings_of (take own.len rest) own.options in
    let left = settings_of_all (drop own.len rest) (drop (k + 1) patterns) in
    let all : map f sources ++ (now ∷ left) ≡ settings_of_all bytes patterns =
    ap (λ ps. map f sources ++ settings_of_all rest ps) (sym (at_drop patterns k own less there))
    ∙ is.joined in
    let many : length (map f sources) ≡ length sources = length-map sources f in
    record {
      settings = now;
      numbered =
          subst (λ xs. slice_get xs (length sources) ≡ Some now) all
          (subst (λ n. slice_get (map f sources ++ (now ∷ left)) n ≡ Some now) many
          (get_seam (map f sources) now left));
      is_not = not;
      lower = λ j other below is_there.
          is.texts j other
          (sym (get_left (map f sources) (now ∷ left) j (omega (arith, below, many)))
          ∙ subst (λ xs. slice_get xs j ≡ Some other) (sym all) is_there);
    }

-- there are as many settings as patterns
pub length_all : (bytes : List ℕ) (patterns : List ListPattern)
    → length patterns ≡ length (settings_of_all bytes patterns)
length_all bytes [] = refl
length_all bytes (p ∷ patterns) = ap suc (length_all (drop p.len bytes) patterns)

-- memory ran out
pub refused_for_memory : (all : List Settings) (number : ℕ) (error : Refusal)
    → number ≡ length all → error ≡ out_of_memory
    → IsDueAt all number error × ((error ≡ out_of_memory) ⊎ AreTexts all)
    × (AreAccepted all → error ≡ out_of_memory)
refused_for_memory all number error is memory = (inr (is, inl memory), inl memory, λ _. memory)

-- one that is accepted with all is accepted
pub accepted_at : (all : List Settings) (trees : List Tree) (k : ℕ) (own : Settings)
    → AreAcceptedAs all trees → slice_get all k ≡ Some own → IsAccepted own
accepted_at [] trees k own are there = absurd cc
accepted_at (s ∷ all) [] k own are there = absurd are
accepted_at (s ∷ all) (tree ∷ trees) zero own (first, others) there =
    subst IsAccepted (ap (λ o. unwrap_or o s) there) (tree, first.0, first.1)
accepted_at (s ∷ all) (tree ∷ trees) (suc k) own (first, others) there =
    accepted_at all trees k own others there

-- one more is accepted
pub accepted_more : (all : List Settings) (k : ℕ) (settings : Settings)
    → ((j : ℕ) (own : Settings) → j < k → slice_get all j ≡ Some own → IsAccepted own)
    → slice_get all k ≡ Some settings → IsAccepted settings
    → (j : ℕ) (own : Settings) → j < k + 1 → slice_get all j ≡ Some own → IsAccepted own
accepted_more all k settings before there is j own less own_there =
    elim (cases_lt j k) [
      | inl below ↦ before j own below own_there
      | inr above ↦
          let same : j ≡ k = omega (arith, above, less) in
          let here : Some settings ≡ Some own =
          sym there ∙ ap (slice_get all) (sym same) ∙ own_there in
          subst IsAccepted (ap (λ o. unwrap_or o settings) here) is
    ]

-- the first that is refused by itself, unless memory ran out
pub refused_first : (all : List Settings) (k number : ℕ) (settings : Settings) (error : Refusal)
    → ((j : ℕ) (own : Settings) → j < k → slice_get all j ≡ Some own → IsAccepted own)
    → Builds settings (Err error) → slice_get all k ≡ Some settings
    → (error ≡ out_of_memory → number ≡ length all) → ((error ≡ out_of_memory → ⊥) → number ≡ k)
    → IsDueAt all number error × (AreAccepted all → error ≡ out_of_memory)
refused_first all k number settings error before builds there memory refused =
    elim (memory_or_not error) [
      | inl is ↦ (inr (memory is, inl is), λ _. is)
      | inr other ↦ (
        inl (
          record {
            number = k;
            settings = settings;
            numbered = there;
            lower = before;
            fails = λ accepted. other (builds.complete accepted);
            due = builds.refused;
          },
          refused other,
        ),
        λ accepted. builds.complete (accepted_at all accepted.0 k settings accepted.1 there),
      )
    ]

-- none is refused by itself
pub refused_together : (all : List Settings) (number : ℕ) (error : Refusal) → number ≡ length all
    → IsEachAccepted all → AreTexts all → BuildsList all (Err error)
    → IsDueAt all number error × ((error ≡ out_of_memory) ⊎ AreTexts all)
    × (AreAccepted all → error ≡ out_of_memory)
refused_together all number error is each texts refuses =
    (inr (is, together refuses.refused), inr texts, refuses.complete)
  where
    together : (error ≡ out_of_memory) ⊎ (IsDueToLowest all error ⊎ IsDueToAll all error)
        → (error ≡ out_of_memory) ⊎ IsDueToAll all error
    together (inl memory) = inl memory
    together (inr (inl lowest)) =
        absurd (lowest.fails (each lowest.number lowest.settings lowest.numbered))
    together (inr (inr passed)) = inr passed

-- the settings of a source that is there
pub source_at : (sources : List PatternSource) (k : ℕ) → k < length sources
    → slice_get (map settings_of_source sources) k
    ≡ Some (settings_of_source (get_or sources k no_source))
source_at sources k less =
    slice_get-map settings_of_source sources k
    ∙ ap (option_map settings_of_source) (slice_get-get_or sources k no_source less)
