-- The texts that replacements return.
use Rattle.std.specs.Prelude.{◌≡◌, ◌+◌, ◌++◌, ◌⊎◌, ℕ, zero, suc, List, [], ◌∷◌, Option}
use Rattle.std.specs.Prelude.{Some, None, Ok, Err, MatchOption, map, chars, drop, slice_range}
use Rattle.regex_lite_syntax.specs.declared.error.Error.{Error}
use Rattle.regex_lite_engine.specs.Search.Answer.{Found}
use Rattle.regex_lite.specs.Groups.{Groups, whole_span}
use Rattle.regex_lite.specs.Ahead.{Ahead, AreAhead, AreFirstAhead}
use Rattle.regex_lite.specs.Expression.{Expression}
use Rattle.regex_lite.specs.Items.{AreGroupsFound}
use Rattle.regex_lite.specs.Pieces.{found_span}
use Rattle.regex_lite.specs.Replacing.{Answer}

-- the limit on the number of matches to replace: 0 means no limit
abbrev pub limit_of : ℕ → Option ℕ
limit_of zero = None
limit_of (suc n) = Some (suc n)

-- an upper bound of the number of matches that were replaced, if the last ended there: each ends
-- later than the one before it
abbrev pub most_replaced : (ended : Option ℕ) → ℕ
most_replaced None = 0
most_replaced (Some end) = end + 1

-- these are the groups of each of the matches that were found
abbrev pub AreGroupsOfEach : Expression → (haystack : List ℕ) → List Found → List Groups → Type 0
AreGroupsOfEach re haystack [] [] = Unit {0}
AreGroupsOfEach re haystack [] (groups ∷ list) = ⊥
AreGroupsOfEach re haystack (found ∷ matches) [] = ⊥
AreGroupsOfEach re haystack (found ∷ matches) (groups ∷ list) =
    AreGroupsFound re haystack found groups × AreGroupsOfEach re haystack matches list

-- the haystack from this offset on with each span replaced by one text
abbrev pub replaced_by : (text haystack : List ℕ) → (from : ℕ) → (spans : List (ℕ × ℕ)) → List ℕ
replaced_by text haystack from [] = drop from haystack
replaced_by text haystack from (span ∷ spans) =
    slice_range haystack from span.0 ++ text ++ replaced_by text haystack span.1 spans

-- each match ahead is replaced by one text
pub record IsReplacedBy (text : List ℕ) (ahead : Ahead) (new : List ℕ) : Type 0 where
  pub found : List Found
  pub are_ahead : AreAhead ahead found
  pub replaced :
      new ≡ replaced_by text ahead.haystack 0 (map (found_span (chars ahead.haystack)) found)

-- `Are` holds of the groups of some of the matches ahead, from the first on
pub record OfFirstGroups (ahead : Ahead) (Are : List Groups → Type 0) : Type 0 where
  pub found : List Found
  pub are_first : AreFirstAhead ahead found
  pub groups : List Groups
  pub each : AreGroupsOfEach ahead.sought ahead.haystack found groups
  pub are : Are groups

-- A replacer is characterised by two relations: what it returns if it is asked for a fixed text,
-- and what it appends and returns for groups. Each relates its states before and after the call
module _ {R : Type 0} (Fixed : R → Option (List ℕ) → R → Type 0)
    (Appends : R → Groups → List ℕ → Answer → R → Type 0) where
  -- the haystack from this offset on with each match replaced by the text that the replacer
  -- appended for it, with `Ok`, and the state in which this leaves the replacer
  abbrev pub IsChain : (haystack : List ℕ) → R → (from : ℕ) → List Groups → (new : List ℕ)
      → (last : R) → Type 0
  IsChain haystack rep from [] new last = (new ≡ drop from haystack) × (last ≡ rep)
  IsChain haystack rep from (groups ∷ list) new last =
      (text : List ℕ) × (rest : List ℕ) × (after : R)
      × Appends rep groups text (Ok tt) after
      × (new ≡ slice_range haystack from (whole_span groups).0 ++ text ++ rest)
      × IsChain haystack after (whole_span groups).1 list rest last

  -- the replacer returned `Ok` for each of these in turn, which leaves it in this state
  abbrev pub IsAsked : R → List Groups → (last : R) → Type 0
  IsAsked rep [] last = last ≡ rep
  IsAsked rep (groups ∷ list) last =
      (text : List ℕ) × (after : R) × Appends rep groups text (Ok tt) after
      × IsAsked after list last

  -- the replacer returned this error for one of the matches, and `Ok` for those before it, which
  -- leaves it in this state
  abbrev pub IsRefusedAt : R → List Groups → Error → (last : R) → Type 0
  IsRefusedAt rep [] error last = ⊥
  IsRefusedAt rep (groups ∷ list) error last =
      ((text : List ℕ) × Appends rep groups text (Err error) last)
      ⊎ ((text : List ℕ) × (after : R) × Appends rep groups text (Ok tt) after
      × IsRefusedAt after list error last)

  -- each match ahead is replaced by what the replacer appends for its groups
  pub record IsReplacedInTurn (rep : R) (ahead : Ahead) (new : List ℕ) (last : R) : Type 0 where
    pub found : List Found
    pub are_ahead : AreAhead ahead found
    pub groups : List Groups
    pub each : AreGroupsOfEach ahead.sought ahead.haystack found groups
    pub chain : IsChain ahead.haystack rep 0 groups new last

  -- the replacer returned an error for one of the first matches ahead
  abbrev pub IsRefused : R → Ahead → Error → (last : R) → Type 0
  IsRefused rep ahead error last = OfFirstGroups ahead (λ list. IsRefusedAt rep list error last)

  -- the replacer returned no error for those that it was asked for
  abbrev pub IsLeft : R → Ahead → (last : R) → Type 0
  IsLeft rep ahead last = OfFirstGroups ahead (λ list. IsAsked rep list last)

  abbrev pub IsReplaced : (fixed : Option (List ℕ)) → R → Ahead → (new : List ℕ) → (last : R)
      → Type 0
  IsReplaced (Some text) rep ahead new last = IsReplacedBy text ahead new × (last ≡ rep)
  IsReplaced None rep ahead new last = IsReplacedInTurn rep ahead new last

  -- The replacer is asked for a fixed text, once and first. If it has one, that text replaces each
  -- match; otherwise it is asked for each match in turn. This leaves it in the last state
  abbrev pub Replaces : R → Ahead → (new : List ℕ) → (last : R) → Type 0
  Replaces rep ahead new last =
      (fixed : Option (List ℕ)) × (after : R) × Fixed rep fixed after
      × IsReplaced fixed after ahead new last

  -- the replacer has no fixed text, and returned the error for a match that is to be replaced,
  -- which leaves it in the last state
  abbrev pub Refuses : R → Ahead → Error → (last : R) → Type 0
  Refuses rep ahead error last =
      (after : R) × Fixed rep None after × IsRefused after ahead error last

  -- the replacer was asked for a fixed text and, if it has none, for some of the matches ahead,
  -- from the first on, and returned no error; this leaves it in the last state
  abbrev pub Leaves : R → Ahead → (last : R) → Type 0
  Leaves rep ahead last =
      (fixed : Option (List ℕ)) × (after : R) × Fixed rep fixed after
      × MatchOption fixed (IsLeft after ahead last) (λ _. last ≡ after)

  -- `Replaces` for some last state
  abbrev pub IsReplacement : R → Ahead → List ℕ → Type 0
  IsReplacement rep ahead new = (last : R) × Replaces rep ahead new last

  abbrev pub IsHandedOn : R → Ahead → Error → Type 0
  IsHandedOn rep ahead error = (last : R) × Refuses rep ahead error last
