-- Bracketed classes.
use Rattle.std.specs.Prelude.{◌≡◌, ◌≢◌, ℕ, zero, suc, ◌≤◌, Bool, true, false, not, ◌&&◌}
use Rattle.std.specs.Prelude.{nat_lt, List, [], ◌∷◌, ◌++◌, Some, IsTrue, codes, if◌then◌else◌}
use Rattle.std.specs.List.{AllPass}
use Rattle.regex_lite_syntax.specs.Text.{Text, Begins, the, ◌∈◌}
use Rattle.regex_lite_syntax.specs.Characters.{is_lower, is_white_space}
use Rattle.regex_lite_syntax.specs.Grammar.Gaps.{WholeGap}
use Rattle.regex_lite_syntax.specs.Sets.{Set, just, span, union, complement, case_closure}
use Rattle.regex_lite_syntax.specs.NamedSets.{SetName, members, set_named}
use Rattle.regex_lite_syntax.specs.Grammar.Escapes.{Primitive, one, some_of, Escape}

-- one character or one escape; in verbose mode white space and `#` aren't characters of a class
pub data ClassElement (verbose : Bool) (t rest : Text) (p : Primitive) : Type 0 where
  literal : (c : ℕ) → t ≡ c ∷ rest → c ≢ the "\\"
      → (verbose ≡ true → IsTrue (not (is_white_space c)) × (c ≢ the "#")) → p ≡ one c
      → ClassElement verbose t rest p
  escaped : (past : Text) → t ≡ the "\\" ∷ past → Escape verbose past rest p
      → ClassElement verbose t rest p

-- after an element a dash makes a range: after the dash and its gap there is neither `]` nor `-`
pub record RangeFollows (verbose : Bool) (t last : Text) : Type 0 where
  pub past_dash : Text
  pub end : ℕ
  pub rest : Text
  pub dashed : WholeGap verbose t (the "-" ∷ past_dash)
  pub gap : WholeGap verbose past_dash last
  pub goes_on : last ≡ end ∷ rest
  pub not_bracket : end ≢ the "]"
  pub not_dash : end ≢ the "-"

-- what begins an item: not `]`, no `[` but that of a named set, and none of `&&`, `--` and `~~`
abbrev pub BeginsItem : Text → Type 0
BeginsItem [] = ⊥
BeginsItem (c ∷ t) =
    (c ≢ the "]") × (c ≢ the "[")
    × (IsTrue (c ∈ "&-~") → Begins c t → ⊥)

-- `[:name:]`, or `[:^name:]` for the complement
pub record NamedClass (t rest : Text) (negated : Bool) (set : SetName) : Type 0 where
  pub opened : Text
  pub begin : Text
  pub end : Text
  pub name : Text
  pub opens : t ≡ codes "[:" ++ opened
  pub negation : opened ≡ (if negated then the "^" ∷ begin else begin)
  pub written : begin ≡ name ++ end
  pub letters : AllPass is_lower name
  pub closes : end ≡ codes ":]" ++ rest
  pub named : set_named name ≡ Some set

-- one item of a class, and its set
pub data ClassItem (verbose : Bool) (t rest : Text) (s : Set) : Type 0 where
  named_class : (negated : Bool) (set : SetName) → NamedClass t rest negated set
      → s ≡ (if negated then complement (members set) else members set) → ClassItem verbose t rest s
  character : (c : ℕ) → BeginsItem t → ClassElement verbose t rest (one c)
      → ((last : Text) → RangeFollows verbose rest last → ⊥) → s ≡ just c
      → ClassItem verbose t rest s
  escaped_set : (set : Set) → BeginsItem t → ClassElement verbose t rest (some_of set)
      → ((last : Text) → RangeFollows verbose rest last → ⊥) → s ≡ set → ClassItem verbose t rest s
  range : (start end : ℕ) (past last : Text) → BeginsItem t
      → ClassElement verbose t past (one start)
      → RangeFollows verbose past last → ClassElement verbose last rest (one end) → start ≤ end
      → s ≡ span start end → ClassItem verbose t rest s

-- a character that is taken if it comes next, with the gap after it
pub data Takes (verbose : Bool) (c : ℕ) (t rest : Text) (taken : Bool) : Type 0 where
  takes : (past : Text) → t ≡ c ∷ past → WholeGap verbose past rest → taken ≡ true
      → Takes verbose c t rest taken
  leaves : (Begins c t → ⊥) → t ≡ rest → taken ≡ false → Takes verbose c t rest taken

-- all dashes that come next, this many, each with the gap after it
abbrev pub Dashes : (verbose : Bool) → ℕ → Text → Text → Type 0
Dashes verbose zero t rest = (t ≡ rest) × (Begins (the "-") t → ⊥)
Dashes verbose (suc n) t rest =
    (past : Text) × (next : Text) × (t ≡ the "-" ∷ past) × WholeGap verbose past next
    × Dashes verbose n next rest

-- a `]` that is a member, which is taken only if there was no dash before
abbrev pub FirstBracket : (verbose : Bool) → (dashes : ℕ) → Text → Text → (taken : Bool) → Type 0
FirstBracket verbose zero t rest taken = Takes verbose (the "]") t rest taken
FirstBracket verbose (suc n) t rest taken = (t ≡ rest) × (taken ≡ false)

-- the opening of a class, from its bracket on: `^` if it is negated, and then dashes, or if there
-- are none a `]`, which are members
pub record ClassOpening (verbose : Bool) (t rest : Text) (negated dash bracket : Bool)
    : Type 0 where
  pub opened : Text
  pub first : Text
  pub past_caret : Text
  pub past_dashes : Text
  pub dashes : ℕ
  pub opens : t ≡ the "[" ∷ opened
  pub gap : WholeGap verbose opened first
  pub negation : Takes verbose (the "^") first past_caret negated
  pub dashed : Dashes verbose dashes past_caret past_dashes
  pub has_dash : dash ≡ nat_lt 0 dashes
  pub bracketed : FirstBracket verbose dashes past_dashes rest bracket

-- items with these sets, each with the gap after it, and the bracket that closes the class
abbrev pub ClassItems : (verbose : Bool) → List Set → Text → Text → Type 0
ClassItems verbose [] t rest = t ≡ the "]" ∷ rest
ClassItems verbose (s ∷ sets) t rest =
    (past : Text) × (next : Text) × ClassItem verbose t past s × WholeGap verbose past next
    × ClassItems verbose sets next rest

-- the set if it counts, otherwise no character
abbrev pub only_if : Bool → Set → Set
only_if counts s c = counts && s c

-- the union of the sets, closed under case if `insensitive`, and then negated if `negated`
abbrev pub class_set : (insensitive negated : Bool) → List Set → Set
class_set insensitive negated sets =
    let whole = if insensitive then case_closure (union sets) else union sets in
    if negated then complement whole else whole

-- a class from its opening bracket up to its closing one, and its set
pub record BracketedClass (insensitive verbose : Bool) (t rest : Text) (s : Set) : Type 0 where
  pub negated : Bool
  pub dash : Bool
  pub bracket : Bool
  pub past_opening : Text
  pub sets : List Set
  pub opening : ClassOpening verbose t past_opening negated dash bracket
  pub items : ClassItems verbose sets past_opening rest
  pub set_is : s ≡ class_set insensitive negated
      (only_if dash (just (the "-")) ∷ only_if bracket (just (the "]")) ∷ sets)
