-- Names that a set of names knows.
use Rattle.regex_lite_syntax.proofs.Common.{◌≡◌, ℕ, zero, suc, Bool, true, false, cond, ◌||◌, List}
use Rattle.regex_lite_syntax.proofs.Common.{[], ◌∷◌, ◌++◌, Contains, chars, Global, sym, refl, ap}
use Rattle.regex_lite_syntax.proofs.Common.{◌∙◌, subst, arith, or_parts, list_any, RcStr}
use Rattle.regex_lite_syntax.proofs.Common.{text_of_name}
use Rattle.std.specs.Ordering.{is_eq, nat_cmp}
use Rattle.std.specs.Cmp.{eq_by_cmp_equiv}
use Rattle.std.specs.Cmp.Lexicographic.{slice_cmp, nat_list_cmp_total}
use Rattle.std.specs.Map.{IsKeyTest, AreApart}
use Rattle.std.specs.Rc.{rc_str_bytes}
use Rattle.std.specs.Set.{KeepsOthers}
use Rattle.std.specs.Str.{IsUtf8, bytes_eq}
use Rattle.std.specs.BTreeSet.{BTreeSet, UpdatesBy}
use Rattle.std.proofs.Math.Utf8.{encodes}
use Rattle.std.proofs.lemmas.List.Folds.{list_any-append}
use Rattle.std.proofs.lemmas.Map.Text.{is_eq-slice_cmp}
use Rattle.std.proofs.lemmas.Slice.Eq.{bytes_eq-Decides}
use Rattle.std.proofs.lemmas.Str.{IsUtf8-string_bytes, encodes-chars}
use Rattle.regex_lite_syntax.specs.Tree.Views.{names_of}
use Rattle.regex_lite_syntax.specs.Parser.KnownNames.{has_name, set_has_name, Knows}

-- a name's bytes are those of a text
of_text : (name : RcStr Global) → IsUtf8 (rc_str_bytes name)
of_text name = IsUtf8-string_bytes name.text.value

-- texts of the same characters are the same
same_bytes : (xs ys : List ℕ) → IsUtf8 xs → IsUtf8 ys → chars xs ≡ chars ys → xs ≡ ys
same_bytes xs ys of_xs of_ys e =
    sym (encodes-chars xs of_xs) ∙ ap encodes e ∙ encodes-chars ys of_ys

same_or_rest : (same rest : Bool) → same ≡ false → (same || rest) ≡ true → rest ≡ true
same_or_rest true rest differs e = cc differs
same_or_rest false rest differs e = e

-- the name is among those
pub name_given : (given : List (RcStr Global)) (name : RcStr Global)
    → has_name given (rc_str_bytes name) ≡ true → Contains (names_of given) (text_of_name name)
name_given [] name e = cc e
name_given (first ∷ given) name e =
    go (bytes_eq (rc_str_bytes name) (rc_str_bytes first)) refl (λ rest. name_given given name rest)
  where
    go : (same : Bool) → bytes_eq (rc_str_bytes name) (rc_str_bytes first) ≡ same
        → (has_name given (rc_str_bytes name) ≡ true
        → Contains (names_of given) (text_of_name name))
        → Contains (names_of (first ∷ given)) (text_of_name name)
    go true same in_rest = (
      0,
      omega arith,
      ap chars (sym ((bytes_eq-Decides (rc_str_bytes name) (rc_str_bytes first)).0 same)),
    )
    go false differs in_rest =
        let later = in_rest (same_or_rest (bytes_eq (rc_str_bytes name) (rc_str_bytes first))
        (has_name given (rc_str_bytes name)) differs e) in
        (suc later.0, omega (arith, later.1), later.2)

-- the name is not
pub name_not_given : (given : List (RcStr Global)) (name : RcStr Global)
    → has_name given (rc_str_bytes name) ≡ false → Contains (names_of given) (text_of_name name) → ⊥
name_not_given [] name e (k, inside, is) = omega (arith, inside)
name_not_given (first ∷ given) name e (zero, inside, is) =
    let same =
    same_bytes (rc_str_bytes first) (rc_str_bytes name) (of_text first) (of_text name) is in
    let found = (bytes_eq-Decides (rc_str_bytes name) (rc_str_bytes first)).1 (sym same) in
    let none = (or_parts (bytes_eq (rc_str_bytes name) (rc_str_bytes first))
    (has_name given (rc_str_bytes name)) e).0 in
    cc (found, none)
name_not_given (first ∷ given) name e (suc k, inside, is) =
    name_not_given given name (or_parts (bytes_eq (rc_str_bytes name) (rc_str_bytes first))
    (has_name given (rc_str_bytes name)) e).1 (k, omega (arith, inside), is)

turned : (xs ys : List ℕ) (a b : Bool) → (a ≡ true → xs ≡ ys) × (xs ≡ ys → a ≡ true)
    → (b ≡ true → ys ≡ xs) × (ys ≡ xs → b ≡ true) → a ≡ b
turned xs ys true b p q = sym (q.1 (sym (p.0 refl)))
turned xs ys false true p q = p.1 (sym (q.0 refl))
turned xs ys false false p q = refl

either_way : (xs ys : List ℕ) → bytes_eq xs ys ≡ bytes_eq ys xs
either_way xs ys = turned xs ys _ _ (bytes_eq-Decides xs ys) (bytes_eq-Decides ys xs)

one_more : (a b held : Bool) → a ≡ b → cond a true held ≡ (held || (b || false))
one_more true true true e = refl
one_more true true false e = refl
one_more true false held e = cc e
one_more false true held e = cc e
one_more false false true e = refl
one_more false false false e = refl

-- other bytes than these stand at other keys
apart : (xs ys zs : List ℕ) → bytes_eq xs ys ≡ false → is_eq (slice_cmp nat_cmp xs zs) ≡ true
    → is_eq (slice_cmp nat_cmp ys zs) ≡ false
apart xs ys zs differ at_xs =
    let same : xs ≡ zs = (bytes_eq-Decides xs zs).0 (sym (is_eq-slice_cmp xs zs) ∙ at_xs) in
    is_eq-slice_cmp ys zs ∙ either_way ys zs ∙ ap (λ zs. bytes_eq zs ys) (sym same) ∙ differ

other_keys : {K : Type 0} (eq : K → K → Bool) (test other : K → Bool) (old new : List K)
    → KeepsOthers eq test old new → IsKeyTest eq other → AreApart test other
    → list_any other new ≡ list_any other old
unfolding KeepsOthers
other_keys eq test other old new kept one others = kept other one others

-- a set to which a name is added has this name and those of the set before
pub set_with : (set more : BTreeSet (RcStr Global)) (name : RcStr Global)
    → UpdatesBy (λ x y. slice_cmp nat_cmp (rc_str_bytes x) (rc_str_bytes y))
    (λ x. slice_cmp nat_cmp (rc_str_bytes name) (rc_str_bytes x)) set more true
    → (bytes : List ℕ)
    → set_has_name more bytes
    ≡ cond (bytes_eq (rc_str_bytes name) bytes) true (set_has_name set bytes)
set_with set more name updates bytes = go (bytes_eq (rc_str_bytes name) bytes) refl
  where
    go : (same : Bool) → bytes_eq (rc_str_bytes name) bytes ≡ same
        → set_has_name more bytes ≡ cond same true (set_has_name set bytes)
    go true same = subst (λ b. set_has_name more b ≡ true)
        ((bytes_eq-Decides (rc_str_bytes name) bytes).0 same) updates.1
    go false differs = other_keys _ _ _ _ _ updates.3
        (λ x y. (eq_by_cmp_equiv nat_list_cmp_total).congr bytes (rc_str_bytes x) (rc_str_bytes y))
        (λ x. apart (rc_str_bytes name) bytes (rc_str_bytes x) differs)

-- a set to which a name is added knows the names with this one after them
pub knows_more : (set more : BTreeSet (RcStr Global)) (given : List (RcStr Global))
    (key last : RcStr Global)
    → Knows set given → rc_str_bytes last ≡ rc_str_bytes key
    → ((bytes : List ℕ) → set_has_name more bytes
    ≡ cond (bytes_eq (rc_str_bytes key) bytes) true (set_has_name set bytes))
    → Knows more (given ++ last ∷ [])
knows_more set more given key last knows same added bytes =
    added bytes ∙ ap (cond (bytes_eq (rc_str_bytes key) bytes) true) (knows bytes)
    ∙ one_more (bytes_eq (rc_str_bytes key) bytes) (bytes_eq bytes (rc_str_bytes last))
    (has_name given bytes) (either_way (rc_str_bytes key) bytes ∙ ap (bytes_eq bytes) (sym same))
    ∙ sym (list_any-append (λ name. bytes_eq bytes (rc_str_bytes name)) given (last ∷ []))
