-- Flags are read in one way.
use Rattle.regex_lite_syntax.proofs.Common.{◌≡◌, ℕ, Bool, true, false, ◌≢◌, [], ◌∷◌, ◌++◌, sym}
use Rattle.regex_lite_syntax.proofs.Common.{refl, ap, ◌∙◌, subst, arith, AllPass-from_list_all}
use Rattle.regex_lite_syntax.proofs.Common.{AllPass, is_flag_letter, with_flags, FlagLetters}
use Rattle.regex_lite_syntax.proofs.Common.{setting, clearing, Text, the, Flags}
use Rattle.regex_lite_syntax.proofs.ListLemmas.{same_head, same_tail}
use Rattle.regex_lite_syntax.proofs.grammar.WordLemmas.{word_once as longest_once}

-- letters of one kind up to a character of another kind
pub word_once : (kind : ℕ → Bool) (word word' t : Text) (c d : ℕ) (r s : Text) → kind c ≡ false
    → kind d ≡ false → t ≡ word ++ c ∷ r → t ≡ word' ++ d ∷ s → AllPass kind word
    → AllPass kind word' → (word ≡ word') × (c ≡ d) × (r ≡ s)
word_once kind word word' t c d r s ends ends' p q all all' =
    let same = longest_once kind word word' t (c ∷ r) (d ∷ s) p q all all' ends ends' in
    (same.0, same_head same.1, same_tail same.1)

-- the character is no part of flags
pub record EndsFlags (c : ℕ) : Type 0 where
  pub no_letter : is_flag_letter c ≡ false
  pub no_dash : c ≢ the "-"

pub colon_ends_flags : EndsFlags (the ":")
colon_ends_flags = record { no_letter = refl; no_dash = λ e. omega (arith, e) }

pub paren_ends_flags : EndsFlags (the ")")
paren_ends_flags = record { no_letter = refl; no_dash = λ e. omega (arith, e) }

-- flags that set alone and flags with a dash do not stand at one place
one_sort : (on on' t past : Text) (c : ℕ) (r : Text) → EndsFlags c → t ≡ on ++ c ∷ r
    → AllPass is_flag_letter on → t ≡ on' ++ the "-" ∷ past → AllPass is_flag_letter on' → ⊥
one_sort on on' t past c r ends p all q all' =
    ends.no_dash
    (word_once is_flag_letter on on' t c (the "-") r past ends.no_letter refl p q all all').1

-- two that end before what is no part of flags
pub letters_once : (old new new' : Flags) (t : Text) (c d : ℕ) (r s : Text) → EndsFlags c
    → EndsFlags d → FlagLetters old t (c ∷ r) new → FlagLetters old t (d ∷ s) new'
    → (new ≡ new') × (c ≡ d) × (r ≡ s)
letters_once old new new' t c d r s ends ends' (setting on p all differ e)
    (setting on' p' all' differ' e') =
    let same =
    word_once is_flag_letter on on' t c d r s ends.no_letter ends'.no_letter p p' all all' in
    (e ∙ ap (λ w. with_flags true w old) same.0 ∙ sym e', same.1, same.2)
letters_once old new new' t c d r s ends ends' (setting on p all differ e)
    (clearing on' off past p' q some all' all_off differ' e') =
    absurd (one_sort on on' t past c r ends p all p' all')
letters_once old new new' t c d r s ends ends' (clearing on off past p q some all all_off differ e)
    (setting on' p' all' differ' e') =
    absurd (one_sort on' on t past d s ends' p' all' p all)
letters_once old new new' t c d r s ends ends' (clearing on off past p q some all all_off differ e)
    (clearing on' off' past' p' q' some' all' all_off' differ' e') =
    let first =
    word_once is_flag_letter on on' t (the "-") (the "-") past past' refl refl p p' all all' in
    let from = subst (λ u. u ≡ off' ++ d ∷ s) (sym first.2) q' in
    let same = word_once is_flag_letter off off' past c d r s ends.no_letter ends'.no_letter q from
    all_off all_off' in
    let cleared = ap (λ w. with_flags false w (with_flags true on old)) same.0 in
    let set = ap (λ w. with_flags false off' (with_flags true w old)) first.0 in
    (e ∙ cleared ∙ set ∙ sym e', same.1, same.2)

-- flags that end before one character do not end before another
pub other_end : (old new new' : Flags) (t : Text) (c d : ℕ) (r s : Text) → EndsFlags c → EndsFlags d
    → c ≢ d → FlagLetters old t (c ∷ r) new → FlagLetters old t (d ∷ s) new' → ⊥
other_end old new new' t c d r s ends ends' differ p q =
    differ (letters_once old new new' t c d r s ends ends' p q).1

-- no flags at all stand directly before any character
no_flags : (old : Flags) (t rest : Text) (c : ℕ) → t ≡ c ∷ rest → FlagLetters old t (c ∷ rest) old
no_flags old t rest c e = setting [] e (AllPass-from_list_all is_flag_letter [] refl) refl refl

-- so where a character stands that is no part of flags, none end before another
pub flags_elsewhere : (old new : Flags) (t u : Text) (c d : ℕ) (r : Text) → EndsFlags c
    → EndsFlags d → t ≡ c ∷ u → c ≢ d → FlagLetters old t (d ∷ r) new → ⊥
flags_elsewhere old new t u c d r ends ends' e differ letters =
    other_end old old new t c d u r ends ends' differ (no_flags old t u c e) letters

-- no head ends directly before a `)`
pub empty_head : (old : Flags) (t rest r : Text) (new : Flags) → t ≡ the ")" ∷ rest
    → FlagLetters old t (the ":" ∷ r) new → ⊥
empty_head old t rest r new e letters =
    flags_elsewhere old new t rest (the ")") (the ":") r paren_ends_flags colon_ends_flags e
    (λ c. omega (arith, c)) letters

-- and no directive
pub empty_directive : (old : Flags) (t rest r : Text) (new : Flags) → t ≡ the ")" ∷ rest
    → t ≢ the ")" ∷ r
    → FlagLetters old t (the ")" ∷ r) new → ⊥
empty_directive old t rest r new e differ letters =
    let ends = paren_ends_flags in
    let none = no_flags old t rest (the ")") e in
    let same = letters_once old new old t (the ")") (the ")") r rest ends ends letters none in
    differ (e ∙ ap (λ u. (the ")") ∷ u) (sym same.2))
