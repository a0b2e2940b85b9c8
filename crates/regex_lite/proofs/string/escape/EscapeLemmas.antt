-- One character more of an escaped text.
use Rattle.regex_lite.proofs.Common.{◌≡◌, ℕ, Bool, true, false, List, [], ◌∷◌, ◌++◌, length, IsUtf8}
use Rattle.regex_lite.proofs.Common.{chars, sym, refl, ap, ◌∙◌, append_assoc, Text, escaped_pattern}
use Rattle.std.proofs.Common.{cond}
use Rattle.std.specs.Prelude.{encode_utf8_all}
use Rattle.std.proofs.lemmas.List.{append-nil}
use Rattle.std.proofs.lemmas.Str.{chars-nil, chars_past_char}
use lib.Utf8.{encode}
use Rattle.regex_lite_syntax.specs.Text.{the}
use Rattle.regex_lite_syntax.specs.Escaped.{is_meta_character, escaped}

-- what stands before the character
abbrev pub mark : Bool → List ℕ
mark meta = cond meta (encode (the "\\")) []

first_written : (c : ℕ) (t : Text) (meta : Bool) → is_meta_character c ≡ meta
    → encode_utf8_all (escaped (c ∷ t)) ≡ mark meta ++ (encode c ++ encode_utf8_all (escaped t))
first_written c t true is = rw is refl
first_written c t false is = rw is refl

pub one_more : (old here new bytes rest whole : List ℕ) (c : ℕ) (meta : Bool) → IsUtf8 bytes
    → bytes ≡ encode c ++ rest
    → is_meta_character c ≡ meta → here ≡ old ++ mark meta → new ≡ here ++ encode c
    → old ++ escaped_pattern bytes ≡ whole → new ++ escaped_pattern rest ≡ whole
one_more old here new bytes rest whole c meta utf8 cut is marked written so_far =
    let step : escaped_pattern bytes ≡ mark meta ++ (encode c ++ escaped_pattern rest) =
    ap (λ t. encode_utf8_all (escaped t)) (chars_past_char bytes rest c utf8 cut)
    ∙ first_written c (chars rest) meta is in
    rw (written, marked) (simp append_assoc (ap (λ x. old ++ x) (sym step) ∙ so_far))

-- at the end the whole is written
no_more : (bytes : List ℕ) → length bytes ≡ 0 → escaped_pattern bytes ≡ []
no_more [] none = ap (λ t. encode_utf8_all (escaped t)) chars-nil
no_more (b ∷ bytes) none = absurd (cc)

pub all_written : (old bytes whole : List ℕ) → length bytes ≡ 0
    → old ++ escaped_pattern bytes ≡ whole → old ≡ whole
all_written old bytes whole none so_far =
    sym (append-nil old) ∙ ap (λ x. old ++ x) (sym (no_more bytes none)) ∙ so_far
