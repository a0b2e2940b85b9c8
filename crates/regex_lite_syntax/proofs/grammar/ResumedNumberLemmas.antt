-- Numbers at the end of a pattern that goes on.
use Rattle.regex_lite_syntax.proofs.Common.{◌≡◌, ℕ, ◌+◌, ◌-◌, ◌*◌, ◌^◌, ◌<◌, Bool, true, false, []}
use Rattle.regex_lite_syntax.proofs.Common.{◌∷◌, ◌++◌, length, IsTrue, sym, refl, ap, ◌∙◌, subst}
use Rattle.regex_lite_syntax.proofs.Common.{inl, inr, arith, length-append, and_from, and_parts}
use Rattle.regex_lite_syntax.proofs.Common.{both_ways, le-leb, not-true, or_left, fold-append}
use Rattle.regex_lite_syntax.proofs.Common.{list_all, is_character, AreCharacters, is_white_space}
use Rattle.regex_lite_syntax.proofs.Common.{is_digit, digit_value, number_of, WhiteSpace, Side}
use Rattle.regex_lite_syntax.proofs.Common.{Number, EndsNumber, Gap, Spaced, GrowsTo, as_it_is}
use Rattle.regex_lite_syntax.proofs.Common.{Becomes, Text}
use Rattle.std.proofs.Common.{fold}
use Rattle.std.proofs.lemmas.Bool.{lt-ltb}
use Rattle.regex_lite_syntax.specs.Parser.Numbers.{with_digit}
use Rattle.regex_lite_syntax.proofs.ListLemmas.{same_head}
use Rattle.regex_lite_syntax.proofs.grammar.GapLemmas.{empty_gap}
use Rattle.regex_lite_syntax.proofs.grammar.NumberLemmas.{empty_white, side_of, digit_bounds}
use Rattle.regex_lite_syntax.proofs.grammar.NumberLemmas.{digits_end, number_begins, own_digits}
use Rattle.regex_lite_syntax.proofs.grammar.LongerGapLemmas.{spaced_longer}
use Rattle.regex_lite_syntax.proofs.grammar.LongerNumberLemmas.{side_longer, whole_side_longer}
use Rattle.regex_lite_syntax.proofs.grammar.LongerNumberLemmas.{digits_longer, spaced_some}
use Rattle.regex_lite_syntax.proofs.grammar.LongerNumberLemmas.{number_on}
use Rattle.regex_lite_syntax.proofs.grammar.ResumedGapLemmas.{resumed, gap_resumed}
use Rattle.regex_lite_syntax.proofs.grammar.CompletedGapLemmas.{spaced_together, spaced_further}
use Rattle.regex_lite_syntax.proofs.grammar.CompletedGapLemmas.{spaced_are}
use Rattle.regex_lite_syntax.proofs.grammar.WordLemmas.{all_characters}

-- Sides and digits.

-- past a side that led to the end stands what follows
white_resumed : (t next : Text) → WhiteSpace t [] → WhiteSpace (t ++ next) next
white_resumed [] next w = empty_white next
white_resumed (c ∷ t) next (inl none) = absurd (cc none)
white_resumed (c ∷ t) next (inr w) = inr (w.0, white_resumed t next w.1)

side_resumed : (verbose : Bool) (t next : Text) → Side verbose t []
    → Side verbose (t ++ (resumed verbose ++ next)) next
side_resumed true t next side = gap_resumed true t next side
side_resumed false t next side = white_resumed t next side

-- each of them is a digit
abbrev AreDigits : Text → Type 0
AreDigits ds = IsTrue (list_all is_digit ds)

-- the number, with more digits
abbrev with_digits : (number : ℕ) → (digits : Text) → ℕ
with_digits number ds = fold (λ n d. n * 10 + digit_value d) number ds

-- digits are characters
pub digit_is_character : (c : ℕ) → IsTrue (is_digit c) → IsTrue (is_character c)
digit_is_character c digit = or_left _ _ (lt-ltb c 0xD800 (omega (arith, digit_bounds c digit)))

-- What a number grows to, in digits.

-- the digit of a number below 10, and what a digit stands for
digit_of : (d : ℕ) → d < 10 → IsTrue (is_digit (0x30 + d))
digit_of d small =
    and_from _ _ (le-leb 0x30 (0x30 + d) (omega arith))
    (le-leb (0x30 + d) 0x39 (omega (arith, small)))

value_of : (c : ℕ) → IsTrue (is_digit c) → digit_value c ≡ c - 0x30
value_of c digit = rw digit refl

-- digits that make the one number the other
pub record Written (number n : ℕ) : Type 0 where
  pub digits : Text
  pub all : AreDigits digits
  pub value : n ≡ with_digits number digits

written : {number n : ℕ} → GrowsTo number n → Written number n
written (as_it_is e) = record { digits = []; all = refl; value = e }
written {number} {n} (with_digit d small more) =
    let further = written more in
    let is = digit_of d small in
    let same : digit_value (0x30 + d) ≡ d = value_of (0x30 + d) is ∙ omega arith in
    record {
      digits = (0x30 + d) ∷ further.digits;
      all = and_from _ _ is further.all;
      value = further.value ∙ ap (λ v. with_digits (number * 10 + v) further.digits) (sym same);
    }

-- a number grows to what digits make of it
grows_with : (ds : Text) (number : ℕ) → AreDigits ds → GrowsTo number (with_digits number ds)
grows_with [] number all = as_it_is refl
grows_with (d ∷ ds) number all =
    let both = and_parts _ _ all in
    let bounds = digit_bounds d both.0 in
    let value = value_of d both.0 in
    with_digit (digit_value d) (omega (arith, bounds, value))
    (grows_with ds (number * 10 + digit_value d) both.1)

-- so it grows to a number that they make of it
grows_to : (ds : Text) (n m : ℕ) → AreDigits ds → m ≡ with_digits n ds → GrowsTo n m
grows_to ds n m all value = subst (λ k. GrowsTo n k) (sym value) (grows_with ds n all)

-- and where they follow what stands past its digits at the end, it becomes that number
becomes_with : (verbose : Bool) (last more end ds : Text) (n m : ℕ) → Side verbose last []
    → Spaced verbose is_digit ds (last ++ more) end → m ≡ with_digits n ds
    → Becomes verbose last n m
becomes_with true last more end ds n m side s value =
    inr (side, grows_to ds n m (spaced_are true is_digit ds (last ++ more) end s) value)
becomes_with false [] more end ds n m side s value =
    inr (refl, grows_to ds n m (spaced_are false is_digit ds more end s) value)
becomes_with false (c ∷ last) more end ds n m (inl none) s value = absurd (cc none)
becomes_with false (c ∷ last) more end [] n m (inr white) s value = inl value
becomes_with false (c ∷ last) more end (d ∷ ds) n m (inr white) s value =
    let same : d ≡ c = same_head s.1 in
    let ends = digits_end d s.0 s.2 in
    absurd (both_ways (is_white_space d) (not-true _ ends.0) (ap is_white_space same ∙ white.0))

-- Numbers.

-- a number that begins past a side that led to the end
pub number_begun : (verbose : Bool) (t next ds : Text) → Side verbose t [] → AreDigits ds
    → 0 < length ds → number_of 10 ds < 2 ^ 32
    → Number verbose (t ++ (resumed verbose ++ (ds ++ next))) next (number_of 10 ds)
number_begun verbose t next ds side all some small = record {
  first = ds ++ next;
  last = next;
  digits = ds;
  before = side_resumed verbose t (ds ++ next) side;
  written = spaced_together verbose is_digit ds next all;
  after = side_of verbose next next (empty_gap verbose next);
  some = some;
  value = refl;
  in_range = small;
}

module _ (verbose : Bool) (t : Text) where
  -- a number past whose side nothing is left, and then what follows
  pub number_resumed : {n : ℕ} (next : Text) → Number verbose t [] n
      → Number verbose (t ++ (resumed verbose ++ next)) next n
  number_resumed next p =
      number_on (resumed verbose ++ next) p (side_resumed verbose p.last next p.after)

  -- and one past whose digits a gap led to the end, and then more digits
  digits_resumed : {n : ℕ} (next ds : Text) (p : Number verbose t [] n) → Gap verbose p.last []
      → AreDigits ds → with_digits n ds < 2 ^ 32
      → Number verbose (t ++ (resumed verbose ++ (ds ++ next))) next (with_digits n ds)
  digits_resumed {n} next [] p gap all small = number_resumed next p
  digits_resumed {n} next (d ∷ ds) p gap all small =
      let both = and_parts _ _ all in
      let more = resumed verbose ++ (d ∷ ds ++ next) in
      record {
        first = p.first ++ more;
        last = next;
        digits = p.digits ++ d ∷ ds;
        before = side_longer more verbose t p.first p.before
            (spaced_some verbose p.digits p.first p.last p.some p.written);
        written = spaced_further verbose is_digit p.digits (d ∷ ds) (p.first ++ more)
            (p.last ++ more) next
            (spaced_longer more verbose is_digit p.digits p.first p.last p.written) (
              ds ++ next,
              gap_resumed verbose p.last (d ∷ ds ++ next) gap,
              both.0,
              spaced_together verbose is_digit ds next both.1,
            );
        after = side_of verbose next next (empty_gap verbose next);
        some = omega (arith, p.some, length-append p.digits (d ∷ ds));
        value = ap (λ m. with_digits m (d ∷ ds)) p.value
            ∙ sym (fold-append (λ n d. n * 10 + digit_value d) 0 p.digits (d ∷ ds));
        in_range = small;
      }

  -- what completes a number to one that it becomes
  pub record Resumed (m : ℕ) : Type 0 where
    pub digits : Text
    pub characters : AreCharacters digits
    pub reads : (next : Text) → Number verbose (t ++ (resumed verbose ++ (digits ++ next))) next m

  pub becomes_resumed : {n m : ℕ} (p : Number verbose t [] n) → Becomes verbose p.last n m
      → m < 2 ^ 32 → Resumed m
  becomes_resumed {n} {m} p (inl same) small = record {
    digits = [];
    characters = tt;
    reads = λ next.
        subst (λ k. Number verbose (t ++ (resumed verbose ++ next)) next k) (sym same)
        (number_resumed next p);
  }
  becomes_resumed {n} {m} p (inr (gap, grows)) small =
      let w = written grows in
      record {
        digits = w.digits;
        characters = all_characters is_digit w.digits digit_is_character w.all;
        reads = λ next.
            subst (λ k. Number verbose (t ++ (resumed verbose ++ (w.digits ++ next))) next k)
            (sym w.value)
            (digits_resumed next w.digits p gap w.all (omega (arith, small, w.value)));
      }

  -- a number there in a longer text is one that the number becomes
  pub longer_becomes : {n m : ℕ} {rest : Text} (more : Text) (p : Number verbose t [] n)
      → Number verbose (t ++ more) rest m → EndsNumber rest → Becomes verbose p.last n m
  longer_becomes {n} {m} {rest} more p q ends =
      let own = own_digits p in
      let whole = whole_side_longer more verbose t own.0 own.1 own.2 in
      let on = number_begins whole (digits_longer more own.3) q ends in
      becomes_with verbose p.last more q.last on.0 n m p.after on.1 on.2
