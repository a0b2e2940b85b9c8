-- The characters between ranges.
use Rattle.regex_lite_syntax.proofs.Common.{◌≡◌, ℕ, ◌<◌, ◌≤◌, Bool, ◌&&◌, ◌||◌, List, [], ◌∷◌}
use Rattle.regex_lite_syntax.proofs.Common.{IsTrue, nat_lt, nat_le, Some, None, Option, sym, ap}
use Rattle.regex_lite_syntax.proofs.Common.{arith, nat_tests, is_character, start_of}
use Rattle.regex_lite_syntax.proofs.Common.{next_character, AreRuns, Set, span, ClassRange}
use Rattle.std.proofs.Common.{not}
use Rattle.std.specs.Option.{MatchOption}
use Rattle.regex_lite_syntax.specs.Parser.RangeEnds.{span_of}
use Rattle.regex_lite_syntax.proofs.RangeLemmas.{next_above, next_least}

-- the characters from the one up to before the other
abbrev pub between : (start end : ℕ) → Set
between start end c = is_character c && (nat_le start c && nat_lt c end)

-- up to the character before is up to before the character
pub span_before : (start previous : Option ℕ) (end c : ℕ)
    → MatchOption previous (end ≡ 0)
    (λ last. IsTrue (is_character last) × (next_character last ≡ end))
    → span_of start previous c ≡ between (start_of start) end c
span_before None previous end c h = grind (arith, nat_tests)
span_before (Some start) None end c h = grind (arith, nat_tests)
span_before (Some start) (Some last) end c h =
    grind (arith, nat_tests, next_above last, next_least last c)

-- what follows a range starts at the next character
pub start_next : (next : Option ℕ) (c : ℕ)
    → MatchOption next (c ≡ 0x10FFFF) (λ d. (c < 0x10FFFF) × (d ≡ next_character c))
    → start_of next ≡ next_character c
start_next None c h = sym (ap next_character h)
start_next (Some d) c h = h.1

-- what a range and all before it hold comes before the next character
pub before_next : (n start end c : ℕ) (before after : Bool) → n ≤ end → (IsTrue before → c < n)
    → after ≡ (before || span start end c) → IsTrue after → c < next_character end
before_next n start end c before after l b e held = grind (arith, nat_tests, next_above end)

-- one more range, and the gap before it
pub gap_step : (n start end c : ℕ) (before old new : Bool) → n ≤ start → start ≤ end
    → (IsTrue before → c < n)
    → old ≡ (nat_lt c n && (is_character c && not before)) → new ≡ (old || between n start c)
    → new ≡ (nat_lt c (next_character end) && (is_character c && not (before || span start end c)))
gap_step n start end c before old new l m b o e =
    grind (arith, nat_tests, next_above end, next_least end c)

-- after the last range, the gap up to the last character
pub last_gap : (start : Option ℕ) (c : ℕ) (before old new : Bool)
    → (IsTrue before → c < start_of start)
    → old ≡ (nat_lt c (start_of start) && (is_character c && not before))
    → new ≡ (old || span_of start (Some 0x10FFFF) c) → new ≡ (is_character c && not before)
last_gap None c before old new b o e = grind (arith, nat_tests)
last_gap (Some start) c before old new b o e = grind (arith, nat_tests)

pub runs_sooner : (n m : ℕ) (ranges : List ClassRange) → n ≤ m → AreRuns m ranges → AreRuns n ranges
runs_sooner n m [] l a = tt
runs_sooner n m (r ∷ ranges) l a = (omega (arith, a.0), a.1, a.2, a.3, a.4)
