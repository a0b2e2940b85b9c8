-- Positions that are passed over, since no match can begin there.
use Rattle.regex_lite_engine.proofs.Common.{◌≡◌, ℕ, zero, suc, ◌+◌, ◌-◌, ◌*◌, ◌<◌, ◌≤◌, false}
use Rattle.regex_lite_engine.proofs.Common.{List, length, slice_index, Some, None, IsUtf8, Option}
use Rattle.regex_lite_engine.proofs.Common.{chars, sym, ap, ◌∙◌, subst, inl, inr, arith}
use Rattle.regex_lite_engine.proofs.Common.{mul-le-mul_left, Text, NeverBegins}
use Rattle.regex_lite_engine.proofs.Common.{IsPassed, stops_at, MayBegin, offset, IsHere, PassesTo}
use Rattle.regex_lite_engine.proofs.Common.{PrefixSets, FirstSet, Here, IsOffset}
use Rattle.regex_lite_engine.proofs.Common.{IfSome, drop, encodes-chars}
use Rattle.std.proofs.Common.{MatchOption, encode_utf8_all}
use Rattle.regex_lite_syntax.specs.Prefilter.StartFacts.{NoneStandsIn}
use Rattle.regex_lite_syntax.specs.Prefilter.Words.{AnyStandsAt}
use Rattle.regex_lite_syntax.specs.declared.prefilter.words.letter.Letter.{Letter}
use Rattle.regex_lite_engine.specs.Search.Starts.{SkipsTo}
use Rattle.regex_lite_syntax.specs.Prefilter.PrefixSets.{IsCutOff}
use Rattle.regex_lite_syntax.proofs.LookupLemmas.{there_is}
use Rattle.regex_lite_engine.proofs.OffsetLemmas.{offset_grows, offset_less, positions_order}
use Rattle.regex_lite_engine.proofs.OffsetLemmas.{rest_at}
use Rattle.regex_lite_engine.proofs.search.FirstByteLemmas.{begins_first, begins_later, first_byte}
use Rattle.regex_lite_engine.proofs.search.FirstByteLemmas.{second_off}

-- none begins where the bytes show that no second character does
pub cut_off_never : (prefixes : PrefixSets) (bs : List ℕ) (i : ℕ) → IsUtf8 bs → i < length
    (chars bs) → IsCutOff prefixes bs (offset (chars bs) i) → NeverBegins prefixes (chars bs) i
cut_off_never prefixes bs i u within cut = inr (by_second prefixes.second cut)
  where
    at : ℕ
    at = offset (chars bs) i

    by_second : (o : Option FirstSet)
        → MatchOption o ⊥ (λ second. (at + 1 < length bs) × (slice_index bs at < 128)
        × (stops_at second (slice_index bs (at + 1)) ≡ false))
        → MatchOption o ⊥ (λ second. ¬ (MayBegin second (chars bs) (suc i)))
    by_second None never = never
    by_second (Some second) (short, ascii, off) = second_off bs i u within short ascii second off

-- each position whose offset lies between these is passed
abbrev pub AllBetween : (Passed : ℕ → Type 0) → Text → (low high : ℕ) → Type 0
AllBetween Passed h low high =
    (i : ℕ) → i < length h → low ≤ offset h i → offset h i < high → Passed i

-- positions are passed where their offsets say so
pub passes_where : {Passed : ℕ → Type 0} {h : Text} {p at q : ℕ} {y : Here} → IsOffset h p at
    → IsHere h q y → at ≤ y.at → AllBetween Passed h at y.at → PassesTo Passed h p y
passes_where {h = h} {p} {at} {q} (inside, here) js le each = record {
  q = q;
  later = positions_order h p q inside (omega (arith, here, js.bytes, le));
  is = js;
  passed = λ i low high. (
      let within : i < length h = omega (arith, high, js.inside) in
      let more = offset_grows h p i low in
      let less = offset_less h i q high js.inside in
      each i within (omega (arith, here, more)) (omega (arith, less, js.bytes)));
}

-- none begins at the positions that the bytes rule out. At the haystack's start they don't, where
-- one may begin there whatever comes next
pub never_between : (prefixes : PrefixSets) (bs : List ℕ) (from to : ℕ) → IsUtf8 bs
    → (from ≡ 0 → prefixes.first.at_start ≡ false) → to ≤ length bs
    → ((k : ℕ) → from ≤ k → k < to → IsPassed prefixes bs k)
    → AllBetween (NeverBegins prefixes (chars bs)) (chars bs) from to
never_between prefixes bs from to utf8 start most pass i within above below =
    passed i within above (omega (arith, below, most)) (pass (offset (chars bs) i) above below)
  where
    passed : (i : ℕ) → i < length (chars bs) → from ≤ offset (chars bs) i
        → offset (chars bs) i < length bs → IsPassed prefixes bs (offset (chars bs) i)
        → NeverBegins prefixes (chars bs) i
    passed i within above short (inr cut) = cut_off_never prefixes bs i utf8 within cut
    passed zero within above short (inl off) =
        let first = there_is (chars bs) 0 within in
        inl (begins_first prefixes.first (chars bs)
        (first.0, first.1, first_byte prefixes.first bs 0 first.0 utf8 first.1 within short ∙ off)
        (start (omega (arith, above))))
    passed (suc i) within above short (inl off) =
        let next = there_is (chars bs) (suc i) within in
        inl (begins_later prefixes.first (chars bs) i
        (there_is (chars bs) i (omega (arith, within))) (
          next.0,
          next.1,
          first_byte prefixes.first bs (suc i) next.0 utf8 next.1 within short
              ∙ off,
        ))

-- so a search that goes on behind them passes them
pub passes_between : (prefixes : PrefixSets) (bs : List ℕ) {p at q : ℕ} {y : Here} → IsUtf8 bs
    → IsOffset (chars bs) p at → IsHere (chars bs) q y
    → (at ≡ 0 → prefixes.first.at_start ≡ false) → at ≤ y.at → y.at ≤ length bs
    → ((k : ℕ) → at ≤ k → k < y.at → IsPassed prefixes bs k)
    → PassesTo (NeverBegins prefixes (chars bs)) (chars bs) p y
passes_between prefixes bs {p} {at} {q} {y} utf8 is js start le most pass =
    passes_where is js le (never_between prefixes bs at y.at utf8 start most pass)

pub passes_as : (Passed Other : ℕ → Type 0) (h : Text) (p : ℕ) (x : Here)
    → ((i : ℕ) → Passed i → Other i) → PassesTo Passed h p x → PassesTo Other h p x
passes_as Passed Other h p x each w = record {
  q = w.q;
  later = w.later;
  is = w.is;
  passed = λ i low high. each i (w.passed i low high);
}

pub skips_as : (Passed Other : ℕ → Type 0) (bs : List ℕ) (p : ℕ) (next : Option ℕ)
    → ((i : ℕ) → Passed i → Other i) → IfSome next (SkipsTo Passed bs p)
    → IfSome next (SkipsTo Other bs p)
skips_as Passed Other bs p None each none = none
skips_as Passed Other bs p (Some at) each skips = λ here same is.
    passes_as Passed Other (chars bs) p here each (skips here same is)

-- no word stands at a position, if none does at its offset
pub none_stands_in : (words : List (List Letter)) (bs : List ℕ) (i : ℕ) → IsUtf8 bs
    → ¬ AnyStandsAt words bs (offset (chars bs) i) → NoneStandsIn words (chars bs) i
none_stands_in words bs i utf8 none stands =
    none (subst (λ (rest : List ℕ). AnyStandsAt words rest 0) (sym rest) stands)
  where
    rest : drop (offset (chars bs) i) bs ≡ encode_utf8_all (drop i (chars bs))
    rest = ap (drop (offset (chars bs) i)) (sym (encodes-chars bs utf8)) ∙ rest_at (chars bs) i

-- a bound up to a position holds up to a later one
pub bound_later : (a p q s m : ℕ) → p ≤ q → a ≤ m * (p - s) → a ≤ m * (q - s)
bound_later a p q s m le bound =
    let more : m * (p - s) ≤ m * (q - s) = mul-le-mul_left m (omega (arith, le)) in
    omega (arith, bound, more)

-- a search that stays where it stands passes over no position
pub stays : {Passed : ℕ → Type 0} (h : Text) (p : ℕ) (here : Here) → IsHere h p here
    → PassesTo Passed h p here
stays h p here is = record {
  q = p;
  later = omega arith;
  is = is;
  passed = λ i from below. absurd (omega (arith, from, below));
}
