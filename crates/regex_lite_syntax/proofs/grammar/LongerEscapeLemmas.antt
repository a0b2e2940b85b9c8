-- Escapes in a longer text that begins with the text.
use Rattle.regex_lite_syntax.proofs.Common.{◌≡◌, ℕ, Bool, ◌++◌, sym, ap, subst, look_at, EscapeKind}
use Rattle.regex_lite_syntax.proofs.Common.{gives, word_boundary, hexadecimal, refused, escape_kind}
use Rattle.regex_lite_syntax.proofs.Common.{FixedDigits, BracedDigits, Hexadecimal, fixed, braced}
use Rattle.regex_lite_syntax.proofs.Common.{BoundaryName, WordBoundary, alone, before_count}
use Rattle.regex_lite_syntax.proofs.Common.{EscapeFrom, Escape, Text, Begins, the, Look}
use Rattle.regex_lite_syntax.specs.Grammar.Escapes.{Primitive, BeginsCount, named}
use Rattle.regex_lite_syntax.proofs.grammar.LongerGapLemmas.{gap_before, spaced_longer}
use Rattle.regex_lite_syntax.proofs.grammar.LongerGapLemmas.{no_gap_longer, goes_on_longer}
use Rattle.regex_lite_syntax.proofs.grammar.SpacedLemmas.{boundary_characters_end}

module _ (more : Text) where
  -- no brace comes to stand past the text where none did
  abbrev pub NoBraceComes : Text → Type 0
  NoBraceComes t = (Begins (the "{") t → ⊥) → Begins (the "{") (t ++ more) → ⊥

  pub fixed_longer : {verbose : Bool} {n : ℕ} {t rest : Text} {c : ℕ}
      → FixedDigits verbose n t rest c → FixedDigits verbose n (t ++ more) (rest ++ more) c
  fixed_longer {verbose} {n} {t} {rest} d = record {
    digits = d.digits;
    written = spaced_longer more verbose _ d.digits t rest d.written;
    count = d.count;
    scalar = d.scalar;
    value = d.value;
  }

  pub braced_longer : {verbose : Bool} {t rest : Text} {c : ℕ}
      → BracedDigits verbose t rest c → BracedDigits verbose (t ++ more) (rest ++ more) c
  braced_longer {verbose} {t} {rest} d = record {
    digits = d.digits;
    last = d.last ++ more;
    written = spaced_longer more verbose _ d.digits t d.last d.written;
    closes = gap_before more verbose d.last rest _ d.closes;
    some = d.some;
    scalar = d.scalar;
    value = d.value;
  }

  pub hexadecimal_longer : {verbose : Bool} {n : ℕ} {t rest : Text} {c : ℕ}
      → Hexadecimal verbose n t rest c → Hexadecimal verbose n (t ++ more) (rest ++ more) c
  hexadecimal_longer (fixed d) = fixed (fixed_longer d)
  hexadecimal_longer {verbose} {t} (braced opened g d) =
      braced (opened ++ more) (gap_before more verbose t opened _ g) (braced_longer d)

  pub name_longer : {verbose : Bool} {t rest : Text} {look : Look}
      → BoundaryName verbose t rest look → BoundaryName verbose (t ++ more) (rest ++ more) look
  name_longer {verbose} {t} {rest} b = record {
    name = b.name;
    last = b.last ++ more;
    written = spaced_longer more verbose _ b.name t b.last b.written;
    closes = gap_before more verbose b.last rest _ b.closes;
    named = b.named;
  }

  count_longer : {verbose : Bool} {t : Text} → BeginsCount verbose t
      → BeginsCount verbose (t ++ more)
  count_longer {verbose} {t} b = record {
    goes_on = goes_on_longer more verbose t b.goes_on;
    no_name = λ c rest g is.
        no_gap_longer more verbose t c (λ u. boundary_characters_end c u is) b.goes_on
        (λ first h. b.no_name c first h is) rest g;
  }

  pub boundary_longer : {verbose : Bool} {t rest : Text} {look : Look}
      → WordBoundary verbose t rest look → NoBraceComes rest
      → WordBoundary verbose (t ++ more) (rest ++ more) look
  boundary_longer (alone none e is) comes =
      alone (subst NoBraceComes (sym e) comes none) (ap (λ u. u ++ more) e) is
  boundary_longer (before_count opened e b k is) comes =
      before_count (opened ++ more) (ap (λ u. u ++ more) e) (count_longer b)
      (ap (λ u. u ++ more) k) is
  boundary_longer (named opened e b) comes =
      named (opened ++ more) (ap (λ u. u ++ more) e) (name_longer b)

  from_longer : (k : EscapeKind) (verbose : Bool) (t rest : Text) (p : Primitive)
      → EscapeFrom k verbose t rest p → ((look : Look) → p ≡ look_at look → NoBraceComes rest)
      → EscapeFrom k verbose (t ++ more) (rest ++ more) p
  from_longer (gives q) verbose t rest p d comes = (ap (λ u. u ++ more) d.0, d.1)
  from_longer word_boundary verbose t rest p d comes =
      (d.0, boundary_longer d.1 (comes d.0 d.2), d.2)
  from_longer (hexadecimal n) verbose t rest p d comes = (d.0, hexadecimal_longer d.1, d.2)
  from_longer refused verbose t rest p d comes = absurd d

  -- where no brace comes to stand past a look
  pub escape_longer : (verbose : Bool) (t rest : Text) (p : Primitive)
      → Escape verbose t rest p → ((look : Look) → p ≡ look_at look → NoBraceComes rest)
      → Escape verbose (t ++ more) (rest ++ more) p
  escape_longer verbose t rest p d comes = record {
    first = d.first;
    past_first = d.past_first ++ more;
    begins = ap (λ u. u ++ more) d.begins;
    goes_on = from_longer (escape_kind d.first) verbose d.past_first rest p d.goes_on comes;
  }
