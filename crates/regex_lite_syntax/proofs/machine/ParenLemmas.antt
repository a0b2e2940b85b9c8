-- After each part of a pattern are no more `(` than from its beginning on, and no other characters.
use Rattle.regex_lite_syntax.proofs.Common.{◌≡◌, ℕ, zero, suc, ◌+◌, ◌≤◌, Bool, true, false, List}
use Rattle.regex_lite_syntax.proofs.Common.{[], ◌∷◌, ◌++◌, length, if◌then◌else◌, ◌==◌, Option, sym}
use Rattle.regex_lite_syntax.proofs.Common.{refl, ap, subst, inl, inr, arith, AreCharacters}
use Rattle.regex_lite_syntax.proofs.Common.{AtomKind, single, escape, bracketed, no_atom, atom_kind}
use Rattle.regex_lite_syntax.proofs.Common.{AtomFrom, Atom, ClassElement, RangeFollows, NamedClass}
use Rattle.regex_lite_syntax.proofs.Common.{ClassItem, named_class, escaped_set, range, Takes}
use Rattle.regex_lite_syntax.proofs.Common.{takes, leaves, Dashes, FirstBracket, ClassOpening}
use Rattle.regex_lite_syntax.proofs.Common.{ClassItems, BracketedClass, WhiteSpace, Side, Number}
use Rattle.regex_lite_syntax.proofs.Common.{Counted, exactly, at_least, between, EscapeKind, gives}
use Rattle.regex_lite_syntax.proofs.Common.{word_boundary, hexadecimal, refused, escape_kind}
use Rattle.regex_lite_syntax.proofs.Common.{Hexadecimal, fixed, braced, WordBoundary, alone}
use Rattle.regex_lite_syntax.proofs.Common.{before_count, EscapeFrom, Escape, FlagLetters, setting}
use Rattle.regex_lite_syntax.proofs.Common.{clearing, Spacing, Gap, Spaced, NameOpening, with_p}
use Rattle.regex_lite_syntax.proofs.Common.{without_p, Named, Operator, uncounted, uncounted_lazy}
use Rattle.regex_lite_syntax.proofs.Common.{counted, counted_lazy, SetName, Set, Text, the, Tree}
use Rattle.regex_lite_syntax.proofs.Common.{Flags, Look}
use Rattle.std.specs.List.{count_by}
use Rattle.std.proofs.lemmas.List.Sums.{sum_by-cons}
use Rattle.regex_lite_syntax.proofs.grammar.ScanLemmas.{Scan, scan_of_spacing}
use Rattle.regex_lite_syntax.specs.Grammar.Escapes.{Primitive, named as boundary_named}
use Rattle.regex_lite_syntax.specs.Grammar.Classes.{literal, escaped, character}

-- how many `(` the text has
abbrev pub parens : Text → ℕ
parens t = count_by (λ c. c == the "(") t

pub parens_more : (c : ℕ) (rest : Text)
    → parens (c ∷ rest) ≡ (if c == the "(" then 1 else 0) + parens rest
parens_more c rest = sum_by-cons (λ d. if d == the "(" then 1 else 0) c rest

pub one_paren : (rest : Text) → parens (the "(" ∷ rest) ≡ 1 + parens rest
one_paren rest = parens_more (the "(") rest

-- the second text is no longer than the first and has no more `(`, and characters alone where the
-- first has
pub record NoMore (t rest : Text) : Type 0 where
  pub shorter : length rest ≤ length t
  pub within : parens rest ≤ parens t
  pub characters : AreCharacters t → AreCharacters rest

pub nothing_read : {t rest : Text} → t ≡ rest → NoMore t rest
nothing_read {t} {rest} e =
    record {
      shorter = omega (arith, ap length e);
      within = omega (arith, ap parens e);
      characters = λ all. subst (λ u. AreCharacters u) e all;
    }

pub then_read : {t past rest : Text} → NoMore t past → NoMore past rest → NoMore t rest
then_read a b =
    record {
      shorter = omega (arith, a.shorter, b.shorter);
      within = omega (arith, a.within, b.within);
      characters = λ all. b.characters (a.characters all);
    }

pub past_first : (c : ℕ) (rest : Text) → NoMore (c ∷ rest) rest
past_first c rest = record {
  shorter = omega arith;
  within = omega (arith, parens_more c rest);
  characters = λ all. all.1;
}

pub one_read : {t rest : Text} {c : ℕ} → t ≡ c ∷ rest → NoMore t rest
one_read {t} {rest} {c} e = then_read (nothing_read e) (past_first c rest)

-- texts, gaps and characters with gaps between them
spelled_reads : (cs t rest : Text) → t ≡ cs ++ rest → NoMore t rest
spelled_reads [] t rest s = nothing_read s
spelled_reads (c ∷ cs) t rest s = then_read (one_read s) (spelled_reads cs (cs ++ rest) rest refl)

scan_reads : (in_comment : Bool) (t rest : Text) → Scan in_comment t rest → NoMore t rest
scan_reads in_comment [] rest b = nothing_read (sym b)
scan_reads false (c ∷ t) rest (inl b) = nothing_read (sym b)
scan_reads false (c ∷ t) rest (inr (inl b)) =
    then_read (past_first c t) (scan_reads false t rest b.1)
scan_reads false (c ∷ t) rest (inr (inr b)) =
    then_read (past_first c t) (scan_reads true t rest b.1)
scan_reads true (c ∷ t) rest (inl b) = then_read (past_first c t) (scan_reads false t rest b.1)
scan_reads true (c ∷ t) rest (inr b) = then_read (past_first c t) (scan_reads true t rest b.1)

blank_reads : (t rest : Text) → Spacing t rest → NoMore t rest
blank_reads t rest b = scan_reads false t rest (scan_of_spacing t rest b)

pub gap_reads : (verbose : Bool) (t rest : Text) → Gap verbose t rest → NoMore t rest
gap_reads true t rest g = blank_reads t rest g
gap_reads false t rest g = nothing_read (sym g)

spaced_reads : (verbose : Bool) (kind : ℕ → Bool) (cs t rest : Text) → Spaced verbose kind cs t rest
    → NoMore t rest
spaced_reads verbose kind [] t rest s = nothing_read s
spaced_reads verbose kind (c ∷ cs) t rest s =
    let gap = then_read (gap_reads verbose t (c ∷ s.0) s.1) (past_first c s.0) in
    then_read gap (spaced_reads verbose kind cs s.0 rest s.3)

-- a gap and the character past it
pub gap_and_one : (verbose : Bool) (t rest : Text) (c : ℕ) → Gap verbose t (c ∷ rest)
    → NoMore t rest
gap_and_one verbose t rest c g = then_read (gap_reads verbose t (c ∷ rest) g) (past_first c rest)

-- counted operators
white_reads : (t rest : Text) → WhiteSpace t rest → NoMore t rest
white_reads [] rest w = nothing_read (sym w)
white_reads (c ∷ t) rest (inl w) = nothing_read (sym w)
white_reads (c ∷ t) rest (inr w) = then_read (past_first c t) (white_reads t rest w.1)

side_reads : (verbose : Bool) (t rest : Text) → Side verbose t rest → NoMore t rest
side_reads true t rest s = blank_reads t rest s
side_reads false t rest s = white_reads t rest s

number_reads : (verbose : Bool) (t rest : Text) (n c : ℕ) → Number verbose t (c ∷ rest) n
    → NoMore t rest
number_reads verbose t rest n c k =
    let first = side_reads verbose t k.first k.before in
    let digits = spaced_reads verbose _ k.digits k.first k.last k.written in
    let last = side_reads verbose k.last (c ∷ rest) k.after in
    then_read first (then_read digits (then_read last (past_first c rest)))

counted_reads : {verbose : Bool} {t rest : Text} {least : ℕ} {most : Option ℕ}
    → Counted verbose t rest least most → NoMore t rest
counted_reads {verbose} {t} {rest} {least} (exactly k e) = number_reads verbose t rest least _ k
counted_reads {verbose} {t} {rest} {least} (at_least past k g e) =
    then_read (number_reads verbose t past least _ k) (gap_and_one verbose past rest _ g)
counted_reads {verbose} {t} {rest} {least} (between past n k m order e) =
    then_read (number_reads verbose t past least _ k) (number_reads verbose past rest n _ m)

pub operator_reads : {flags : Flags} {t rest : Text} {least : ℕ} {most : Option ℕ} {greedy : Bool}
    → Operator flags t rest least most greedy → NoMore t rest
operator_reads (uncounted c e b n g) = one_read e
operator_reads {rest} (uncounted_lazy c e b g) = then_read (one_read e) (past_first _ rest)
operator_reads (counted opened e k n g) = then_read (one_read e) (counted_reads k)
operator_reads {flags} {rest} (counted_lazy opened past e k q g) =
    then_read (then_read (one_read e) (counted_reads k))
    (gap_and_one flags.ignore_whitespace past rest _ q)

-- escapes
hexadecimal_reads : {verbose : Bool} {n : ℕ} {t rest : Text} {c : ℕ}
    → Hexadecimal verbose n t rest c → NoMore t rest
hexadecimal_reads {verbose} {t} {rest} (fixed d) = spaced_reads verbose _ d.digits t rest d.written
hexadecimal_reads {verbose} {t} {rest} (braced opened g d) =
    let digits = spaced_reads verbose _ d.digits opened d.last d.written in
    then_read (gap_and_one verbose t opened _ g)
    (then_read digits (gap_and_one verbose d.last rest _ d.closes))

boundary_reads : {verbose : Bool} {t rest : Text} {look : Look} → WordBoundary verbose t rest look
    → NoMore t rest
boundary_reads (alone n e is) = nothing_read e
boundary_reads (before_count opened b k e is) = nothing_read e
boundary_reads {verbose} {t} {rest} (boundary_named opened e b) =
    let name = spaced_reads verbose _ b.name opened b.last b.written in
    then_read (one_read e) (then_read name (gap_and_one verbose b.last rest _ b.closes))

escape_from_reads : (k : EscapeKind) (verbose : Bool) (t rest : Text) (p : Primitive)
    → EscapeFrom k verbose t rest p → NoMore t rest
escape_from_reads (gives q) verbose t rest p d = nothing_read d.0
escape_from_reads word_boundary verbose t rest p d = boundary_reads d.1
escape_from_reads (hexadecimal n) verbose t rest p d = hexadecimal_reads d.1
escape_from_reads refused verbose t rest p d = absurd d

escape_reads : (verbose : Bool) (t rest : Text) (p : Primitive) → Escape verbose t rest p
    → NoMore t rest
escape_reads verbose t rest p d =
    then_read (one_read d.begins)
    (escape_from_reads (escape_kind d.first) verbose d.past_first rest p d.goes_on)

-- bracketed classes
part_reads : (verbose : Bool) (t rest : Text) (p : Primitive) → ClassElement verbose t rest p
    → NoMore t rest
part_reads verbose t rest p (literal c e n w h) = one_read e
part_reads verbose t rest p (escaped past e d) =
    then_read (one_read e) (escape_reads verbose past rest p d)

follows_reads : {verbose : Bool} {t last : Text} → RangeFollows verbose t last → NoMore t last
follows_reads {verbose} {t} {last} f =
    then_read (gap_and_one verbose t f.past_dash _ f.dashed.0)
    (gap_reads verbose f.past_dash last f.gap.0)

negation_reads : (negated : Bool) (t begin : Text)
    → t ≡ (if negated then the "^" ∷ begin else begin) → NoMore t begin
negation_reads true t begin e = one_read e
negation_reads false t begin e = nothing_read e

named_class_reads : {t rest : Text} {negated : Bool} {set : SetName} → NamedClass t rest negated set
    → NoMore t rest
named_class_reads {t} {rest} {negated} n =
    let opens = then_read (one_read n.opens) (past_first _ n.opened) in
    let name = then_read (negation_reads negated n.opened n.begin n.negation)
    (spelled_reads n.name n.begin n.end n.written) in
    then_read opens (then_read name (then_read (one_read n.closes) (past_first _ rest)))

pub item_reads : {verbose : Bool} {t rest : Text} {s : Set} → ClassItem verbose t rest s
    → NoMore t rest
item_reads (named_class negated set n is) = named_class_reads n
item_reads {verbose} {t} {rest} (character c i p o is) = part_reads verbose t rest _ p
item_reads {verbose} {t} {rest} (escaped_set set i p o is) = part_reads verbose t rest _ p
item_reads {verbose} {t} {rest} (range start end past last i p f q order is) =
    then_read (part_reads verbose t past _ p)
    (then_read (follows_reads f) (part_reads verbose last rest _ q))

takes_reads : {verbose : Bool} {c : ℕ} {t rest : Text} {taken : Bool} → Takes verbose c t rest taken
    → NoMore t rest
takes_reads {verbose} {rest} (takes past e g is) =
    then_read (one_read e) (gap_reads verbose past rest g.0)
takes_reads (leaves n e is) = nothing_read e

dashes_read : (verbose : Bool) (n : ℕ) (t rest : Text) → Dashes verbose n t rest → NoMore t rest
dashes_read verbose zero t rest d = nothing_read d.0
dashes_read verbose (suc n) t rest d =
    let first = then_read (one_read d.2) (gap_reads verbose d.0 d.1 d.3.0) in
    then_read first (dashes_read verbose n d.1 rest d.4)

bracket_reads : (verbose : Bool) (n : ℕ) (t rest : Text) (taken : Bool)
    → FirstBracket verbose n t rest taken → NoMore t rest
bracket_reads verbose zero t rest taken b = takes_reads b
bracket_reads verbose (suc n) t rest taken b = nothing_read b.0

items_read : (verbose : Bool) (sets : List Set) (t rest : Text) → ClassItems verbose sets t rest
    → NoMore t rest
items_read verbose [] t rest d = one_read d
items_read verbose (s ∷ sets) t rest d =
    let first = then_read (item_reads d.2) (gap_reads verbose d.0 d.1 d.3.0) in
    then_read first (items_read verbose sets d.1 rest d.4)

pub opening_read : {verbose : Bool} {t rest : Text} {negated dash bracket : Bool}
    → ClassOpening verbose t rest negated dash bracket → NoMore t rest
opening_read {verbose} {t} {rest} {negated} {dash} {bracket} o =
    let opened = then_read (one_read o.opens) (gap_reads verbose o.opened o.first o.gap.0) in
    let dashes = dashes_read verbose o.dashes o.past_caret o.past_dashes o.dashed in
    let brackets = bracket_reads verbose o.dashes o.past_dashes rest bracket o.bracketed in
    then_read opened (then_read (takes_reads o.negation) (then_read dashes brackets))

class_reads : (insensitive verbose : Bool) (t rest : Text) (s : Set)
    → BracketedClass insensitive verbose t rest s → NoMore t rest
class_reads insensitive verbose t rest s c =
    then_read (opening_read c.opening) (items_read verbose c.sets c.past_opening rest c.items)

atom_from_reads : (k : AtomKind) (flags : Flags) (t past rest : Text) (a : Tree) → NoMore t past
    → AtomFrom k flags t past rest a → NoMore t rest
atom_from_reads (single p) flags t past rest a first d = then_read first (nothing_read d.0)
atom_from_reads escape flags t past rest a first d =
    then_read first (escape_reads flags.ignore_whitespace past rest d.0 d.1)
atom_from_reads bracketed flags t past rest a first d =
    class_reads flags.case_insensitive flags.ignore_whitespace t rest d.0 d.1
atom_from_reads no_atom flags t past rest a first d = absurd d

pub atom_reads : (flags : Flags) (t rest : Text) (a : Tree) → Atom flags t rest a → NoMore t rest
atom_reads flags t rest a d =
    atom_from_reads (atom_kind flags d.first) flags t d.past_first rest a
    (one_read d.begins) d.goes_on

-- flags and names
pub letters_read : {old new : Flags} {t rest : Text} → FlagLetters old t rest new → NoMore t rest
letters_read {t} {rest} (setting on p all differ e) = spelled_reads on t rest p
letters_read {t} {rest} (clearing on off past p q some all all_off differ e) =
    let set = then_read (spelled_reads on t _ p) (past_first _ past) in
    then_read set (spelled_reads off past rest q)

opening_reads : {t past : Text} → NameOpening t past → NoMore t past
opening_reads {past} (with_p e) =
    then_read (one_read e) (then_read (past_first _ _) (past_first _ past))
opening_reads {past} (without_p e) = then_read (one_read e) (past_first _ past)

pub named_reads : {t rest name : Text} → Named t rest name → NoMore t rest
named_reads {rest} {name} n =
    let called = then_read (spelled_reads name n.past _ n.called.written) (past_first _ rest) in
    then_read (opening_reads n.opens) called
