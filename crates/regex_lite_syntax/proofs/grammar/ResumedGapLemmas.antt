-- A gap at the end of a pattern that goes on.
use Rattle.regex_lite_syntax.proofs.Common.{◌≡◌, Bool, true, false, [], ◌∷◌, ◌++◌, refl, subst, inl}
use Rattle.regex_lite_syntax.proofs.Common.{inr, AreCharacters, Gap, Text, the}
use Rattle.regex_lite_syntax.proofs.grammar.ScanLemmas.{Scan, scan_of_spacing, spacing_of_scan}
use Rattle.regex_lite_syntax.proofs.grammar.ScanLemmas.{scan_nothing}

-- what goes on after a gap at the end: in verbose mode a line feed, which ends a comment
abbrev pub resumed : (verbose : Bool) → Text
resumed true = the "\n" ∷ []
resumed false = []

pub resumed_characters : (verbose : Bool) (t : Text) → AreCharacters t
    → AreCharacters (resumed verbose ++ t)
resumed_characters true t all = (refl, all)
resumed_characters false t all = all

scan_resumed : (in_comment : Bool) (t next : Text) → Scan in_comment t []
    → Scan in_comment (t ++ the "\n" ∷ next) next
scan_resumed false [] next s = inr (inl (refl, scan_nothing next))
scan_resumed true [] next s = inl (refl, scan_nothing next)
scan_resumed false (c ∷ t) next (inl s) = absurd (cc s)
scan_resumed false (c ∷ t) next (inr (inl s)) = inr (inl (s.0, scan_resumed false t next s.1))
scan_resumed false (c ∷ t) next (inr (inr s)) = inr (inr (s.0, scan_resumed true t next s.1))
scan_resumed true (c ∷ t) next (inl s) = inl (s.0, scan_resumed false t next s.1)
scan_resumed true (c ∷ t) next (inr s) = inr (s.0, scan_resumed true t next s.1)

-- past a gap that led to the end stands what follows
pub gap_resumed : (verbose : Bool) (t next : Text) → Gap verbose t []
    → Gap verbose (t ++ (resumed verbose ++ next)) next
gap_resumed true t next g =
    spacing_of_scan (t ++ the "\n" ∷ next) next (scan_resumed false t next (scan_of_spacing t [] g))
gap_resumed false t next g = subst (λ u. next ≡ u ++ next) g refl
