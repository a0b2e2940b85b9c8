-- Names of looks that the pattern ends inside.
use Rattle.regex_lite_syntax.proofs.Common.{◌≡◌, ℕ, Bool, [], ◌∷◌, ◌++◌, IsTrue, Some, sym, refl}
use Rattle.regex_lite_syntax.proofs.Common.{ap, ◌∙◌, subst, append_assoc, arith, and_parts}
use Rattle.regex_lite_syntax.proofs.Common.{nat_tests, list_all-append, list_all, is_character}
use Rattle.regex_lite_syntax.proofs.Common.{is_boundary_character, boundary_named, BoundaryName}
use Rattle.regex_lite_syntax.proofs.Common.{Gap, WholeGap, Spaced, EndsInName, Completable, Text}
use Rattle.regex_lite_syntax.proofs.Common.{Begins, the, Look}
use Rattle.regex_lite_syntax.proofs.ListLemmas.{same_head, same_tail}
use Rattle.regex_lite_syntax.proofs.grammar.GapLemmas.{gap_once, gap_to_end}
use Rattle.regex_lite_syntax.proofs.grammar.LongerGapLemmas.{gap_before, spaced_longer}
use Rattle.regex_lite_syntax.proofs.grammar.SpacedLemmas.{boundary_characters_end, brace_or_other}
use Rattle.regex_lite_syntax.proofs.grammar.SpacedLemmas.{next_spaced, spaced_begins}
use Rattle.regex_lite_syntax.proofs.grammar.CompletedGapLemmas.{spaced_on, spaced_further}
use Rattle.regex_lite_syntax.proofs.grammar.CompletedGapLemmas.{gap_completed}
use Rattle.regex_lite_syntax.proofs.grammar.ResumedGapLemmas.{resumed, resumed_characters}
use Rattle.regex_lite_syntax.proofs.grammar.WordLemmas.{all_characters}
use Rattle.regex_lite_syntax.proofs.CharacterLemmas.{joined_are}

-- where no letter stands, the text ends before the first
pub ends_at_start : (verbose : Bool) (name t : Text) → Gap verbose t [] → EndsInName verbose name t
ends_at_start verbose name t gap = record {
  letters = [];
  left = name;
  last = t;
  whole = refl;
  written = refl;
  ends = gap;
}

-- no name has no letters, so the text ends there
pub ends_past_all : (verbose : Bool) (name t : Text) → name ≡ [] → EndsInName verbose name t
    → Gap verbose t []
ends_past_all verbose name t none e = go e.letters (sym e.whole ∙ none) e.written
  where
    go : (letters : Text) → letters ++ e.left ≡ []
        → Spaced verbose is_boundary_character letters t e.last → Gap verbose t []
    go [] whole written = subst (λ u. Gap verbose u []) (sym written) e.ends
    go (c ∷ letters) whole written = absurd (cc whole)

-- past the first letter it ends inside the others
pub ends_after : (verbose : Bool) (l : ℕ) (name t u past : Text) → WholeGap verbose t u
    → u ≡ l ∷ past → EndsInName verbose (l ∷ name) t → EndsInName verbose name past
ends_after verbose l name t u past whole here e = go e.letters e.whole e.written
  where
    go : (letters : Text) → l ∷ name ≡ letters ++ e.left
        → Spaced verbose is_boundary_character letters t e.last → EndsInName verbose name past
    go [] all written =
        let ended = gap_to_end verbose t u whole
        (subst (λ v. Gap verbose v []) (sym written) e.ends) in
        cc (ended, here)
    go (c ∷ letters) all written = record {
      letters = letters;
      left = e.left;
      last = e.last;
      whole = same_tail all;
      written = (next_spaced verbose is_boundary_character l c letters t u past e.last
          boundary_characters_end whole here written).1;
      ends = e.ends;
    }

pub ends_before : (verbose : Bool) (l : ℕ) (name t u past : Text) → WholeGap verbose t u
    → u ≡ l ∷ past → IsTrue (is_boundary_character l) → EndsInName verbose name past
    → EndsInName verbose (l ∷ name) t
ends_before verbose l name t u past whole here is e = record {
  letters = l ∷ e.letters;
  left = e.left;
  last = e.last;
  whole = ap (λ v. l ∷ v) e.whole;
  written = (past, subst (λ v. Gap verbose t v) here whole.0, is, e.written);
  ends = e.ends;
}

-- where another character stands, it doesn't end inside the name
pub ends_elsewhere : (verbose : Bool) (l : ℕ) (name t u : Text) → WholeGap verbose t u
    → (u ≡ [] → ⊥) → (Begins l u → ⊥) → EndsInName verbose (l ∷ name) t → ⊥
ends_elsewhere verbose l name t u whole some other e = go e.letters e.whole e.written
  where
    go : (letters : Text) → l ∷ name ≡ letters ++ e.left
        → Spaced verbose is_boundary_character letters t e.last → ⊥
    go [] all written = some (gap_to_end verbose t u whole
        (subst (λ v. Gap verbose v []) (sym written) e.ends))
    go (c ∷ letters) all written = other (subst (λ d. Begins d u) (sym (same_head all))
        (spaced_begins verbose is_boundary_character c letters t u e.last
        boundary_characters_end whole written))

-- it ends inside each name that begins with this one
pub ends_in_longer_name : (verbose : Bool) (name more t : Text) → EndsInName verbose name t
    → EndsInName verbose (name ++ more) t
ends_in_longer_name verbose name more t e = record {
  letters = e.letters;
  left = e.left ++ more;
  last = e.last;
  whole = ap (λ u. u ++ more) e.whole ∙ append_assoc e.letters e.left more;
  written = e.written;
  ends = e.ends;
}

-- where letters stand up to the end, they begin the name of each longer text
begins_with : (verbose : Bool) (ls ds t last more last' rest : Text)
    → Spaced verbose is_boundary_character ls t last
    → Spaced verbose is_boundary_character ds (t ++ more) last' → Gap verbose last' (the "}" ∷ rest)
    → (left : Text) × (ds ≡ ls ++ left)
begins_with verbose [] ds t last more last' rest a b closes = (ds, refl)
begins_with verbose (l ∷ ls) [] t last more last' rest a b closes =
    absurd (brace_or_other verbose is_boundary_character (t ++ more) (a.0 ++ more) rest l
    boundary_characters_end refl (gap_before more verbose t a.0 l a.1) a.2
    (subst (λ v. Gap verbose v (the "}" ∷ rest)) (sym b) closes))
begins_with verbose (l ∷ ls) (d ∷ ds) t last more last' rest a b closes =
    let first = gap_once verbose (t ++ more) _ _ (gap_before more verbose t a.0 l a.1) b.1
    (boundary_characters_end l (a.0 ++ more) a.2) (boundary_characters_end d b.0 b.2) in
    let further = begins_with verbose ls ds a.0 last more last' rest a.3
    (subst (λ v. Spaced verbose is_boundary_character ds v last') (sym (same_tail first)) b.3)
    closes in
    (further.0, cc (same_head first, further.1))

pub ends_in_its_name : (verbose : Bool) (ls t last more rest : Text) (look : Look)
    → Spaced verbose is_boundary_character ls t last → Gap verbose last []
    → (b : BoundaryName verbose (t ++ more) rest look) → EndsInName verbose b.name t
ends_in_its_name verbose ls t last more rest look written ends b =
    let begun = begins_with verbose ls b.name t last more b.last rest written b.written b.closes in
    record {
      letters = ls;
      left = begun.0;
      last = last;
      whole = begun.1;
      written = written;
      ends = ends;
    }

-- the letters that are left and the brace that closes complete the name
letter_is_character : (c : ℕ) → IsTrue (is_boundary_character c) → IsTrue (is_character c)
letter_is_character c is = grind (arith, nat_tests)

abbrev Name : (verbose : Bool) → (t rest : Text) → Type 0
Name verbose t rest = (look : Look) × BoundaryName verbose t rest look

pub name_completable : (verbose : Bool) (name t : Text) (look : Look)
    → IsTrue (list_all is_boundary_character name) → boundary_named name ≡ Some look
    → EndsInName verbose name t → Completable (Name verbose) t
name_completable verbose name t look all named e = record {
  more = more;
  characters = resumed_characters verbose (e.left ++ the "}" ∷ [])
      (joined_are e.left (the "}" ∷ [])
      (all_characters is_boundary_character e.left letter_is_character of_left) (refl, tt));
  reads = λ next. (look, completed next);
}
  where
    more : Text
    more = resumed verbose ++ (e.left ++ the "}" ∷ [])

    of_left : IsTrue (list_all is_boundary_character e.left)
    of_left = (and_parts (list_all is_boundary_character e.letters)
        (list_all is_boundary_character e.left)
        (sym (list_all-append is_boundary_character e.letters e.left)
        ∙ subst (λ u. IsTrue (list_all is_boundary_character u)) e.whole all)).1

    completed : (next : Text) → BoundaryName verbose (t ++ (more ++ next)) next look
    completed next =
        let further =
        spaced_on verbose is_boundary_character e.left (e.last ++ (more ++ next)) (the "}" ∷ next)
        of_left (subst (λ u. Gap verbose (e.last ++ (more ++ next)) u)
        (append_assoc e.left (the "}" ∷ []) next)
        (gap_completed verbose e.last (e.left ++ the "}" ∷ []) next e.ends)) in
        record {
          name = e.letters ++ e.left;
          last = further.0;
          written =
              spaced_further verbose is_boundary_character e.letters e.left (t ++ (more ++ next))
              (e.last ++ (more ++ next)) further.0
              (spaced_longer (more ++ next) verbose is_boundary_character e.letters t e.last
              e.written) further.1;
          closes = further.2;
          named = ap boundary_named (sym e.whole) ∙ named;
        }
