-- White space and comments, as they are passed character by character.
use Rattle.regex_lite_syntax.proofs.Common.{◌≡◌, ℕ, Bool, true, false, ◌≢◌, ◌⊎◌, [], ◌∷◌, ◌++◌}
use Rattle.regex_lite_syntax.proofs.Common.{IsTrue, sym, refl, ap, subst, inl, inr, and_from}
use Rattle.regex_lite_syntax.proofs.Common.{and_parts, both_ways, ne_eqb, not_from_false}
use Rattle.regex_lite_syntax.proofs.Common.{AllPass-from_list_all, list_all-from_AllPass, list_all}
use Rattle.regex_lite_syntax.proofs.Common.{is_white_space, Spacing, no_more, Text, the}
use Rattle.regex_lite_syntax.specs.Grammar.Gaps.{is_in_comment, SpacingPiece, white_space}
use Rattle.regex_lite_syntax.specs.Grammar.Gaps.{comment, last_comment, further}

-- white space and comments, character by character: whether a comment is open where they begin
abbrev pub Scan : (in_comment : Bool) → (t rest : Text) → Type 0
Scan in_comment [] rest = rest ≡ []
Scan false (c ∷ t) rest =
    (rest ≡ c ∷ t)
    ⊎ ((IsTrue (is_white_space c) × Scan false t rest) ⊎ ((c ≡ the "#") × Scan true t rest))
Scan true (c ∷ t) rest =
    ((c ≡ the "\n") × Scan false t rest) ⊎ ((c ≢ the "\n") × Scan true t rest)

-- the rest of a comment that is open, and what stands past it
data CommentLeft (t rest : Text) : Type 0 where
  to_line_feed : (written past : Text) → t ≡ written ++ the "\n" ∷ past
      → IsTrue (list_all is_in_comment written) → Spacing past rest → CommentLeft t rest
  to_end : IsTrue (list_all is_in_comment t) → rest ≡ [] → CommentLeft t rest

abbrev Left : (in_comment : Bool) → (t rest : Text) → Type 0
Left false t rest = Spacing t rest
Left true t rest = CommentLeft t rest

comment_piece : (c : ℕ) (t rest : Text) → c ≡ the "#" → CommentLeft t rest → Spacing (c ∷ t) rest
comment_piece c t rest sign (to_line_feed written past e all more) =
    let here : c ∷ t ≡ the "#" ∷ written ++ the "\n" ∷ past = cc (sign, e) in
    further past (comment written here (AllPass-from_list_all is_in_comment written all)) more
comment_piece c t rest sign (to_end all e) =
    further []
    (last_comment t (ap (λ d. d ∷ t) sign) refl (AllPass-from_list_all is_in_comment t all))
    (no_more (sym e))

longer_comment : (c : ℕ) (t rest : Text) → c ≢ the "\n" → CommentLeft t rest
    → CommentLeft (c ∷ t) rest
longer_comment c t rest other (to_line_feed written past e all more) =
    to_line_feed (c ∷ written) past (ap (λ u. c ∷ u) e)
    (and_from _ _ (not_from_false _ (ne_eqb c _ other)) all) more
longer_comment c t rest other (to_end all e) =
    to_end (and_from _ _ (not_from_false _ (ne_eqb c _ other)) all) e

-- what is passed so is pieces
left_of_scan : (in_comment : Bool) (t rest : Text) → Scan in_comment t rest → Left in_comment t rest
left_of_scan false [] rest s = no_more (sym s)
left_of_scan true [] rest s = to_end refl s
left_of_scan false (c ∷ t) rest (inl s) = no_more (sym s)
left_of_scan false (c ∷ t) rest (inr (inl s)) =
    further t (white_space c refl s.0) (left_of_scan false t rest s.1)
left_of_scan false (c ∷ t) rest (inr (inr s)) =
    comment_piece c t rest s.0 (left_of_scan true t rest s.1)
left_of_scan true (c ∷ t) rest (inl s) =
    to_line_feed [] t (ap (λ d. d ∷ t) s.0) refl (left_of_scan false t rest s.1)
left_of_scan true (c ∷ t) rest (inr s) = longer_comment c t rest s.0 (left_of_scan true t rest s.1)

pub spacing_of_scan : (t rest : Text) → Scan false t rest → Spacing t rest
spacing_of_scan t rest s = left_of_scan false t rest s

-- and pieces are passed so
pub scan_nothing : (t : Text) → Scan false t t
scan_nothing [] = refl
scan_nothing (c ∷ t) = inl refl

in_comment_differs : (c : ℕ) → IsTrue (is_in_comment c) → c ≢ the "\n"
in_comment_differs c is e = both_ways _ (ap is_in_comment e) is

scan_comment : (written past rest : Text) → IsTrue (list_all is_in_comment written)
    → Scan false past rest → Scan true (written ++ the "\n" ∷ past) rest
scan_comment [] past rest all s = inl (refl, s)
scan_comment (c ∷ written) past rest all s =
    inr (
      in_comment_differs c (and_parts _ _ all).0,
      scan_comment written past rest (and_parts _ _ all).1 s,
    )

scan_last : (written : Text) → IsTrue (list_all is_in_comment written) → Scan true written []
scan_last [] all = refl
scan_last (c ∷ written) all =
    inr (in_comment_differs c (and_parts _ _ all).0, scan_last written (and_parts _ _ all).1)

scan_piece : (t past rest : Text) → SpacingPiece t past → Scan false past rest → Scan false t rest
scan_piece t past rest (white_space c e is) s =
    subst (λ u. Scan false u rest) (sym e) (inr (inl (is, s)))
scan_piece t past rest (comment written e all) s =
    subst (λ u. Scan false u rest) (sym e) (inr (inr
    (refl, scan_comment written past rest (list_all-from_AllPass is_in_comment written all) s)))
scan_piece t past rest (last_comment written e none all) s =
    let ended : rest ≡ [] = subst (λ u. Scan false u rest) none s in
    subst (λ u. Scan false u rest) (sym e) (inr (inr (
      refl,
      subst (λ u. Scan true written u) (sym ended)
          (scan_last written (list_all-from_AllPass is_in_comment written all)),
    )))

pub scan_of_spacing : (t rest : Text) → Spacing t rest → Scan false t rest
scan_of_spacing t rest (no_more e) = subst (λ u. Scan false t u) e (scan_nothing t)
scan_of_spacing t rest (further past piece more) =
    scan_piece t past rest piece (scan_of_spacing past rest more)
