-- Lists of entries: going on from each is associative, and so is laying marks over others.
use Rattle.regex_lite_engine.proofs.Common.{◌≡◌, ℕ, List, [], ◌∷◌, ◌++◌, map, Some, None, Option}
use Rattle.regex_lite_engine.proofs.Common.{sym, refl, ap, ◌∙◌, append_assoc, append-nil}
use Rattle.regex_lite_engine.proofs.Common.{map-append, option_or, Marks, no_marks, marked, over}
use Rattle.regex_lite_engine.proofs.Common.{Entry, after_marks, onward, stop}

pub either_assoc : (a b c : Option ℕ) → option_or (option_or a b) c ≡ option_or a (option_or b c)
either_assoc None b c = refl
either_assoc (Some a) b c = refl

pub either_none : (a : Option ℕ) → option_or a None ≡ a
either_none None = refl
either_none (Some a) = refl

pub over_assoc : (a b c : Marks) → over (over a b) c ≡ over a (over b c)
over_assoc a b c = λ t slot. either_assoc (a slot) (b slot) (c slot) t

pub over_none : (a : Marks) → over a no_marks ≡ a
over_none a = λ t slot. either_none (a slot) t

pub over_unmarked : (a : Marks) (i : ℕ) → over a (marked None i) ≡ a
over_unmarked a i = λ t slot. either_none (a slot) t

-- marks of none change nothing
pub after_none : (marks : Marks) → ((a : Marks) → over a marks ≡ a) → (list : List Entry)
    → map (after_marks marks) list ≡ list
after_none marks none [] = refl
after_none marks none (e ∷ list) =
    let first : after_marks marks e ≡ e = ap (λ (m : Marks). (e.0, m)) (none e.1) in
    let later = after_none marks none list in
    cc (first, later)

pub after_both : (first later : Marks) (list : List Entry)
    → map (after_marks first) (map (after_marks later) list)
    ≡ map (after_marks (over later first)) list
after_both first later [] = refl
after_both first later (e ∷ list) =
    let here : after_marks first (after_marks later e) ≡ after_marks (over later first) e
    = ap (λ (m : Marks). (e.0, m)) (over_assoc e.1 later first) in
    let rest = after_both first later list in
    cc (here, rest)

pub onward_append : (xs ys : List Entry) (next : ℕ → List Entry)
    → onward (xs ++ ys) next ≡ onward xs next ++ onward ys next
onward_append [] ys next = refl
onward_append (e ∷ xs) ys next =
    ap (λ list. map (after_marks e.1) (next e.0) ++ list) (onward_append xs ys next)
    ∙ sym (append_assoc (map (after_marks e.1) (next e.0)) (onward xs next) (onward ys next))

pub onward_after : (marks : Marks) (list : List Entry) (next : ℕ → List Entry)
    → onward (map (after_marks marks) list) next ≡ map (after_marks marks) (onward list next)
onward_after marks [] next = refl
onward_after marks (e ∷ list) next =
    let here = sym (after_both marks e.1 (next e.0)) in
    let parts = ap (λ first. first ++ onward (map (after_marks marks) list) next) here in
    let later = ap (λ rest. map (after_marks marks) (map (after_marks e.1) (next e.0)) ++ rest)
    (onward_after marks list next) in
    parts ∙ later
    ∙ sym (map-append (after_marks marks) (map (after_marks e.1) (next e.0)) (onward list next))

pub onward_assoc : (list : List Entry) (next further : ℕ → List Entry)
    → onward (onward list next) further ≡ onward list (λ j. onward (next j) further)
onward_assoc [] next further = refl
onward_assoc (e ∷ list) next further =
    let first = map (after_marks e.1) (next e.0) in
    onward_append first (onward list next) further
    ∙ ap (λ xs. xs ++ onward (onward list next) further) (onward_after e.1 (next e.0) further)
    ∙ ap (λ xs. map (after_marks e.1) (onward (next e.0) further) ++ xs)
    (onward_assoc list next further)

-- where nothing follows
pub onward_nothing : (list : List Entry) → onward list (λ j. []) ≡ []
onward_nothing [] = refl
onward_nothing (e ∷ list) = onward_nothing list

pub onward_stop : (i : ℕ) (next : ℕ → List Entry) → onward (stop i) next ≡ next i
onward_stop i next =
    append-nil (map (after_marks no_marks) (next i)) ∙ after_none no_marks over_none (next i)

-- where it stops, nothing changes
pub onward_stops : (list : List Entry) → onward list stop ≡ list
onward_stops [] = refl
onward_stops (e ∷ list) = ap (λ rest. e ∷ rest) (onward_stops list)
