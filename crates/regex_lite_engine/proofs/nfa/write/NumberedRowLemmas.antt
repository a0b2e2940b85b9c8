-- The layout of a repetition is its row of the written-out pattern, where that of its body is.
use Rattle.regex_lite_engine.proofs.Common.{◌≡◌, ℕ, zero, suc, ◌+◌, ◌-◌, Bool, true, false, [], ◌∷◌}
use Rattle.regex_lite_engine.proofs.Common.{◌++◌, length, Some, None, Option, sym, refl, ap, ◌∙◌}
use Rattle.regex_lite_engine.proofs.Common.{subst, append-nil, arith, Address, part, own, choice}
use Rattle.regex_lite_engine.proofs.Common.{Content, next_copy, in_copies, no_place, exactly_row}
use Rattle.regex_lite_engine.proofs.Common.{choice_at, in_choices, bounded_row, repetition_row}
use Rattle.regex_lite_engine.proofs.Common.{copies_layout, choices_layout, star_layout}
use Rattle.regex_lite_engine.specs.Graph.Places.{Place}
use Rattle.regex_lite_engine.specs.Graph.Addresses.{repetition_entry}
use Rattle.regex_lite_engine.specs.Graph.Repetitions.{next_choice}
use Rattle.regex_lite_engine.specs.Nfa.Repetitions.{bounded_layout, repetition_layout}
use Rattle.regex_lite_engine.proofs.graph.AddressLemmas.{own_place, in_part, copies_addresses}
use Rattle.regex_lite_engine.proofs.graph.AddressLemmas.{choices_addresses, bounded_addresses}
use Rattle.regex_lite_engine.proofs.graph.AddressLemmas.{repetition_addresses}
use Rattle.regex_lite_engine.proofs.graph.CopyRowLemmas.{PartsAre, parts_from_0, first_part}
use Rattle.regex_lite_engine.proofs.graph.CopyRowLemmas.{later_parts, copy_last, next_before}
use Rattle.regex_lite_engine.proofs.graph.CopyRowLemmas.{copies_before, after_copies}
use Rattle.regex_lite_engine.proofs.nfa.write.NumberingLemmas.{Numbering, Body, Stands, InRow}
use Rattle.regex_lite_engine.proofs.nfa.write.NumberingLemmas.{AreAt, Fits, both_at, row_first}
use Rattle.regex_lite_engine.proofs.nfa.write.NumberingLemmas.{row_after, fits_part}
use Rattle.regex_lite_engine.proofs.nfa.write.NumberingLemmas.{fits_before, fits_last}
use Rattle.regex_lite_engine.proofs.nfa.write.NumberedPlaceLemmas.{go_at, chosen_at}

module _ (by : Numbering) (pre : Address) (greedy : Bool) (b : Body by) where
  -- the words of the written-out pattern, for this repetition
  abbrev next : (left k : ℕ) → (exit : Address) → Address
  next = next_copy pre greedy b.enter b.inside

  abbrev row : (left k : ℕ) → (exit : Address) → (rest : ℕ → Address → Content) → ℕ → Address
      → Content
  row = in_copies pre greedy b.enter b.inside

  abbrev nowhere : ℕ → Address → Content
  nowhere = no_place pre greedy b.enter b.inside

  abbrev choices : (left k j : ℕ) → Content
  choices = choice_at pre greedy b.enter b.inside

  abbrev turns : (left k j : ℕ) → ℕ → Address → Content
  turns = in_choices pre greedy b.enter b.inside

  abbrev choice_of : ℕ → Address → Place Address
  choice_of k other = choice greedy (b.enter (part pre k)) other

  -- from choice j on, what stands there is given by these choices
  abbrev ChoicesAre : (content : Address → Content) → ℕ → (given : ℕ → Content) → Type 0
  ChoicesAre content j given = (i : ℕ) → content (own_place (suc (suc (j + i)))) ≡ given i

  choices_from_0 : (content : Address → Content) (given : ℕ → Content)
      → ((i : ℕ) → content (own_place (suc (suc i))) ≡ given i) → ChoicesAre content 0 given
  choices_from_0 content given e i =
      let same : i ≡ 0 + i = omega arith in
      subst (λ m. content (own_place (suc (suc m))) ≡ given i) same (e i)

  first_choice : (content : Address → Content) (j : ℕ) (given : ℕ → Content)
      → ChoicesAre content j given → content (own_place (suc (suc j))) ≡ given 0
  first_choice content j given e =
      let same : j + 0 ≡ j = omega arith in
      subst (λ m. content (own_place (suc (suc m))) ≡ given 0) same (e 0)

  later_choices : (content : Address → Content) (j : ℕ) (given : ℕ → Content)
      → ChoicesAre content j given → ChoicesAre content (suc j) (λ i. given (suc i))
  later_choices content j given e i =
      let same : j + suc i ≡ suc j + i = omega arith in
      subst (λ m. content (own_place (suc (suc m))) ≡ given (suc i)) same (e (suc i))

  fits_copies : (n k : ℕ) (after : Address) (rest : ℕ → Address → Content)
      (content : Address → Content) (base exit : ℕ) → PartsAre content k (row n k after rest)
      → Stands by exit after → InRow by pre base (copies_addresses b.list n k)
      → Fits by content (copies_addresses b.list n k) (next n k after)
      (copies_layout b.layout n base exit)
  fits_copies zero k after rest content base exit e stands in_row = (stands, tt)
  fits_copies (suc n) k after rest content base exit e stands in_row =
      let here = row (suc n) k after rest in
      let others = copies_addresses b.list n (suc k) in
      let written = copies_layout b.layout n base exit in
      let in_row_later = row_first by pre base others (in_part k b.list) in_row in
      let e_later = later_parts content here k e in
      let later = fits_copies n (suc k) after rest content base exit e_later stands in_row_later in
      let e_here = first_part content here k e in
      fits_before by b pre (next n (suc k) after) k base content others written e_here later in_row

  -- a body in part k, which goes on to `after`, and the choice before it
  fits_turn : (after other : Address) (k j base exit join : ℕ) (content : Address → Content)
      → ((a : Address) → content (suc k ∷ a) ≡ b.inside (part pre k) after a)
      → content (own_place j) ≡ Some (choice_of k other)
      → Stands by exit after → Stands by join other
      → InRow by pre base (in_part k b.list ++ own_place j ∷ [])
      → Fits by content (in_part k b.list ++ own_place j ∷ []) (own pre j) (
        (b.layout base exit).0 ++ choice greedy (b.layout base exit).1 join ∷ [],
        base + length (b.layout base exit).0,
      )
  fits_turn after other k j base exit join content e e_choice stands stands_other in_row =
      let here = in_part k b.list in
      let in_row_here = row_first by pre base here (own_place j ∷ []) in_row in
      let one = fits_part by b pre after k base exit content e stands in_row_here in
      let written = b.layout base exit in
      let enter = b.enter (part pre k) in
      let at = chosen_at by content (own_place j) in
      let last = at greedy written.1 join enter other e_choice one.0 stands_other in
      fits_last by pre base content here (own_place j) written.0 _ one.1 last in_row

  fits_choices : (n k j : ℕ) (content : Address → Content) (base join : ℕ)
      → ChoicesAre content j (choices n k) → PartsAre content k (turns n k j)
      → Stands by join (own pre 1) → InRow by pre base (choices_addresses b.list n k j)
      → Fits by content (choices_addresses b.list n k j)
      (next_choice pre greedy b.enter b.inside n j) (choices_layout greedy b.layout n base join)
  fits_choices zero k j content base join e_choices e stands in_row = (stands, tt)
  fits_choices (suc n) k j content base join e_choices e stands in_row =
      let others = choices_addresses b.list n (suc k) (suc j) in
      let here = in_part k b.list ++ own_place (suc (suc j)) ∷ [] in
      let rest = choices_layout greedy b.layout n base join in
      let in_row_later = row_first by pre base others here in_row in
      let e_later = later_parts content (turns (suc n) k j) k e in
      let choices_later = later_choices content j (choices (suc n) k) e_choices in
      let ends = fits_choices n (suc k) (suc j) content base join choices_later e_later in
      let later = ends stands in_row_later in
      let in_row_here = row_after by pre base content others here rest.0 later.1 in_row in
      let now = base + length rest.0 in
      let after = next_choice pre greedy b.enter b.inside n (suc j) in
      let e_here = first_part content (turns (suc n) k j) k e in
      let e_choice = first_choice content j (choices (suc n) k) e_choices in
      let turn = fits_turn after (own pre 1) k (suc (suc j)) now rest.1 join content in
      let one = turn e_here e_choice later.0 stands in_row_here in
      (one.0, both_at by content others here rest.0 _ later.1 one.1)

  -- own place j is a choice, whose body leads back to it
  fits_star : (content : Address → Content) (j k : ℕ) (after : Address) (base exit : ℕ)
      → content (own_place j) ≡ Some (choice_of k after)
      → ((a : Address) → content (suc k ∷ a) ≡ b.inside (part pre k) (own pre j) a)
      → Stands by exit after → InRow by pre base (own_place j ∷ in_part k b.list)
      → Stands by (b.layout (base + 1) base).1 (b.enter (part pre k))
      × Fits by content (own_place j ∷ in_part k b.list) (own pre j)
      (star_layout greedy b.layout base exit)
  fits_star content j k after base exit e_choice e stands in_row =
      let one = fits_part by b pre (own pre j) k (base + 1) base content e in_row.0 in_row.1 in
      let inner = (b.layout (base + 1) base).1 in
      let enter = b.enter (part pre k) in
      let at = chosen_at by content (own_place j) in
      let first = at greedy inner exit enter after e_choice one.0 stands in
      (one.0, (in_row.0, (first, one.1)))

  abbrev BoundedFits : (least above : ℕ) (after : Address) (base exit : ℕ) → Type 0
  BoundedFits least above after base exit =
      Fits by (bounded_row pre greedy b.enter b.inside least above after)
      (bounded_addresses b.list least above) (repetition_entry pre b.enter least)
      (bounded_layout greedy b.layout least above base exit)

  fits_optional : (after : Address) (base exit : ℕ) → Stands by exit after
      → InRow by pre base (bounded_addresses b.list 0 1) → BoundedFits 0 1 after base exit
  fits_optional after base exit stands in_row =
      let content = bounded_row pre greedy b.enter b.inside 0 1 after in
      let join = go_at by content (own_place 1) exit after refl stands in
      let here = in_part 0 b.list ++ own_place 0 ∷ [] in
      let now = base + 1 + 0 in
      let same : base + 1 ≡ now = omega arith in
      let in_row_here = subst (λ m. InRow by pre m here) same in_row.1 in
      let turn = fits_turn (own pre 1) (own pre 1) 0 0 now base base content (λ a. refl) refl in
      let one = turn in_row.0 in_row.0 in_row_here in
      let written = b.layout now base in
      let nothing_more = append-nil (written.0 ++ choice greedy written.1 base ∷ []) in
      (one.0, (join, subst (λ ps. AreAt by content here ps) (sym nothing_more) one.1))

  fits_choices_alone : (d : ℕ) (after : Address) (base exit : ℕ) → Stands by exit after
      → InRow by pre base (bounded_addresses b.list 0 (suc (suc d)))
      → BoundedFits 0 (suc (suc d)) after base exit
  fits_choices_alone d after base exit stands in_row =
      let content = bounded_row pre greedy b.enter b.inside 0 (suc (suc d)) after in
      let join = go_at by content (own_place 1) exit after refl stands in
      let list = choices_addresses b.list (suc (suc d)) 0 0 in
      let written = choices_layout greedy b.layout (suc (suc d)) (base + 1) base in
      let e_choices = choices_from_0 content (choices (suc (suc d)) 0) (λ i. refl) in
      let e = parts_from_0 content (turns (suc (suc d)) 0 0) (λ c a. refl) in
      let in_row_here = row_first by pre (base + 1) list (own_place 0 ∷ []) in_row.1 in
      let ends = fits_choices (suc (suc d)) 0 0 content (base + 1) base e_choices e in
      let all = ends in_row.0 in_row_here in
      let last = go_at by content (own_place 0) written.1 (own pre 2) refl all.0 in
      let fits = fits_last by pre (base + 1) content list (own_place 0) written.0 _ all.1 last in
      let more = fits in_row.1 in
      (more.0, (join, more.1))

  fits_between : (n d : ℕ) (after : Address) (base exit : ℕ) → Stands by exit after
      → InRow by pre base (bounded_addresses b.list (suc n) (suc d))
      → BoundedFits (suc n) (suc d) after base exit
  fits_between n d after base exit stands in_row =
      let content = bounded_row pre greedy b.enter b.inside (suc n) (suc d) after in
      let join = go_at by content (own_place 1) exit after refl stands in
      let list = choices_addresses b.list (suc d) (suc n) 0 in
      let needed = copies_addresses b.list (suc n) 0 in
      let optional = turns (suc d) (suc n) 0 in
      let written = choices_layout greedy b.layout (suc d) (base + 1) base in
      let e_choices = choices_from_0 content (choices (suc d) (suc n)) (λ i. refl) in
      let e = after_copies pre greedy b.enter b.inside (suc n) 0 (own pre 2) optional in
      let in_row_first = row_first by pre (base + 1) list needed in_row.1 in
      let ends = fits_choices (suc d) (suc n) 0 content (base + 1) base e_choices e in
      let all = ends in_row.0 in_row_first in
      let now = base + 1 + length written.0 in
      let others_in_row = row_after by pre (base + 1) content list needed written.0 all.1 in
      let e_needed = parts_from_0 content (row (suc n) 0 (own pre 2) optional) (λ c a. refl) in
      let begins = fits_copies (suc n) 0 (own pre 2) optional content now written.1 e_needed in
      let copies = begins all.0 (others_in_row in_row.1) in
      (copies.0, (join, both_at by content list needed written.0 _ all.1 copies.1))

  fits_bounded : (least above : ℕ) (after : Address) (base exit : ℕ) → Stands by exit after
      → InRow by pre base (bounded_addresses b.list least above)
      → BoundedFits least above after base exit
  fits_bounded zero zero after base exit stands in_row =
      let content = bounded_row pre greedy b.enter b.inside 0 0 after in
      (in_row.0, (go_at by content (own_place 0) exit after refl stands, tt))
  fits_bounded (suc n) zero after base exit stands in_row =
      let content = exactly_row pre greedy b.enter b.inside (suc n) after in
      let e = parts_from_0 content (row (suc n) 0 after nowhere) (λ c a. refl) in
      fits_copies (suc n) 0 after nowhere content base exit e stands in_row
  fits_bounded zero (suc zero) after base exit stands in_row =
      fits_optional after base exit stands in_row
  fits_bounded zero (suc (suc d)) after base exit stands in_row =
      fits_choices_alone d after base exit stands in_row
  fits_bounded (suc n) (suc d) after base exit stands in_row =
      fits_between n d after base exit stands in_row

  abbrev RepetitionFits : (least : ℕ) (most : Option ℕ) (nullable_body : Bool) (after : Address)
      (base exit : ℕ) → Type 0
  RepetitionFits least most nullable_body after base exit =
      Fits by (repetition_row pre greedy b.enter b.inside least most nullable_body after)
      (repetition_addresses b.list least most nullable_body) (repetition_entry pre b.enter least)
      (repetition_layout greedy b.layout least most nullable_body base exit)

  fits_nullable_star : (after : Address) (base exit : ℕ) → Stands by exit after
      → InRow by pre base (repetition_addresses b.list 0 None true)
      → RepetitionFits 0 None true after base exit
  fits_nullable_star after base exit stands in_row =
      let content = repetition_row pre greedy b.enter b.inside 0 None true after in
      let join = go_at by content (own_place 2) exit after refl stands in
      let list = own_place 1 ∷ in_part 0 b.list in
      let in_row_star = row_first by pre (base + 1) list (own_place 0 ∷ []) in_row.1 in
      let plus = fits_star content 1 0 (own pre 2) (base + 1) base refl (λ a. refl) in
      let star = plus in_row.0 in_row_star in
      let written = star_layout greedy b.layout (base + 1) base in
      let inner = (b.layout (base + 1 + 1) (base + 1)).1 in
      let at = chosen_at by content (own_place 0) in
      let question = at greedy inner base (b.enter (part pre 0)) (own pre 2) refl star.0 in_row.0 in
      let fits = fits_last by pre (base + 1) content list (own_place 0) written.0 _ star.1.1 in
      let more = fits question in_row.1 in
      (more.0, (join, more.1))

  fits_at_least : (n : ℕ) (nullable_body : Bool) (after : Address) (base exit : ℕ)
      → Stands by exit after
      → InRow by pre base (repetition_addresses b.list (suc n) None nullable_body)
      → RepetitionFits (suc n) None nullable_body after base exit
  fits_at_least n nullable_body after base exit stands in_row =
      let content = repetition_row pre greedy b.enter b.inside (suc n) None nullable_body after in
      let list = own_place 0 ∷ in_part n b.list in
      let others = copies_addresses b.list n 0 in
      let same : 0 + n ≡ n = omega arith in
      let moved = λ (a : Address). ap (λ m. b.inside (part pre m) (own pre 0) a) same in
      let e_last = copy_last pre greedy b.enter b.inside n 0 (own pre 0) nowhere in
      let in_row_star = row_first by pre base list others in_row in
      let turn = fits_star content 0 n after base exit refl (λ a. e_last a ∙ moved a) in
      let star = turn stands in_row_star in
      let written = star_layout greedy b.layout base exit in
      let now = base + length written.0 in
      let inner = (b.layout (base + 1) base).1 in
      let last = b.enter (part pre (0 + n)) in
      let last_row = row 1 (0 + n) (own pre 0) nowhere in
      let before_it = copies_before pre greedy b.enter b.inside n 0 (own pre 0) nowhere in
      let e = parts_from_0 content (row n 0 last last_row) before_it in
      let enters = subst (λ m. Stands by inner (b.enter (part pre m))) (sym same) star.0 in
      let in_row_others = row_after by pre base content list others written.0 star.1.1 in_row in
      let copies = fits_copies n 0 last last_row content now inner e enters in_row_others in
      let entered = sym (next_before pre greedy b.enter b.inside n 0 (own pre 0)) in
      let first = (copies_layout b.layout n now inner).1 in (
        subst (λ a. Stands by first a) entered copies.0,
        both_at by content list others written.0 _ star.1.1 copies.1,
      )

  pub fits_repetition : (least : ℕ) (most : Option ℕ) (nullable_body : Bool) (after : Address)
      (base exit : ℕ) → Stands by exit after
      → InRow by pre base (repetition_addresses b.list least most nullable_body)
      → RepetitionFits least most nullable_body after base exit
  fits_repetition zero None true after base exit stands in_row =
      fits_nullable_star after base exit stands in_row
  fits_repetition zero None false after base exit stands in_row =
      let content = repetition_row pre greedy b.enter b.inside 0 None false after in
      (fits_star content 0 0 after base exit refl (λ a. refl) stands in_row).1
  fits_repetition (suc n) None nullable_body after base exit stands in_row =
      fits_at_least n nullable_body after base exit stands in_row
  fits_repetition zero (Some most) nullable_body after base exit stands in_row =
      fits_bounded zero (most - zero) after base exit stands in_row
  fits_repetition (suc n) (Some most) nullable_body after base exit stands in_row =
      fits_bounded (suc n) (most - suc n) after base exit stands in_row
