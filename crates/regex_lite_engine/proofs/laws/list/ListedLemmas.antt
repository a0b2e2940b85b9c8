-- The walks from a place in the order of preference, each with its end and marks.
use Rattle.regex_lite_engine.proofs.Common.{◌≡◌, ℕ, suc, Bool, true, false, List, [], ◌∷◌, ◌++◌}
use Rattle.regex_lite_engine.proofs.Common.{map, if◌then◌else◌, Some, None, Option, sym, refl, ap}
use Rattle.regex_lite_engine.proofs.Common.{◌∙◌, subst, append-nil, Set, Text, after, holds_between}
use Rattle.regex_lite_engine.proofs.Common.{Arrow, complete, with_arrows, read_past, taken, go}
use Rattle.regex_lite_engine.proofs.Common.{go_marking, go_holding, go_reading, choice, marked}
use Rattle.regex_lite_engine.proofs.Common.{Entry, after_marks, onward, stop}
use Rattle.regex_lite_syntax.specs.declared.hir.look.Look.{Look}
use Rattle.regex_lite_syntax.specs.Text.{before}
use Rattle.regex_lite_engine.specs.Graph.Places.{Place}
use Rattle.regex_lite_engine.specs.Search.PreferenceList.{read}
use Rattle.regex_lite_engine.proofs.laws.list.EntryLemmas.{over_unmarked, after_none, onward_stop}

mutual
  -- the walks from the place at position i to where a match is complete have, in the order of
  -- preference, these ends and marks, and no walk from there goes on for ever
  pub data Listed {A : Type 0} (haystack : Text) (place : A → Place A) (end : A)
      : A → ℕ → List Entry → Type 0 where
    completed : {a : A} {i : ℕ} {list : List Entry}
        → a ≡ end → place a ≡ complete → list ≡ stop i → Listed haystack place end a i list
    branching : {a : A} {i : ℕ} {list : List Entry} (arrows : List (Arrow A))
        → place a ≡ with_arrows arrows → ListedBy haystack place end arrows i list
        → Listed haystack place end a i list

  -- so have those that begin with one of the arrows
  pub data ListedBy {A : Type 0} (haystack : Text) (place : A → Place A) (end : A)
      : List (Arrow A) → ℕ → List Entry → Type 0 where
    over_all : {i : ℕ} {list : List Entry} → list ≡ [] → ListedBy haystack place end [] i list
    blocked : {arrow : Arrow A} {arrows : List (Arrow A)} {i : ℕ} {list : List Entry}
        → taken haystack arrow.condition i ≡ None → ListedBy haystack place end arrows i list
        → ListedBy haystack place end (arrow ∷ arrows) i list
    fitting : {arrow : Arrow A} {arrows : List (Arrow A)} {i : ℕ} {list : List Entry}
        (j : ℕ) (here there : List Entry)
        → taken haystack arrow.condition i ≡ Some j → Listed haystack place end arrow.to j here
        → ListedBy haystack place end arrows i there
        → list ≡ map (after_marks (marked arrow.mark i)) here ++ there
        → ListedBy haystack place end (arrow ∷ arrows) i list

-- the empty match at the position, if it is there
abbrev stop_at : Option ℕ → List Entry
stop_at None = []
stop_at (Some j) = stop j

stop_read : (set : Set) (i : ℕ) (next : Option ℕ)
    → stop_at (read_past set i next) ≡ read set i next
stop_read set i None = refl
stop_read set i (Some c) = by_test (set c)
  where
    by_test : (test : Bool)
        → stop_at (if test then Some (suc i) else None) ≡ (if test then stop (suc i) else [])
    by_test true = refl
    by_test false = refl

stop_if : (test : Bool) (i : ℕ)
    → stop_at (if test then Some i else None) ≡ (if test then stop i else [])
stop_if true i = refl
stop_if false i = refl

pub unmarked : (i : ℕ) (list : List Entry) → map (after_marks (marked None i)) list ≡ list
unmarked i list = after_none (marked None i) (λ m. over_unmarked m i) list

module _ {A : Type 0} {haystack : Text} {place : A → Place A} {end : A} where
  pub as_listed : {a : A} {i : ℕ} {xs ys : List Entry} → xs ≡ ys
      → Listed haystack place end a i xs → Listed haystack place end a i ys
  as_listed {a} {i} e listed = subst (λ list. Listed haystack place end a i list) e listed

  -- by the only arrow
  by_one : {a : A} {i : ℕ} (arrow : Arrow A) (j : ℕ) (list : List Entry)
      → place a ≡ with_arrows (arrow ∷ []) → taken haystack arrow.condition i ≡ Some j
      → Listed haystack place end arrow.to j list
      → Listed haystack place end a i (map (after_marks (marked arrow.mark i)) list)
  by_one {i = i} arrow j list e fits listed =
      let all = sym (append-nil (map (after_marks (marked arrow.mark i)) list)) in
      branching (arrow ∷ []) e (fitting j list [] fits listed (over_all refl) all)

  pub by_go : {a b : A} {i : ℕ} {list : List Entry} → place a ≡ with_arrows (go b ∷ [])
      → Listed haystack place end b i list → Listed haystack place end a i list
  by_go {b = b} {i} {list} e listed =
      as_listed (unmarked i list) (by_one (go b) i list e refl listed)

  pub by_mark : {a b : A} {i : ℕ} {list : List Entry} (slot : ℕ)
      → place a ≡ with_arrows (go_marking slot b ∷ []) → Listed haystack place end b i list
      → Listed haystack place end a i (map (after_marks (marked (Some slot) i)) list)
  by_mark {b = b} {i} {list} slot e listed = by_one (go_marking slot b) i list e refl listed

  -- by the only arrow, which marks nothing, if it fits
  by_test : {a : A} {i : ℕ} (arrow : Arrow A) (next : ℕ → List Entry) → arrow.mark ≡ None
      → place a ≡ with_arrows (arrow ∷ [])
      → ((j : ℕ) → taken haystack arrow.condition i ≡ Some j
      → Listed haystack place end arrow.to j (next j))
      → Listed haystack place end a i (onward (stop_at (taken haystack arrow.condition i)) next)
  by_test {a} {i} arrow next plain e later = by_result (taken haystack arrow.condition i) refl
    where
      by_result : (o : Option ℕ) → taken haystack arrow.condition i ≡ o
          → Listed haystack place end a i (onward (stop_at o) next)
      by_result None gone = branching (arrow ∷ []) e (blocked gone (over_all refl))
      by_result (Some j) fits =
          let one = by_one arrow j (next j) e fits (later j fits) in
          let none = ap (λ mark. map (after_marks (marked mark i)) (next j)) plain in
          as_listed (none ∙ unmarked i (next j) ∙ sym (onward_stop j next)) one

  pub by_reading : {a : A} {i : ℕ} (set : Set) (exit : A) (next : ℕ → List Entry)
      → place a ≡ with_arrows (go_reading set exit ∷ [])
      → ((j : ℕ) → read_past set i (after haystack i) ≡ Some j
      → Listed haystack place end exit j (next j))
      → Listed haystack place end a i (onward (read set i (after haystack i)) next)
  by_reading {i = i} set exit next e later =
      as_listed (ap (λ list. onward list next) (stop_read set i (after haystack i)))
      (by_test (go_reading set exit) next refl e later)

  pub by_look : {a : A} {i : ℕ} (test : Look) (exit : A) (next : ℕ → List Entry)
      → place a ≡ with_arrows (go_holding test exit ∷ [])
      → ((j : ℕ) → taken haystack (go_holding test exit).condition i ≡ Some j
      → Listed haystack place end exit j (next j))
      → Listed haystack place end a i
      (onward (if holds_between test (before haystack i) (after haystack i) then stop i else [])
      next)
  by_look {i = i} test exit next e later =
      let holds = holds_between test (before haystack i) (after haystack i) in
      as_listed (ap (λ list. onward list next) (stop_if holds i))
      (by_test (go_holding test exit) next refl e later)

  by_two : {a : A} {i : ℕ} (first second : A) (xs ys : List Entry)
      → place a ≡ with_arrows (go first ∷ go second ∷ []) → Listed haystack place end first i xs
      → Listed haystack place end second i ys → Listed haystack place end a i (xs ++ ys)
  by_two {i = i} first second xs ys e one two =
      let rest = map (after_marks (marked None i)) ys in
      let last = sym (append-nil rest) in
      let later = fitting {arrow = go second} i ys [] refl two (over_all refl) last in
      let both = fitting {arrow = go first} i xs rest refl one later refl in
      let plain = ap (λ list. list ++ rest) (unmarked i xs)
      ∙ ap (λ list. xs ++ list) (unmarked i ys) in
      as_listed plain (branching (go first ∷ go second ∷ []) e both)

  pub by_choice : {a : A} {i : ℕ} (greedy : Bool) (body other : A) (xs ys : List Entry)
      → place a ≡ choice greedy body other → Listed haystack place end body i xs
      → Listed haystack place end other i ys
      → Listed haystack place end a i (if greedy then xs ++ ys else ys ++ xs)
  by_choice true body other xs ys e one two = by_two body other xs ys e one two
  by_choice false body other xs ys e one two = by_two other body ys xs e two one
