-- Single places with numbers in the place of addresses.
use Rattle.regex_lite_engine.proofs.Common.{◌≡◌, ℕ, Bool, true, false, List, [], ◌∷◌, map, Some}
use Rattle.regex_lite_engine.proofs.Common.{None, Option, sym, refl, ap, ◌∙◌, ClassRange, Address}
use Rattle.regex_lite_engine.proofs.Common.{Condition, free, with_arrows, renamed_arrow, renamed}
use Rattle.regex_lite_engine.proofs.Common.{go, choice, one_of, Content, LeadInto, LeadsInto}
use Rattle.regex_lite_engine.specs.Graph.Places.{Place}
use Rattle.regex_lite_engine.proofs.nfa.write.NumberingLemmas.{Numbering, Inside, Stands, IsAt}

-- the place with this one arrow
abbrev pub one_arrow : {A : Type 0} → Condition → (mark : Option ℕ) → A → Place A
one_arrow condition mark to =
    with_arrows (record { condition = condition; mark = mark; to = to } ∷ [])

module _ (by : Numbering) where
  -- the place is that one with numbers in the place of addresses
  abbrev IsNumbered : Place ℕ → Place Address → Type 0
  IsNumbered place wanted = (renamed by.address place ≡ wanted) × LeadsInto (Inside by) place

  -- the numbers stand for these addresses
  abbrev pub StandAll : List ℕ → List Address → Type 0
  StandAll [] [] = Unit {0}
  StandAll [] (a ∷ list) = ⊥
  StandAll (n ∷ ns) [] = ⊥
  StandAll (n ∷ ns) (a ∷ list) = Stands by n a × StandAll ns list

  numbered_arrow : (condition : Condition) (mark : Option ℕ) (n : ℕ) (a : Address) → Stands by n a
      → IsNumbered (one_arrow condition mark n) (one_arrow condition mark a)
  numbered_arrow condition mark n a r = (ap (one_arrow condition mark) r.0, (r.1, tt))

  numbered_set : (ranges : List ClassRange) (n : ℕ) (a : Address) → Stands by n a
      → IsNumbered (one_of ranges n) (one_of ranges a)
  numbered_set [] n a r = (refl, tt)
  numbered_set (range ∷ ranges) n a r = (ap (λ to. one_of (range ∷ ranges) to) r.0, (r.1, tt))

  two_arrows : (n m : ℕ) (a b : Address) → Stands by n a → Stands by m b
      → IsNumbered (with_arrows (go n ∷ go m ∷ [])) (with_arrows (go a ∷ go b ∷ []))
  two_arrows n m a b r s =
      let first = ap (λ to. with_arrows (go to ∷ go (by.address m) ∷ [])) r.0 in
      let second = ap (λ to. with_arrows (go a ∷ go to ∷ [])) s.0 in
      (first ∙ second, (r.1, (s.1, tt)))

  numbered_choice : (greedy : Bool) (n m : ℕ) (a b : Address) → Stands by n a → Stands by m b
      → IsNumbered (choice greedy n m) (choice greedy a b)
  numbered_choice true n m a b r s = two_arrows n m a b r s
  numbered_choice false n m a b r s = two_arrows m n b a s r

  numbered_arrows : (ns : List ℕ) (list : List Address) → StandAll ns list
      → (map (renamed_arrow by.address) (map go ns) ≡ map go list)
      × LeadInto (Inside by) (map go ns)
  numbered_arrows [] [] r = (refl, tt)
  numbered_arrows [] (a ∷ list) r = absurd r
  numbered_arrows (n ∷ ns) [] r = absurd r
  numbered_arrows (n ∷ ns) (a ∷ list) r =
      let later = numbered_arrows ns list r.1 in
      let first = ap (λ to. go to ∷ map (renamed_arrow by.address) (map go ns)) r.0.0 in
      (first ∙ ap (λ arrows. go a ∷ arrows) later.0, (r.0.1, later.1))

  module _ (content : Address → Content) (a : Address) where
    is_at : (place : Place ℕ) (wanted : Place Address) → content a ≡ Some wanted
        → IsNumbered place wanted → IsAt by content a place
    is_at place wanted e r = (e ∙ ap Some (sym r.0), r.1)

    pub arrow_at : (condition : Condition) (mark : Option ℕ) (n : ℕ) (to : Address)
        → content a ≡ Some (one_arrow condition mark to) → Stands by n to
        → IsAt by content a (one_arrow condition mark n)
    arrow_at condition mark n to e r =
        is_at (one_arrow condition mark n) _ e (numbered_arrow condition mark n to r)

    pub go_at : (n : ℕ) (to : Address) → content a ≡ Some (with_arrows (go to ∷ []))
        → Stands by n to
        → IsAt by content a (with_arrows (go n ∷ []))
    go_at n to e r = arrow_at free None n to e r

    pub set_at : (ranges : List ClassRange) (n : ℕ) (to : Address)
        → content a ≡ Some (one_of ranges to) → Stands by n to
        → IsAt by content a (one_of ranges n)
    set_at ranges n to e r = is_at (one_of ranges n) _ e (numbered_set ranges n to r)

    pub chosen_at : (greedy : Bool) (n m : ℕ) (to other : Address)
        → content a ≡ Some (choice greedy to other) → Stands by n to → Stands by m other
        → IsAt by content a (choice greedy n m)
    chosen_at greedy n m to other e r s =
        is_at (choice greedy n m) _ e (numbered_choice greedy n m to other r s)

    pub branches_at : (ns : List ℕ) (list : List Address)
        → content a ≡ Some (with_arrows (map go list))
        → StandAll ns list → IsAt by content a (with_arrows (map go ns))
    branches_at ns list e r =
        let all = numbered_arrows ns list r in
        is_at (with_arrows (map go ns)) _ e (ap (λ arrows. with_arrows arrows) all.0, all.1)
