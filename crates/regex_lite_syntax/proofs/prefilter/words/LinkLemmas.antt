-- How words are reached by links.
use Rattle.regex_lite_syntax.proofs.Common.{◌≡◌, ℕ, zero, suc, ◌+◌, ◌-◌, ◌<◌, ◌≤◌, ◌⊎◌, List}
use Rattle.regex_lite_syntax.proofs.Common.{length, slice_index, slice_set, sym, ap, ◌∙◌, subst}
use Rattle.regex_lite_syntax.proofs.Common.{inl, inr, arith, cases_eq, get_or-set_other, Letter}
use Rattle.regex_lite_syntax.proofs.Common.{get_or-set_same, IsLinked, StartsWith, word_at}
use Rattle.std.proofs.Common.{length-set, slice_index_or}
use Rattle.regex_lite_syntax.specs.Prefilter.Shifts.{AreLinks, LeadsToAllAt, bucket_of, here}
use Rattle.regex_lite_syntax.specs.Prefilter.Shifts.{further}
use Rattle.regex_lite_syntax.specs.Prefilter.Words.{WordStandsAt}
use Rattle.std.proofs.lemmas.List.{get_or_default}

-- no word is reached from 0
pub from_some : (next : List ℕ) (number link : ℕ) → IsLinked next number link → 0 < link
from_some next number link (here is) = omega (arith, is)
from_some next number link (further some order on) = some

-- a word is still reached from the next link, unless it is that of this one
pub still_reached : (next : List ℕ) (number link : ℕ) → ¬ (link ≡ number + 1)
    → IsLinked next number link → IsLinked next number (slice_index next (link - 1))
still_reached next number link apart (here is) = absurd (apart is)
still_reached next number link apart (further some order on) = on

-- the next link of a word
pub next_link : (words : List (List Letter)) (hashed : ℕ) (first next : List ℕ)
    → AreLinks words hashed first next → (link after : ℕ) → 0 < link → link ≤ length words
    → after ≡ slice_index_or next (link - 1) after → after ≡ slice_index next (link - 1)
next_link words hashed first next links link after some inside read =
    let there : link - 1 < length next = omega (arith, links.numbers, inside, some) in
    read ∙ get_or_default next (link - 1) after 0 there

-- the words that stand at an offset are reached from the next link of one that doesn't
pub leads_on : (words : List (List Letter)) (first next bytes : List ℕ) (at hashed : ℕ)
    → AreLinks words hashed first next → (link : ℕ) → 0 < link
    → LeadsToAllAt words next bytes at link → (after : ℕ)
    → after ≡ slice_index_or next (link - 1) after
    → ¬ WordStandsAt words bytes (link - 1) at → LeadsToAllAt words next bytes at after
leads_on words first next bytes at hashed links link some leads after read never =
    let is = next_link words hashed first next links link after some leads.inside read in
    record {
      inside = let most = links.next_inside (link - 1) in omega (arith, is, most);
      reached = λ number below stands.
          let apart : link ≡ number + 1 → ⊥ = λ same.
          let here : number ≡ link - 1 = omega (arith, same) in
          never (subst (λ n. WordStandsAt words bytes n at) here stands) in
          subst (IsLinked next number) (sym is)
          (still_reached next number link apart (leads.reached number below stands));
    }

-- how many words are still to come from the link, at most
abbrev pub to_come : (all link : ℕ) → ℕ
to_come all zero = 0
to_come all (suc number) = all - number

-- they get fewer on the way
pub fewer_to_come : (all link after : ℕ) → 0 < link → link ≤ all
    → (after ≡ 0) ⊎ (link < after) → to_come all after < to_come all link
fewer_to_come all zero after some inside rises = absurd (omega (arith, some))
fewer_to_come all (suc n) zero some inside rises = omega (arith, inside)
fewer_to_come all (suc n) (suc m) some inside (inl none) = absurd (omega (arith, none))
fewer_to_come all (suc n) (suc m) some inside (inr more) = omega (arith, inside, more)

-- links lead to later words only
abbrev pub Rise : List ℕ → Type 0
Rise next = (number : ℕ) → (slice_index next number ≡ 0) ⊎ (number + 1 < slice_index next number)

-- a word that is reached from a link past an earlier word is so whatever that word's link becomes
pub reached_past : (next : List ℕ) (number link : ℕ) (earlier to : ℕ) → Rise next
    → earlier + 1 < link → IsLinked next number link
    → IsLinked (slice_set next earlier to) number link
reached_past next number link earlier to rise past (here is) = here is
reached_past next number link earlier to rise past (further some order on) =
    let apart : ¬ (link - 1 ≡ earlier) = λ same. omega (arith, same, past) in
    further some order
    (subst (IsLinked (slice_set next earlier to) number)
    (sym (get_or-set_other next earlier (link - 1) to 0 apart))
    (reached_past next number (slice_index next (link - 1)) earlier to rise
    (later (rise (link - 1)) (from_some next number _ on)) on))
  where
    later : (slice_index next (link - 1) ≡ 0) ⊎ (link - 1 + 1 < slice_index next (link - 1))
        → 0 < slice_index next (link - 1) → earlier + 1 < slice_index next (link - 1)
    later (inl none) some_next = absurd (omega (arith, none, some_next))
    later (inr more) some_next = omega (arith, more, past)

-- the words from this number on are linked
pub record AreLinkedFrom (words : List (List Letter)) (hashed left : ℕ) (first next : List ℕ)
    : Type 0 where
  pub left_inside : left ≤ length words
  pub first_inside : (bucket : ℕ) → slice_index first bucket ≤ length words
  pub next_inside : (number : ℕ) → slice_index next number ≤ length words
  pub past : (bucket : ℕ) → (slice_index first bucket ≡ 0) ⊎ (left < slice_index first bucket)
  pub rise : Rise next
  pub reached : (number : ℕ) (bytes : List ℕ) → left ≤ number → number < length words
      → StartsWith (word_at words number) bytes
      → IsLinked next number (slice_index first (bucket_of hashed (length first) bytes))

-- with the word before them they are linked once it comes first in its bucket
module _ (words : List (List Letter)) (hashed left number : ℕ) (first next : List ℕ) (bucket : ℕ)
    (before : left ≡ number + 1) (in_first : bucket < length first) (in_next : number < length next)
    (own : (bytes : List ℕ) → StartsWith (word_at words number) bytes
    → bucket_of hashed (length first) bytes ≡ bucket)
    (linked : AreLinkedFrom words hashed left first next) where
  -- the first links with the new one
  firsts : List ℕ
  firsts = slice_set first bucket left

  -- the next links with the one that the new link hides
  nexts : List ℕ
  nexts = slice_set next number (slice_index first bucket)

  -- what is in both lists, at the new places and elsewhere
  first_here : slice_index firsts bucket ≡ left
  unfolding firsts
  first_here = get_or-set_same first bucket left 0 in_first

  first_there : (other : ℕ) → ¬ (other ≡ bucket)
      → slice_index firsts other ≡ slice_index first other
  unfolding firsts
  first_there other apart = get_or-set_other first bucket other left 0 apart

  next_here : slice_index nexts number ≡ slice_index first bucket
  unfolding nexts
  next_here = get_or-set_same next number (slice_index first bucket) 0 in_next

  next_there : (other : ℕ) → ¬ (other ≡ number)
      → slice_index nexts other ≡ slice_index next other
  unfolding nexts
  next_there other apart = get_or-set_other next number other (slice_index first bucket) 0 apart

  -- no link leads past the last word
  first_inside_more : (other : ℕ) → slice_index firsts other ≤ length words
  first_inside_more other = elim (cases_eq other bucket) [
    | inl same ↦
        let is = ap (slice_index firsts) same ∙ first_here in
        let most = linked.left_inside in
        omega (arith, is, most)
    | inr apart ↦
        let is = first_there other apart in
        let most = linked.first_inside other in
        omega (arith, is, most)
  ]

  next_inside_more : (other : ℕ) → slice_index nexts other ≤ length words
  next_inside_more other = elim (cases_eq other number) [
    | inl same ↦
        let is = ap (slice_index nexts) same ∙ next_here in
        let most = linked.first_inside bucket in
        omega (arith, is, most)
    | inr apart ↦
        let is = next_there other apart in
        let most = linked.next_inside other in
        omega (arith, is, most)
  ]

  -- first links lead to words that are linked
  past_more : (other : ℕ) → (slice_index firsts other ≡ 0) ⊎ (number < slice_index firsts other)
  past_more other = elim (cases_eq other bucket) [
    | inl same ↦
        let is = ap (slice_index firsts) same ∙ first_here in inr (omega (arith, is, before))
    | inr apart ↦
        let is = first_there other apart in
        elim (linked.past other) [
          | inl none ↦ inl (is ∙ none)
          | inr more ↦ inr (omega (arith, is, more, before))
        ]
  ]

  -- and next links to later words
  rise_more : Rise nexts
  rise_more other = elim (cases_eq other number) [
    | inl same ↦
        let is = ap (slice_index nexts) same ∙ next_here in
        elim (linked.past bucket) [
          | inl none ↦ inl (is ∙ none)
          | inr more ↦ inr (omega (arith, is, more, before, same))
        ]
    | inr apart ↦
        let is = next_there other apart in
        elim (linked.rise other) [
          | inl none ↦ inl (is ∙ none)
          | inr more ↦ inr (omega (arith, is, more))
        ]
  ]

  -- a word that was reached from the first link of a bucket is still reached from that link
  still_from_first : (other from : ℕ) → IsLinked next other (slice_index first from)
      → IsLinked nexts other (slice_index first from)
  unfolding nexts
  still_from_first other from reached =
      reached_past next other (slice_index first from) number (slice_index first bucket) linked.rise
      (elim (linked.past from) [
        | inl none ↦ let some = from_some next other (slice_index first from) reached in
            absurd (omega (arith, none, some))
        | inr more ↦ omega (arith, more, before)
      ])
      reached

  -- and from the first link that is in its place now
  reached_at : (other from : ℕ) → left ≤ other → IsLinked next other (slice_index first from)
      → IsLinked nexts other (slice_index firsts from)
  reached_at other from low reached = elim (cases_eq from bucket) [
    | inl same ↦
        let at_first : slice_index firsts from ≡ left =
        ap (slice_index firsts) same ∙ first_here in
        let last : left - 1 ≡ number = omega (arith, before) in
        let on : slice_index nexts (left - 1) ≡ slice_index first bucket =
        ap (slice_index nexts) last ∙ next_here in
        subst (IsLinked nexts other) (sym at_first)
        (further (omega (arith, before)) low
        (subst (IsLinked nexts other) (sym on)
        (still_from_first other bucket
        (subst (λ b. IsLinked next other (slice_index first b)) same reached))))
    | inr apart ↦
        subst (IsLinked nexts other) (sym (first_there from apart))
        (still_from_first other from reached)
  ]

  -- so each word is reached, and the new one first
  reached_more : (other : ℕ) (bytes : List ℕ) → number ≤ other → other < length words
      → StartsWith (word_at words other) bytes
      → IsLinked nexts other (slice_index firsts (bucket_of hashed (length first) bytes))
  reached_more other bytes low inside starts = elim (cases_eq other number) [
    | inl same ↦
        let own_bucket = own bytes (subst (λ m. StartsWith (word_at words m) bytes) same starts) in
        here (ap (slice_index firsts) own_bucket ∙ first_here ∙ before ∙ ap (λ m. m + 1) (sym same))
    | inr apart ↦
        let more : left ≤ other = omega (arith, before, low, apart) in
        reached_at other (bucket_of hashed (length first) bytes) more
        (linked.reached other bytes more inside starts)
  ]

  pub linked_before : AreLinkedFrom words hashed number (slice_set first bucket left)
      (slice_set next number (slice_index first bucket))
  unfolding firsts nexts
  linked_before = record {
    left_inside = omega (arith, before, linked.left_inside);
    first_inside = first_inside_more;
    next_inside = next_inside_more;
    past = past_more;
    rise = rise_more;
    reached = λ other bytes low inside starts.
        subst (λ n. IsLinked nexts other (slice_index firsts (bucket_of hashed n bytes)))
        (sym (length-set first bucket left)) (reached_more other bytes low inside starts);
  }
