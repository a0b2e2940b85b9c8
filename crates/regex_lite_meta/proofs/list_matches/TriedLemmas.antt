-- The patterns that a pass tries at a position.
use Rattle.regex_lite_engine.proofs.Common.{◌≡◌, ℕ, suc, ◌+◌, ◌<◌, ◌≤◌, ◌⊎◌, List}
use Rattle.regex_lite_engine.proofs.Common.{[], ◌∷◌, length, drop, slice_get, slice_set, Some, None}
use Rattle.regex_lite_engine.proofs.Common.{slice_index, slice_index_or, IsUtf8, chars, sym, refl}
use Rattle.regex_lite_engine.proofs.Common.{ap, ◌∙◌, subst, inl, inr, arith, cases_lt, cases_eq}
use Rattle.regex_lite_engine.proofs.Common.{IsEntry, zero}
use Rattle.regex_lite_engine.proofs.Common.{IsHere, IsDeadAt, AreDeadAt, PassesTo}
use Rattle.regex_lite_engine.proofs.Common.{position_at, get_or-set_other}
use Rattle.regex_lite_engine.proofs.Common.{get_or-set_same, length-set, slice_get-get_or}
use Rattle.regex_lite_engine.specs.declared.search.patterns.Start.{Start}
use Rattle.regex_lite_engine.proofs.Common.{table_of_list, StoredList, slice_get_within, Text}
use Rattle.std.proofs.lemmas.Option.{get_or_from_slice_get, slice_get_read}
use Rattle.regex_lite_engine.specs.Graph.Places.{Place}
use Rattle.regex_lite_engine.specs.Search.Starts.{AreStartsAt, AreFrom, IsAmong}
use Rattle.regex_lite_syntax.proofs.OptionLemmas.{same_some}
use Rattle.regex_lite_engine.proofs.OffsetLemmas.{offset_grows}
use Rattle.regex_lite_engine.proofs.PositionLemmas.{position_is}
use Rattle.regex_lite_meta.proofs.Common.{Here}
use Rattle.regex_lite_meta.specs.ListPass.{PassKnows, PassKnowsAll, EndsPass}
use Rattle.regex_lite_meta.specs.ListPass.{IsRest}
use Rattle.regex_lite_meta.specs.declared.list_matches.status.Rest.{Rest}
use Rattle.regex_lite_engine.proofs.Common.{Option, IfSome}
use Rattle.regex_lite_meta.specs.declared.list_matches.status.Status.{Status}
use Rattle.regex_lite_meta.specs.declared.list_matches.status.Status.TheVariants.{Known, Open}
use Rattle.regex_lite_meta.specs.declared.list_matches.status.Status.TheVariants.{Left}
use Rattle.regex_lite_meta.proofs.list_matches.PassLemmas.{passed_over, passed_so_far}
use Rattle.regex_lite_meta.proofs.list_matches.PassLemmas.{none_so_far}

-- what is known of the pattern with this number
abbrev pub dfa_position_of : List Status → (number : ℕ) → Status
dfa_position_of statuses number = slice_index_or statuses number (Left 0)

-- at position p these starts are still to be tried
pub record AreTried (list : StoredList) (bytes : List ℕ) (s p : ℕ) (starts : List Start)
    (statuses : List Status) : Type 0 where
  pub passed : PassKnowsAll list bytes s p statuses
  pub each : (number : ℕ) → number < length list.entries
      → PassKnows (table_of_list list) bytes (slice_index list.entries number) s (p + 1)
      (dfa_position_of statuses number)
      ⊎ (IsAmong number (slice_index list.entries number) starts
      ⊎ IsDeadAt (table_of_list list) (chars bytes) (slice_index list.entries number) p)

-- a pattern that may start there is one of the list
pub start_inside : (entries : List ℕ) (from k : ℕ) (starts : List Start) (start : Start)
    → AreFrom entries from starts → slice_get starts k ≡ Some start
    → IsEntry entries start.number start.place
start_inside entries from k [] start are e = absurd (none_there k e)
  where
    none_there : (k : ℕ) → slice_get {X = Start} [] k ≡ Some start → ⊥
    none_there k e = cc
start_inside entries from zero (first ∷ starts) start are e =
    subst (λ z. IsEntry entries z.number z.place) (same_some e) are.1
start_inside entries from (suc k) (first ∷ starts) start are e =
    start_inside entries (suc first.number) k starts start are.2 e

-- the first of those that are left
left_suc : (starts : List Start) (k : ℕ) (start : Start) → slice_get starts k ≡ Some start
    → drop k starts ≡ start ∷ drop (suc k) starts
left_suc [] k start e = absurd (none_there k e)
  where
    none_there : (k : ℕ) → slice_get {X = Start} [] k ≡ Some start → ⊥
    none_there k e = cc
left_suc (first ∷ starts) zero start e = ap (λ z. z ∷ starts) (same_some e)
left_suc (first ∷ starts) (suc k) start e = left_suc starts k start e

pub left_from : (starts : List Start) (k : ℕ) (start : Start) → slice_get starts k ≡ Some start
    → drop k starts ≡ start ∷ drop (k + 1) starts
left_from starts k start e =
    let same : suc k ≡ k + 1 = omega arith in
    subst (λ n. drop k starts ≡ start ∷ drop n starts) same (left_suc starts k start e)

pub none_left : (starts : List Start) (k : ℕ) → length starts ≤ k → drop k starts ≡ []
none_left [] zero high = refl
none_left [] (suc k) high = refl
none_left (first ∷ starts) zero high = absurd (omega (arith, high))
none_left (first ∷ starts) (suc k) high = none_left starts k (omega (arith, high))

-- what is read of a status
pub dfa_position_read : (statuses : List Status) (number : ℕ) (read : Status)
    → number < length statuses → read ≡ slice_index_or statuses number read
    → dfa_position_of statuses number ≡ read
dfa_position_read statuses number read within is =
    get_or_from_slice_get statuses number read (Left 0)
    (slice_get_read statuses (length statuses) number read refl within is)

-- the number of a pattern that may start there
pub start_below : (list : StoredList) (table : List (Place ℕ)) (haystack : Text) (p k : ℕ)
    (starts : List Start) (start : Start) → AreStartsAt table haystack list.entries p starts
    → slice_get starts k ≡ Some start → start.number < length list.entries
start_below list table haystack p k starts start are e =
    slice_get_within list.entries start.number start.place
    (start_inside list.entries 0 k starts start are.in_order e)

module _ (list : StoredList) (bytes : List ℕ) (utf8 : IsUtf8 bytes) (s p : ℕ) where
  pub none_tried_yet : (starts : List Start) (statuses : List Status)
      → AreStartsAt (table_of_list list) (chars bytes) list.entries p starts
      → PassKnowsAll list bytes s p statuses → AreTried list bytes s p starts statuses
  none_tried_yet starts statuses are passed = record {
    passed = passed;
    each = λ number within.
        inr (are.each number (slice_index list.entries number)
        (slice_get-get_or list.entries number 0 within));
  }

  pub all_tried : (statuses : List Status) → AreTried list bytes s p [] statuses
      → PassKnowsAll list bytes s (p + 1) statuses
  all_tried statuses tried = record {
    all = tried.passed.all;
    each = λ number within. elim (tried.each number within) [
      | inl known ↦ known
      | inr other ↦ elim other [
        | inl among ↦ absurd among
        | inr dead ↦
            passed_over (table_of_list list) bytes utf8 (slice_index list.entries number) s p
            (p + 1)
            (dfa_position_of statuses number) (omega arith)
            (λ i low high. subst (λ z. IsDeadAt (table_of_list list) (chars bytes)
            (slice_index list.entries number) z) (omega (arith, low, high)) dead)
            (tried.passed.each number within)
      ]
    ];
  }

  -- the next of them needs no try
  pub passed_by : (start : Start) (starts : List Start) (statuses : List Status)
      → IsEntry list.entries start.number start.place
      → PassKnows (table_of_list list) bytes (slice_index list.entries start.number) s (p + 1)
      (dfa_position_of statuses start.number)
      → AreTried list bytes s p (start ∷ starts) statuses
      → AreTried list bytes s p starts statuses
  passed_by start starts statuses is known tried = record {
    passed = tried.passed;
    each = λ number within. elim (tried.each number within) [
      | inl known ↦ inl known
      | inr other ↦ elim other [
        | inl among ↦ elim among [
          | inl (same, place) ↦
              inl (subst (λ z. PassKnows (table_of_list list) bytes (slice_index list.entries z) s
              (p + 1) (dfa_position_of statuses z)) (sym same) known)
          | inr among ↦ inr (inl among)
        ]
        | inr dead ↦ inr (inr dead)
      ]
    ];
  }

  -- a pattern is tried
  pub set_dfa_position : (number q : ℕ) (statuses : List Status) (new : Status) → q ≤ p + 1
      → number < length list.entries
      → PassKnows (table_of_list list) bytes (slice_index list.entries number) s q new
      → PassKnowsAll list bytes s q statuses
      → PassKnowsAll list bytes s q (slice_set statuses number new)
  set_dfa_position number q statuses new low within known passed = record {
    all = length-set statuses number new ∙ passed.all;
    each = λ other inside.
        let all = passed.all in
        elim (cases_eq other number) [
          | inl same ↦
              subst (λ z. PassKnows (table_of_list list) bytes (slice_index list.entries z) s q
              (dfa_position_of (slice_set statuses number new) z)) (sym same)
              (subst (PassKnows (table_of_list list) bytes (slice_index list.entries number) s q)
              (sym (get_or-set_same statuses number new (Left 0) (omega (arith, all, within))))
              known)
          | inr apart ↦
              subst (PassKnows (table_of_list list) bytes (slice_index list.entries other) s q)
              (sym (get_or-set_other statuses number other new (Left 0) apart))
              (passed.each other inside)
        ];
  }

  pub tried_one : (start : Start) (starts : List Start) (statuses : List Status)
      (new : Status) → start.number < length list.entries → s ≤ p
      → PassKnows (table_of_list list) bytes (slice_index list.entries start.number) s (p + 1) new
      → AreTried list bytes s p (start ∷ starts) statuses
      → AreTried list bytes s p starts (slice_set statuses start.number new)
  tried_one start starts statuses new inside low known tried = record {
    passed = set_dfa_position start.number p statuses new (omega arith) inside
        (passed_so_far (table_of_list list) bytes utf8 (slice_index list.entries start.number) s p
        (p + 1) new low (omega arith) known) tried.passed;
    each = λ number within.
        let all = tried.passed.all in
        elim (cases_eq number start.number) [
          | inl same ↦
              inl (subst (λ z. PassKnows (table_of_list list) bytes (slice_index list.entries z) s
              (p + 1) (dfa_position_of (slice_set statuses start.number new) z)) (sym same)
              (subst (PassKnows (table_of_list list) bytes
              (slice_index list.entries start.number) s (p + 1))
              (sym (get_or-set_same statuses start.number new (Left 0)
              (omega (arith, all, inside)))) known))
          | inr apart ↦
              let kept = sym (get_or-set_other statuses start.number number new (Left 0) apart) in
              elim (tried.each number within) [
                | inl before ↦
                    inl (subst (PassKnows (table_of_list list) bytes
                    (slice_index list.entries number) s (p + 1)) kept before)
                | inr other ↦ elim other [
                  | inl among ↦ elim among [
                    | inl (same, place) ↦ absurd (apart same)
                    | inr among ↦ inr (inl among)
                  ]
                  | inr dead ↦ inr (inr dead)
                ]
              ]
        ];
  }

  -- a pattern that needs no try, since no match of it starts before a later offset
  pub undue : (entry : ℕ) (status : Status) (here : Here) → IsHere (chars bytes) p here
      → ((from : ℕ) → status ≡ Open from → here.at < from)
      → PassKnows (table_of_list list) bytes entry s p status
      → PassKnows (table_of_list list) bytes entry s (p + 1) status
  undue entry (Known reported) here is after passed = passed
  undue entry (Left from) here is after passed = passed
  undue entry (Open from) here is after (sooner, none) = (
    sooner,
    none_so_far (table_of_list list) (chars bytes) entry s (p + 1) (position_at bytes from)
        (let low = none.from in omega (arith, low)) later sooner.none,
  )
    where
      later : p + 1 ≤ position_at bytes from
      later = elim (cases_lt p (position_at bytes from)) [
        | inl less ↦ omega (arith, less)
        | inr before ↦
            let at = position_is bytes from utf8 sooner.boundary in
            let same = is.bytes in
            let grows = offset_grows (chars bytes) (position_at bytes from) p before in
            let beyond = after from refl in
            absurd (omega (arith, at.1, same, grows, beyond))
      ]

  -- where none of the patterns can start, a pass goes on
  pub all_passed_over : (here : Here) (statuses : List Status)
      → (w : PassesTo (AreDeadAt (table_of_list list) (chars bytes) list.entries) (chars bytes) p
      here)
      → PassKnowsAll list bytes s p statuses → PassKnowsAll list bytes s w.q statuses
  all_passed_over here statuses w passed = record {
    all = passed.all;
    each = λ number within.
        passed_over (table_of_list list) bytes utf8 (slice_index list.entries number) s p w.q
        (dfa_position_of statuses number) w.later
        (λ i low high. w.passed i low high number (slice_index list.entries number)
        (slice_get-get_or list.entries number 0 within)) (passed.each number within);
  }

-- after a pass there are as many statuses as patterns
pub ends_with_all : (list : StoredList) (bytes : List ℕ) (s : ℕ) (statuses : List Status)
    (left : Option Here) → EndsPass list bytes s statuses left
    → length statuses ≡ length list.entries
ends_with_all list bytes s statuses None ends = ends.all
ends_with_all list bytes s statuses (Some here) (q, is, ends) = ends.all

-- and what is left to do for a pattern is known
pub rest_known : (list : StoredList) (bytes : List ℕ) → IsUtf8 bytes → (s number : ℕ)
    (statuses : List Status) (rest : Rest) (left : Option Here) → number < length list.entries
    → (left ≡ None → (table : List (Place ℕ)) (bytes : List ℕ) (entry s : ℕ)
    → PassKnows table bytes entry s (length (chars bytes) + 1) (dfa_position_of statuses number)
    → IsRest table bytes entry s rest)
    → IfSome left (λ here. (table : List (Place ℕ)) (bytes : List ℕ) (entry s q : ℕ)
    → IsUtf8 bytes → IsHere (chars bytes) q here
    → PassKnows table bytes entry s q (dfa_position_of statuses number)
    → IsRest table bytes entry s rest)
    → EndsPass list bytes s statuses left
    → IsRest (table_of_list list) bytes (slice_index list.entries number) s rest
rest_known list bytes utf8 s number statuses rest None within ended on ends =
    ended refl (table_of_list list) bytes (slice_index list.entries number) s
    (ends.each number within)
rest_known list bytes utf8 s number statuses rest (Some here) within ended on (q, is, ends) =
    on (table_of_list list) bytes (slice_index list.entries number) s q utf8 is
    (ends.each number within)
