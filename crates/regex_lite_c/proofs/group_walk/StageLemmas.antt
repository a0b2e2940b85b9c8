-- How far a walk has written the groups of matches, whatever is searched for, a regex or several
-- patterns.
use Rattle.regex_lite_c.proofs.Common.{◌≡◌, ℕ, zero, suc, ◌+◌, ◌-◌, ◌<◌, ◌≤◌, List, [], ◌∷◌, ◌++◌}
use Rattle.regex_lite_c.proofs.Common.{map, length, slice_get, slice_set, true, Some, None, Option}
use Rattle.regex_lite_c.proofs.Common.{option_map, sym, refl, ap, ◌∙◌, subst, inl, inr, append-nil}
use Rattle.regex_lite_c.proofs.Common.{arith, length-append, cases_lt, map-append, Groups}
use Rattle.regex_lite_c.proofs.Common.{span_of, AreWritten, AreWrittenAs, ended_of}
use Rattle.regex_lite_c.proofs.Common.{Span}
use Rattle.std.specs.List.{All}
use Rattle.std.proofs.lemmas.Grind.{flat_map-append}
use Rattle.std.proofs.lemmas.List.{length-set}
use Rattle.std.proofs.lemmas.List.Elements.{All-append}
use Rattle.regex_lite_syntax.proofs.LookupLemmas.{get_left, get_right}
use Rattle.regex_lite.specs.Ahead.{AheadOf, PassesAnswer}
use Rattle.regex_lite.specs.Groups.{whole_span}
use Rattle.regex_lite_c.specs.GroupWalks.{AreItsGroups, GroupBuffer, reported_of_groups}
use Rattle.regex_lite_c.specs.GroupWalks.{spans_of_all}
use Rattle.regex_lite_c.specs.Kinds.{Kind}
use Rattle.regex_lite_c.specs.Spans.{AreWrittenAt}
use Rattle.regex_lite_c.proofs.walk.WalkLemmas.{ListsAnswers, lists_more, lists_none, written_more}

-- where a walk stands: what is ahead, what was written, and how many spans are used, for how many
-- matches
pub record Stage (S T : Type 0) : Type 0 where
  pub ahead : AheadOf S
  pub to : GroupBuffer T
  pub used : ℕ
  pub count : ℕ

abbrev pub stage_of : {S T : Type 0} → AheadOf S → GroupBuffer T → (used count : ℕ) → Stage S T
stage_of ahead to used count = record { ahead = ahead; to = to; used = used; count = count }

-- what is written after these comes next to them
pub written_after : (reported more : List (Option (ℕ × ℕ))) (old now new : List Span)
    → AreWritten reported old now → AreWrittenAt (length reported) more now new
    → AreWritten (reported ++ more) old new
written_after reported more old now new before is =
    let n = length reported in
    let longer = length-append reported more in
    record {
      each = λ k lt. elim (cases_lt k n) [
        | inl left ↦
            is.rest k (inl left) ∙ before.each k left
            ∙ ap (option_map span_of) (sym (get_left reported more k left))
        | inr right ↦
            let j = k - n in
            let at : k ≡ n + j = omega (arith, right) in
            subst (λ m. slice_get new m ≡ option_map span_of (slice_get (reported ++ more) m))
            (sym at) (is.each j (omega (arith, lt, longer, at))
            ∙ ap (option_map span_of) (sym (get_right reported more j)))
      ];
      rest = λ k le.
          is.rest k (inr (omega (arith, le, longer))) ∙ before.rest k (omega (arith, le, longer));
    }

-- what holds of one holds of all in a list of it
all_one : {A : Type 0} (P : A → Type 0) (own : A) → P own → All P (own ∷ [])
all_one P own is zero given lt = is
all_one P own is (suc k) given lt = absurd (omega (arith, lt))

module _ {S X T : Type 0} (kind : Kind S X T) where
  -- the last of these matches is the one after which the walk goes on
  pub record EndsWith (list : List (kind.Answer × Groups)) (to : GroupBuffer T) : Type 0 where
    pub front : List (kind.Answer × Groups)
    pub last : kind.Answer × Groups
    pub is : list ≡ front ++ (last ∷ [])
    pub end : ended_of to.walk ≡ Some (whole_span last.1).1

  -- these matches were passed since the start, and this many are left of those there is room for
  abbrev pub Passed : (start now : Stage S T) → (buffer left : ℕ) → List (kind.Answer × Groups)
      → Type 0
  Passed start now buffer left list =
      ListsAnswers kind.found_of kind.IsAnswerTo start.ahead now.ahead buffer left
      (map (λ own. own.0) list)

  -- since the start the groups of these matches were written, one after another
  pub record AreSoFar (start now : Stage S T) : Type 0 where
    pub list : List (kind.Answer × Groups)
    pub number : length list ≡ now.count
    pub lists : (left : ℕ) → Passed start now (now.count + left) left list
    pub each : All (AreItsGroups kind start.ahead) list
    pub reported : kind.is_reported ≡ true
        → AreWrittenAs (reported_of_groups kind) list start.to.reported now.to.reported
    pub within : kind.is_reported ≡ true → now.count ≤ length now.to.reported
    pub written : AreWritten (spans_of_all list) start.to.buffer now.to.buffer
    pub used_is : length (spans_of_all list) ≡ now.used
    pub counted : now.count ≤ now.used
    pub fits : now.used ≤ length now.to.buffer
    pub none : now.count ≡ 0
        → (now.ahead ≡ start.ahead) × (now.to ≡ start.to) × (now.used ≡ 0)
    pub some : 0 < now.count → EndsWith list now.to

  -- at the start nothing has been written
  pub none_so_far : {start : Stage S T} → start.ahead.limit ≡ None → start.used ≡ 0
      → start.count ≡ 0 → AreSoFar start start
  none_so_far {start = start} limit none_used none_counted = record {
    list = [];
    number = sym none_counted;
    lists = λ left.
        subst (λ n. Passed start start n left []) (omega (arith, none_counted))
        (lists_none kind.found_of kind.IsAnswerTo start.ahead left limit);
    each = λ k own lt. absurd (omega (arith, lt));
    reported = λ _. record { each = λ k lt. absurd (omega (arith, lt)); rest = λ k le. refl };
    within = λ _. omega (arith, none_counted);
    written = record { each = λ k lt. absurd (omega (arith, lt)); rest = λ k le. refl };
    used_is = sym none_used;
    counted = omega (arith, none_counted);
    fits = omega (arith, none_used);
    none = λ _. (refl, refl, none_used);
    some = λ lt. absurd (omega (arith, lt, none_counted));
  }

  -- the groups of the next match are written, and the walk goes on after it
  pub record IsOneMore (old new : Stage S T) : Type 0 where
    pub own : kind.Answer × Groups
    pub passes : PassesAnswer kind.found_of kind.IsAnswerTo old.ahead own.0 new.ahead
    pub are : AreItsGroups kind old.ahead own
    pub reported : kind.is_reported ≡ true
        → new.to.reported ≡ slice_set old.to.reported old.count (reported_of_groups kind own)
    pub below : kind.is_reported ≡ true → old.count < length old.to.reported
    pub written : AreWrittenAt old.used own.1.spans old.to.buffer new.to.buffer
    pub same : length new.to.buffer ≡ length old.to.buffer
    pub buffer : old.used + length own.1.spans ≤ length old.to.buffer
    pub some : 0 < length own.1.spans
    pub end : ended_of new.to.walk ≡ Some (whole_span own.1).1
    pub used : new.used ≡ old.used + length own.1.spans
    pub count : new.count ≡ old.count + 1

  -- so still with one more match
  pub more_so_far : {start old new : Stage S T} → AreSoFar start old → IsOneMore old new
      → AreSoFar start new
  more_so_far {start = start} {old = old} {new = new} so one =
      let own = one.own in
      let spans = own.1.spans in
      let list = so.list ++ (own ∷ []) in
      let all = flat_map-append (λ g. g.1.spans) so.list (own ∷ [])
      ∙ ap (λ xs. spans_of_all so.list ++ xs) (append-nil spans) in
      let here = so.lists 0 in
      let are : AreItsGroups kind start.ahead own =
      subst (λ sought. kind.AreGroups sought start.ahead.haystack own.0 own.1) here.sought
      (subst (λ bytes. kind.AreGroups old.ahead.sought bytes own.0 own.1) here.haystack
      one.are) in
      record {
        list = list;
        number = omega (arith, length-append so.list (own ∷ []), so.number, one.count);
        lists = λ left.
            subst (λ n. Passed start new n left list) (omega (arith, one.count))
            (subst (ListsAnswers kind.found_of kind.IsAnswerTo start.ahead new.ahead
            (old.count + suc left) left) (sym (map-append (λ own. own.0) so.list (own ∷ [])))
            (lists_more kind.found_of kind.IsAnswerTo start.ahead old.ahead new.ahead
            (old.count + suc left) left (map (λ own. own.0) so.list) own.0 (so.lists (suc left))
            one.passes));
        each = All-append (AreItsGroups kind start.ahead) so.list (own ∷ []) so.each
            (all_one (AreItsGroups kind start.ahead) own are);
        reported = λ is.
            subst (AreWrittenAs (reported_of_groups kind) list start.to.reported)
            (sym (one.reported is)) (written_more (reported_of_groups kind) so.list own
            start.to.reported old.to.reported old.count (reported_of_groups kind own)
            (so.reported is) so.number (one.below is) refl);
        within = λ is.
            omega (
              arith,
              one.below is,
              one.count,
              ap length (one.reported is)
                  ∙ length-set old.to.reported old.count (reported_of_groups kind own),
            );
        written = subst (λ reported. AreWritten reported start.to.buffer new.to.buffer) (sym all)
            (written_after (spans_of_all so.list) spans start.to.buffer old.to.buffer new.to.buffer
            so.written
            (subst (λ n. AreWrittenAt n spans old.to.buffer new.to.buffer) (sym so.used_is)
            one.written));
        used_is =
            ap length all ∙ length-append (spans_of_all so.list) spans
            ∙ ap (λ n. n + length spans) so.used_is ∙ sym one.used;
        counted = omega (arith, so.counted, one.some, one.used, one.count);
        fits = omega (arith, one.buffer, one.same, one.used);
        none = λ wrong. absurd (omega (arith, wrong, one.count));
        some = λ _. record { front = so.list; last = own; is = refl; end = one.end };
      }
