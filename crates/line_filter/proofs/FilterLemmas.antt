-- Lines that were filtered, one after another.
use Rattle.std.proofs.Common.{◌≡◌, ◌||◌, ℕ, Bool, true, false, List, [], ◌∷◌, ◌++◌, Option, Some}
use Rattle.std.proofs.Common.{None, IfSome, refl, sym, ap, ◌∙◌, subst, inl, inr, take, drop}
use Rattle.std.proofs.Common.{append_assoc, append-nil}
use Rattle.std.specs.List.{concat}
use Rattle.std.specs.Io.KnownBytes.{Appends, Consumes, IsAtEnd}
use Rattle.std.proofs.KnownBytes.{Appends-nil, Appends-trans}
use Rattle.std.proofs.lemmas.List.Folds.{concat-append}
use Rattle.line_filter.specs.Lines.{AreFiltered, AreFilteredUpTo, AreKept, IsBegun}
use Rattle.line_filter.specs.Lines.{has_some, lines_of}

module _ (Holds : List ℕ → Type 0) where
  kept_append : (lines more kept others : List (List ℕ)) → AreKept Holds lines kept
      → AreKept Holds more others → AreKept Holds (lines ++ more) (kept ++ others)
  kept_append [] more kept others are later =
      subst (λ k. AreKept Holds more (k ++ others)) (sym are) later
  kept_append (line ∷ lines) more kept others (inl (isnt, are)) later =
      inl (isnt, kept_append lines more kept others are later)
  kept_append (line ∷ lines) more kept others (inr (holds, (rest, is, are))) later =
      inr (
        holds,
        (
          rest ++ others,
          ap (λ k. k ++ others) is,
          kept_append lines more rest others are later,
        ),
      )

  some_append : (kept others : List (List ℕ))
      → has_some (kept ++ others) ≡ has_some kept || has_some others
  some_append [] others = refl
  some_append (line ∷ kept) others = refl

  filtered_append : (lines more : List (List ℕ)) (before held after : Option (List ℕ))
      (found others : Bool) → AreFiltered Holds lines before held found
      → AreFiltered Holds more held after others
      → AreFiltered Holds (lines ++ more) before after (found || others)
  filtered_append lines more before held after found others first later = record {
    kept = first.kept ++ later.kept;
    are_kept = kept_append lines more first.kept later.kept first.are_kept later.are_kept;
    written = subst (Appends before after) (sym (concat-append first.kept later.kept))
        (Appends-trans before held after (concat first.kept) (concat later.kept)
        first.written later.written);
    reported = ap (λ f. f || others) first.reported ∙ ap (λ f. has_some first.kept || f)
        later.reported ∙ sym (some_append first.kept later.kept);
  }

  -- one line was written, or left out
  line_kept : (line : List ℕ) (before after : Option (List ℕ)) → Holds line
      → Appends before after line → AreFiltered Holds (line ∷ []) before after true
  line_kept line before after holds written = record {
    kept = line ∷ [];
    are_kept = inr (holds, ([], refl, refl));
    written = subst (Appends before after) (sym (append-nil line)) written;
    reported = refl;
  }

  line_left_out : (line : List ℕ) (before : Option (List ℕ)) → ¬ (Holds line)
      → AreFiltered Holds (line ∷ []) before before false
  line_left_out line before isnt =
      record {
        kept = [];
        are_kept = inl (isnt, refl);
        written = Appends-nil before;
        reported = refl;
      }

  -- nothing was filtered yet
  pub none_yet : (lines : List (List ℕ)) (before : Option (List ℕ))
      → AreFilteredUpTo Holds lines lines before before false
  none_yet lines before = record {
    first = [];
    all = refl;
    filtered = record { kept = []; are_kept = refl; written = Appends-nil before; reported = refl };
  }

  -- the next lines were filtered too
  pub onward : (lines left next rest : List (List ℕ)) (before held after : Option (List ℕ))
      (found others : Bool) → AreFilteredUpTo Holds lines left before held found
      → left ≡ next ++ rest → AreFiltered Holds next held after others
      → AreFilteredUpTo Holds lines rest before after (found || others)
  onward lines left next rest before held after found others so is more = record {
    first = so.first ++ next;
    all = so.all ∙ ap (λ l. so.first ++ l) is ∙ sym (append_assoc so.first next rest);
    filtered = filtered_append so.first next before held after found others so.filtered more;
  }

  -- the next line was written
  pub one_kept : (lines left rest : List (List ℕ)) (line : List ℕ)
      (before held after : Option (List ℕ)) (found : Bool)
      → AreFilteredUpTo Holds lines left before held found → left ≡ line ∷ rest → Holds line
      → Appends held after line → AreFilteredUpTo Holds lines rest before after true
  one_kept lines left rest line before held after found so is holds written =
      subst (AreFilteredUpTo Holds lines rest before after)
      (elim found as (λ f. f || true ≡ true) [ true ↦ refl | false ↦ refl ])
      (onward lines left (line ∷ []) rest before held after found true so is
      (line_kept line held after holds written))

  -- it was left out
  pub one_left_out : (lines left rest : List (List ℕ)) (line : List ℕ)
      (before held : Option (List ℕ)) (found : Bool)
      → AreFilteredUpTo Holds lines left before held found → left ≡ line ∷ rest
      → ¬ (Holds line) → AreFilteredUpTo Holds lines rest before held found
  one_left_out lines left rest line before held found so is isnt =
      subst (AreFilteredUpTo Holds lines rest before held)
      (elim found as (λ f. f || false ≡ f) [ true ↦ refl | false ↦ refl ])
      (onward lines left (line ∷ []) rest before held held found false so is
      (line_left_out line held isnt))

  -- so were all
  pub all_filtered : (lines left : List (List ℕ)) (before after : Option (List ℕ))
      (found : Bool) → AreFilteredUpTo Holds lines left before after found → left ≡ []
      → AreFiltered Holds lines before after found
  all_filtered lines left before after found so is =
      subst (λ l. AreFiltered Holds l before after found)
      (sym (so.all ∙ ap (λ l. so.first ++ l) is ∙ append-nil so.first)) so.filtered

-- of the lines of the input those before the block were filtered; the block comes before what is
-- left of the input
abbrev pub IsReading : (Holds : List ℕ → Type 0) → (bytes block : List ℕ)
    → (left before after : Option (List ℕ)) → (found : Bool) → Type 0
IsReading Holds bytes block None before after found = ⊥
IsReading Holds bytes block (Some rest) before after found =
    AreFilteredUpTo Holds (lines_of bytes) (lines_of (block ++ rest)) before after found

module _ (Holds : List ℕ → Type 0) (bytes : List ℕ) where
  -- more of the input was read
  pub read_more : (block got longer : List ℕ) (left new before after : Option (List ℕ))
      (found : Bool) → IsReading Holds bytes block left before after found
      → longer ≡ block ++ got → Consumes left new got
      → IsReading Holds bytes longer new before after found
  read_more block got longer None new before after found so is taken = absurd so
  read_more block got longer (Some rest) None before after found so is taken = absurd taken
  read_more block got longer (Some rest) (Some new) before after found so is taken =
      subst (λ all. AreFilteredUpTo Holds (lines_of bytes) (lines_of all) before after found)
      (ap (λ r. block ++ r) taken ∙ sym (append_assoc block got new)
      ∙ ap (λ b. b ++ new) (sym is)) so

  -- the whole lines of the block were filtered
  pub lines_done : (block shorter : List ℕ) (end : ℕ) (left before held after : Option (List ℕ))
      (found others : Bool) → IsReading Holds bytes block left before held found
      → ((more : List ℕ)
      → lines_of (block ++ more) ≡ lines_of (take end block) ++ lines_of (drop end block ++ more))
      → AreFiltered Holds (lines_of (take end block)) held after others
      → shorter ≡ drop end block
      → IsReading Holds bytes shorter left before after (found || others)
  lines_done block shorter end None before held after found others so whole more is = absurd so
  lines_done block shorter end (Some rest) before held after found others so whole more is =
      subst (λ b. AreFilteredUpTo Holds (lines_of bytes) (lines_of (b ++ rest)) before after
      (found || others)) (sym is)
      (onward Holds (lines_of bytes) (lines_of (block ++ rest)) (lines_of (take end block))
      (lines_of (drop end block ++ rest)) before held after found others so (whole rest) more)

  -- the input has ended, and the block was filtered
  pub all_done : (block : List ℕ) (left before held after : Option (List ℕ))
      (found others : Bool) → IsReading Holds bytes block left before held found
      → IsAtEnd left → AreFiltered Holds (lines_of block) held after others
      → AreFiltered Holds (lines_of bytes) before after (found || others)
  all_done block None before held after found others so end more = absurd so
  all_done block (Some rest) before held after found others so end more =
      all_filtered Holds (lines_of bytes) [] before after (found || others)
      (onward Holds (lines_of bytes) (lines_of (block ++ rest)) (lines_of block) [] before held
      after found others so
      (ap (λ r. lines_of (block ++ r)) end ∙ ap lines_of (append-nil block)
      ∙ sym (append-nil (lines_of block))) more)
      refl

  -- the filter stopped there
  pub stopped : (block : List ℕ) (left before after : Option (List ℕ)) (found : Bool)
      → IsReading Holds bytes block left before after found
      → IsBegun Holds (lines_of bytes) before after
  stopped block None before after found so = absurd so
  stopped block (Some rest) before after found so = (lines_of (block ++ rest), found, so)

-- nothing was read yet
pub unread : (Holds : List ℕ → Type 0) (left before : Option (List ℕ)) (block : List ℕ)
    → block ≡ [] → IfSome left (λ bytes. IsReading Holds bytes block left before before false)
unread Holds None before block none = tt
unread Holds (Some bytes) before block none =
    subst (λ b. IsReading Holds bytes b (Some bytes) before before false) (sym none)
    (none_yet Holds (lines_of bytes) before)

-- what follows from each fact that is known of the bytes
pub each_known : {P Q : List ℕ → Type 0} (known : Option (List ℕ))
    → ((bytes : List ℕ) → P bytes → Q bytes) → IfSome known P → IfSome known Q
each_known None follows fact = tt
each_known (Some bytes) follows fact = follows bytes fact

-- what a pattern says of some lines another says of the same lines, where both are one
pub of_one : {S : Type 0} (Of : S → List ℕ → Type 0) (seen own : S) (slice block : List ℕ)
    (before after : Option (List ℕ)) (found : Bool) → seen ≡ own → slice ≡ block
    → AreFiltered (Of seen) (lines_of slice) before after found
    → AreFiltered (Of own) (lines_of block) before after found
of_one Of seen own slice block before after found same is filtered =
    subst (λ s. AreFiltered (Of s) (lines_of block) before after found) same
    (subst (λ b. AreFiltered (Of seen) (lines_of b) before after found) is filtered)
