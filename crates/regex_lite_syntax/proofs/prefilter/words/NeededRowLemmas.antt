-- How the rows of letters are found of which one becomes a word that each match has.
use Rattle.regex_lite_syntax.proofs.Common.{◌≡◌, ◌⊎◌, ℕ, ◌+◌, ◌-◌, ◌<◌, ◌≤◌}
use Rattle.regex_lite_syntax.proofs.Common.{List, [], ◌∷◌, ◌++◌, length, drop}
use Rattle.regex_lite_syntax.proofs.Common.{Text, inl, inr, sym, refl, ap, ◌∙◌}
use Rattle.regex_lite_syntax.proofs.Common.{subst, arith, true}
use Rattle.regex_lite_syntax.proofs.Common.{Letter}
use Rattle.regex_lite_syntax.proofs.Common.{drop_more, slice_index, IsLetter, StartsWith}
use Rattle.regex_lite_syntax.proofs.Common.{begins_with, cases_lt, get_or-drop, length-append}
use Rattle.regex_lite_syntax.proofs.Common.{drop_all, IsWider}
use Rattle.std.proofs.Common.{encode_utf8, encode_utf8_all}
use Rattle.std.proofs.lemmas.List.{drop-drop}
use Rattle.std.proofs.lemmas.Str.{encode_ascii}
use Rattle.regex_lite_syntax.specs.declared.prefilter.words.needed_walk.NeededWalk.{NeededWalk}
use Rattle.regex_lite_syntax.specs.Prefilter.Needed.{Reaches}
use Rattle.regex_lite_syntax.specs.Prefilter.NeededWalk.{AreAmong, as_needed, EndsRow, FindsBytes}
use Rattle.regex_lite_syntax.specs.Prefilter.NeededWalk.{FindsLetter, HasFound}
use Rattle.regex_lite_syntax.specs.Prefilter.FirstSet.{AreBetween}
use Rattle.regex_lite_syntax.proofs.prefilter.first_set.ReadLemmas.{same_width}
use Rattle.regex_lite_syntax.proofs.prefilter.first_set.StartLemmas.{grown_on}
use Rattle.regex_lite_syntax.proofs.prefilter.words.LeadLemmas.{byte_among, bytes_later}
use Rattle.regex_lite_syntax.proofs.prefilter.words.NextLemmas.{any_stands}
use Rattle.regex_lite_syntax.proofs.prefilter.words.RowLemmas.{reads_both}

-- where the row has no letters, what was found stays found whatever is passed over
pub found_later : (walk : NeededWalk) (bytes : List ℕ) (h : Text) (i j : ℕ) → walk.row ≡ []
    → walk.row_lead ≡ walk.read → i ≤ j → AreBetween walk.read h i j
    → HasFound bytes (encode_utf8_all (drop i h)) walk
    → HasFound bytes (encode_utf8_all (drop j h)) walk
found_later walk bytes h i j no_row led le all found =
    let (m, is, among) = bytes_later walk.read h i j le all in
    let at = found.row_at + m in
    let here : drop found.row_at bytes ≡ encode_utf8_all (drop i h) =
    sym (ap (λ row. drop (length row) (drop found.row_at bytes)) no_row) ∙ found.behind in
    let short : length walk.row ≡ 0 = ap length no_row in
    let read : AreAmong walk.read bytes at = λ k lt. elim (cases_lt k found.row_at) [
      | inl before ↦ found.read k (omega (arith, before))
      | inr later ↦
          let own = among (k - found.row_at) (omega (arith, lt, later)) in
          let there : slice_index (encode_utf8_all (drop i h)) (k - found.row_at)
          ≡ slice_index bytes k =
          sym (ap (λ b. slice_index b (k - found.row_at)) here)
          ∙ get_or-drop found.row_at bytes (k - found.row_at) 0
          ∙ ap (slice_index bytes) (omega (arith, later)) in
          ap (begins_with walk.read) (sym there) ∙ own
    ] in
    record {
      best = found.best;
      row_at = at;
      row = subst (λ row. StartsWith row (drop at bytes)) (sym no_row) tt;
      behind = ap (λ row. drop (length row) (drop at bytes)) no_row
          ∙ sym (drop-drop m found.row_at bytes) ∙ ap (drop m) here ∙ sym is;
      led = subst (λ lead. AreAmong lead bytes at) (sym led) read;
      read = λ k lt. read k (omega (arith, lt, short));
    }

-- what was found before the row was ended
pub found_ended : (bytes rest : List ℕ) (before after : NeededWalk) → EndsRow before after
    → HasFound bytes rest before → HasFound bytes rest after
found_ended bytes rest before walk ends found =
    let at = found.row_at + length before.row in
    let short : length walk.row ≡ 0 = ap length ends.row in
    record {
      best = elim ends.best [
        | inl same ↦ subst (λ needed. Reaches needed bytes 0) (sym same) found.best
        | inr taken ↦ subst (λ needed. Reaches needed bytes 0) (sym taken) (
          found.row_at,
          (
            omega arith,
            any_stands before.row bytes found.row_at found.row,
            λ k low lt. found.led k lt,
          ),
        )
      ];
      row_at = at;
      row = subst (λ row. StartsWith row (drop at bytes)) (sym ends.row) tt;
      behind = ap (λ row. drop (length row) (drop at bytes)) ends.row
          ∙ sym (drop-drop (length before.row) found.row_at bytes) ∙ found.behind;
      led = subst (λ lead. AreAmong lead bytes at) (sym ends.led) found.read;
      read = λ k lt. subst (λ read. begins_with read (slice_index bytes k) ≡ true)
          (sym ends.read) (found.read k (omega (arith, lt, short)));
    }

-- a letter more is in the row, and its bytes are among what is read
pub record Pushes (letter : Letter) (before after : NeededWalk) : Type 0 where
  pub best : as_needed after.best after.best_lead ≡ as_needed before.best before.best_lead
  pub row : after.row ≡ before.row ++ letter ∷ []
  pub led : after.row_lead ≡ before.row_lead
  pub wider : IsWider before.read after.read
  pub own : begins_with after.read letter.byte ≡ true
  pub other : begins_with after.read letter.other ≡ true

pub letter_added : (letter : Letter) (before after : NeededWalk) → Pushes letter before after
    → FindsLetter letter before after
letter_added letter before walk pushes = record {
  finds = λ bytes rest byte own found.
      let from = drop found.row_at bytes in
      let longer = reads_both before.row (letter ∷ []) from (byte ∷ rest) rest
      (record { stands = found.row; all = found.behind })
      (record { stands = (own, tt); all = refl }) in
      let last = found.row_at + length before.row in
      let size : length walk.row ≡ length before.row + 1 =
      ap length pushes.row ∙ length-append before.row (letter ∷ []) in
      let no_more : last ≡ last + 0 = omega arith in
      let there : slice_index bytes last ≡ byte =
      ap (slice_index bytes) no_more ∙ sym (get_or-drop last bytes 0 0)
      ∙ ap (λ b. slice_index b 0) (sym (drop-drop (length before.row) found.row_at bytes)
      ∙ found.behind) in
      record {
        best = subst (λ needed. Reaches needed bytes 0) (sym pushes.best) found.best;
        row_at = found.row_at;
        row = subst (λ row. StartsWith row from) (sym pushes.row) longer.stands;
        behind = ap (λ row. drop (length row) from) pushes.row ∙ longer.all;
        led = subst (λ lead. AreAmong lead bytes found.row_at) (sym pushes.led) found.led;
        read = λ k lt. elim (cases_lt k last) [
          | inl before ↦ pushes.wider.with (slice_index bytes k) (found.read k before)
          | inr later ↦
              let same : k ≡ last = omega (arith, lt, later, size) in
              ap (λ at. begins_with walk.read (slice_index bytes at)) same
              ∙ ap (begins_with walk.read) there ∙ among byte own
        ];
      };
  reads = among;
  wider = pushes.wider;
}
  where
    among : (byte : ℕ) → IsLetter letter byte → begins_with walk.read byte ≡ true
    among byte (inl is) = ap (begins_with walk.read) is ∙ pushes.own
    among byte (inr is) = ap (begins_with walk.read) is ∙ pushes.other

-- a letter after a row that may have been ended
pub letter_after : (letter : Letter) (before now after : NeededWalk)
    → EndsRow before now ⊎ (now ≡ before) → FindsLetter letter now after
    → FindsLetter letter before after
letter_after letter before now walk (inr same) adds =
    subst (λ from. FindsLetter letter from walk) same adds
letter_after letter before now walk (inl ends) adds = record {
  finds = λ bytes rest byte own found.
      adds.finds bytes rest byte own (found_ended bytes (byte ∷ rest) before now ends found);
  reads = adds.reads;
  wider = subst (λ read. IsWider read walk.read) ends.read adds.wider;
}

-- what was found before these bytes is also found behind the first of them, as many as that
pub record FindsFirst (all : List ℕ) (k : ℕ) (before now : NeededWalk) : Type 0 where
  pub finds : (bytes rest : List ℕ) → HasFound bytes (all ++ rest) before
      → HasFound bytes (drop k all ++ rest) now
  pub reads : AreAmong now.read all k
  pub wider : IsWider before.read now.read

pub none_first : (all : List ℕ) (walk : NeededWalk) → FindsFirst all 0 walk walk
none_first all walk = record {
  finds = λ bytes rest found. found;
  reads = λ k lt. absurd (omega (arith, lt));
  wider = same_width walk.read;
}

-- a byte more of what is read
pub byte_found : (all : List ℕ) (k : ℕ) (letter : Letter) (before now next : NeededWalk)
    → k < length all → letter.byte ≡ slice_index all k → FindsFirst all k before now
    → FindsLetter letter now next → FindsFirst all (k + 1) before next
byte_found all k letter before now next inside own so_far adds = record {
  finds = λ bytes rest found.
      adds.finds bytes (drop (k + 1) all ++ rest) (slice_index all k) (inl (sym own))
      (subst (λ left. HasFound bytes (left ++ rest) now) (drop_more all k 0 inside)
      (so_far.finds bytes rest found));
  reads = λ n lt. elim (cases_lt n k) [
    | inl first ↦ adds.wider.with (slice_index all n) (so_far.reads n first)
    | inr last ↦
        let same : n ≡ k = omega (arith, lt, last) in
        ap (λ at. begins_with next.read (slice_index all at)) same
        ∙ adds.reads (slice_index all k) (inl (sym own))
  ];
  wider = grown_on before.read now.read next.read so_far.wider adds.wider;
}

-- and all of them
pub bytes_found : (all : List ℕ) (k : ℕ) (before now : NeededWalk) → length all ≤ k
    → FindsFirst all k before now → FindsBytes all before now
bytes_found all k before now end so_far = record {
  finds = λ bytes rest found.
      subst (λ left. HasFound bytes (left ++ rest) now) (drop_all k all end)
      (so_far.finds bytes rest found);
  reads = λ n lt. so_far.reads n (omega (arith, lt, end));
  wider = so_far.wider;
}

-- an ASCII character is one letter
pub ascii_found : (c : ℕ) (letter : Letter) (before after : NeededWalk) → c < 128
    → letter.byte ≡ c → FindsLetter letter before after → FindsBytes (encode_utf8 c) before after
ascii_found c letter before walk low own adds = record {
  finds = λ bytes rest found. adds.finds bytes rest c (inl (sym own))
      (subst (λ first. HasFound bytes (first ++ rest) before) (encode_ascii c low) found);
  reads = byte_among walk.read c (adds.reads c (inl (sym own)));
  wider = adds.wider;
}
