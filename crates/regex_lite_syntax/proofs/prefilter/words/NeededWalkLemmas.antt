-- How words are found of which each match has one, kind by kind of tree.
use Rattle.regex_lite_syntax.proofs.Common.{◌≡◌, ℕ, suc, ◌+◌, ◌-◌, ◌<◌, ◌≤◌, Bool, Some}
use Rattle.regex_lite_syntax.proofs.Common.{List, [], ◌∷◌, ◌++◌, length, drop, Option, Tree, Trees}
use Rattle.regex_lite_syntax.proofs.Common.{Matches, Chain, Text, sym, ap, ◌∙◌}
use Rattle.regex_lite_syntax.proofs.Common.{subst, arith, IsTrue, in_ranges, look, class, true}
use Rattle.regex_lite_syntax.proofs.Common.{repetition, concat, more, ClassRange, Look, Letter}
use Rattle.regex_lite_syntax.proofs.Common.{slice_index, IsLetter, StartsWith}
use Rattle.regex_lite_syntax.proofs.Common.{begins_with}
use Rattle.regex_lite_syntax.proofs.Common.{IsWider}
use Rattle.std.proofs.Common.{encode_utf8, encode_utf8_all}
use Rattle.std.proofs.lemmas.Str.{encode_ascii}
use Rattle.regex_lite_syntax.specs.Tree.{character, empty, none}
use Rattle.regex_lite_syntax.specs.Tree.Matches.{Passes}
use Rattle.regex_lite_syntax.specs.declared.prefilter.words.needed_walk.NeededWalk.{NeededWalk}
use Rattle.regex_lite_syntax.specs.Prefilter.Needed.{IsNeededBy, Reaches}
use Rattle.regex_lite_syntax.specs.Prefilter.NeededWalk.{as_needed, Chooses, EndsRow, FindsBytes}
use Rattle.regex_lite_syntax.specs.Prefilter.NeededWalk.{FindsLetter, FindsPast, HasFound, Leaves}
use Rattle.regex_lite_syntax.specs.Prefilter.FirstSet.{ReadsAmong}
use Rattle.regex_lite_syntax.proofs.ForwardLemmas.{chain_forward, is_forward, passes_forward}
use Rattle.regex_lite_syntax.proofs.prefilter.first_set.ReadLemmas.{LeftAmong, one_between}
use Rattle.regex_lite_syntax.proofs.prefilter.first_set.ReadLemmas.{passes_between, reads_look}
use Rattle.regex_lite_syntax.proofs.prefilter.first_set.ReadLemmas.{reads_nothing, reads_parts}
use Rattle.regex_lite_syntax.proofs.prefilter.first_set.ReadLemmas.{reads_passes, same_width}
use Rattle.regex_lite_syntax.proofs.prefilter.first_set.ReadLemmas.{tree_left}
use Rattle.regex_lite_syntax.proofs.prefilter.first_set.StartLemmas.{grown_on}
use Rattle.regex_lite_syntax.proofs.prefilter.words.LeadLemmas.{char_among}
use Rattle.regex_lite_syntax.proofs.prefilter.words.NextLemmas.{any_stands}
use Rattle.regex_lite_syntax.proofs.prefilter.words.RowLemmas.{char_first, only_passes}
use Rattle.regex_lite_syntax.proofs.prefilter.words.NeededRowLemmas.{found_ended, found_later}

-- what reads nothing
pub finds_empty : (walk : NeededWalk) → FindsPast empty walk walk
finds_empty walk = record {
  finds = λ h bytes i j found same.
      subst (λ k. HasFound bytes (encode_utf8_all (drop k h)) walk) same found;
  reads = reads_nothing walk.read;
  wider = same_width walk.read;
}

pub finds_look : (test : Look) (walk : NeededWalk) → FindsPast (look test) walk walk
finds_look test walk = record {
  finds = λ h bytes i j found (holds, same).
      subst (λ k. HasFound bytes (encode_utf8_all (drop k h)) walk) same found;
  reads = reads_look test walk.read;
  wider = same_width walk.read;
}

pub finds_character : (c : ℕ) (before after : NeededWalk) → FindsBytes (encode_utf8 c) before after
    → FindsPast (character c) before after
finds_character c before walk adds = record {
  finds = λ h bytes i j found (there, next).
      subst (λ k. HasFound bytes (encode_utf8_all (drop k h)) walk) (sym next)
      (adds.finds bytes (encode_utf8_all (drop (suc i) h))
      (subst (λ rest. HasFound bytes (encode_utf8_all rest) before) (char_first i h c there)
      found));
  reads = λ h i j (there, next).
      one_between walk.read h i j c there next (char_among walk.read c adds.reads);
  wider = adds.wider;
}

pub finds_class : (ranges : List ClassRange) (letter : Letter) (before after : NeededWalk)
    → ((c : ℕ) → IsTrue (in_ranges ranges c) → (c < 128) × IsLetter letter c)
    → FindsLetter letter before after → FindsPast (class ranges) before after
finds_class ranges letter before walk each adds = record {
  finds = λ h bytes i j found (c, there, member, next).
      let own = each c member in
      let rest = ap encode_utf8_all (char_first i h c there)
      ∙ ap (λ b. b ++ encode_utf8_all (drop (suc i) h)) (encode_ascii c own.0) in
      subst (λ k. HasFound bytes (encode_utf8_all (drop k h)) walk) (sym next)
      (adds.finds bytes (encode_utf8_all (drop (suc i) h)) c own.1
      (subst (λ left. HasFound bytes left before) rest found));
  reads = λ h i j (c, there, member, next).
      one_between walk.read h i j c there next (adds.reads c (each c member).1);
  wider = adds.wider;
}

-- more is counted as read
pub record ReadsMore (before after : NeededWalk) : Type 0 where
  pub same : after ≡ record before { read = after.read }
  pub wider : IsWider before.read after.read

found_reading : (bytes rest : List ℕ) (before after : NeededWalk) → ReadsMore before after
    → HasFound bytes rest before → HasFound bytes rest after
found_reading bytes rest before walk reads found =
    subst (HasFound bytes rest) (sym reads.same) (record {
      best = found.best;
      row_at = found.row_at;
      row = found.row;
      behind = found.behind;
      led = found.led;
      read = λ k lt. reads.wider.with (slice_index bytes k) (found.read k lt);
    })

-- after that the row is ended
pub leaves : (before now after : NeededWalk) → ReadsMore before now → EndsRow now after
    → Leaves before after
leaves before now walk reads ends = record {
  finds = λ h bytes i j le all found.
      found_later walk bytes h i j ends.row (ends.led ∙ sym ends.read) le all
      (found_ended bytes (encode_utf8_all (drop i h)) now walk ends
      (found_reading bytes (encode_utf8_all (drop i h)) before now reads found));
  wider = subst (IsWider before.read) (sym ends.read) reads.wider;
}

-- any tree, if what it reads is counted
pub finds_any : (tree : Tree) (before after : NeededWalk) → ReadsAmong tree after.read
    → Leaves before after → FindsPast tree before after
finds_any tree before walk reads left = record {
  finds = λ h bytes i j found matches.
      left.finds h bytes i j (is_forward h tree i j matches).0 (reads h i j matches) found;
  reads = reads;
  wider = left.wider;
}

-- and before it other words may become the best
pub chosen_first : (tree : Tree) (before now after : NeededWalk) → Chooses tree before now
    → FindsPast tree now after → FindsPast tree before after
chosen_first tree before now walk chooses past = record {
  finds = λ h bytes i j found matches.
      past.finds h bytes i j (chooses.finds h bytes i j found matches) matches;
  reads = past.reads;
  wider = subst (λ read. IsWider read walk.read) chooses.read past.wider;
}

-- what was found up to so many passes, where others may follow
pub record FindsPasses (body : Tree) (count : ℕ) (before now : NeededWalk) : Type 0 where
  pub finds : (h : Text) (bytes : List ℕ) (i j n left : ℕ) → n ≡ count + left
      → HasFound bytes (encode_utf8_all (drop i h)) before → Passes (Matches h body) n i j
      → (k : ℕ) × HasFound bytes (encode_utf8_all (drop k h)) now × Passes (Matches h body) left k j
  pub reads : 0 < count → ReadsAmong body now.read
  pub wider : IsWider before.read now.read

pub no_pass_passed : (body : Tree) (walk : NeededWalk) → FindsPasses body 0 walk walk
no_pass_passed body walk = record {
  finds = λ h bytes i j n left total found passes.
      (i, found, subst (λ n. Passes (Matches h body) n i j) (omega (arith, total)) passes);
  reads = λ some. absurd (omega (arith, some));
  wider = same_width walk.read;
}

pub pass_passed : (body : Tree) (count : ℕ) (before now next : NeededWalk)
    → FindsPasses body count before now → FindsPast body now next
    → FindsPasses body (count + 1) before next
pass_passed body count before now next passes pass = record {
  finds = λ h bytes i j n left total found all.
      let (k, here, (m, first, rest)) =
      passes.finds h bytes i j n (suc left) (omega (arith, total)) found all in
      (m, pass.finds h bytes k m here first, rest);
  reads = λ _. pass.reads;
  wider = grown_on before.read now.read next.read passes.wider pass.wider;
}

-- there are never more passes than were passed
pub all_passes_passed : (least : ℕ) (most : Option ℕ) (greedy : Bool) (body : Tree)
    (before now : NeededWalk) → 0 < least → most ≡ Some least
    → FindsPasses body least before now
    → FindsPast (repetition least most greedy body) before now
all_passes_passed least most greedy body before now some exact passes = record {
  finds = λ h bytes i j found (n, low, high, all).
      let few = only_passes least n most exact low high in
      let (k, here, same) = passes.finds h bytes i j n 0 (omega (arith, few)) found all in
      subst (λ m. HasFound bytes (encode_utf8_all (drop m h)) now) same here;
  reads = reads_passes least most greedy body now.read (passes.reads some);
  wider = passes.wider;
}

-- or there may be more, before which the row is ended
pub finds_passes : (least : ℕ) (most : Option ℕ) (greedy : Bool) (body : Tree) (count : ℕ)
    (before now after : NeededWalk) → 0 < count → count ≤ least
    → FindsPasses body count before now → EndsRow now after
    → FindsPast (repetition least most greedy body) before after
finds_passes least most greedy body count before now walk some few first ends = record {
  finds = λ h bytes i j found (n, low, high, passes).
      let (k, here, rest) =
      first.finds h bytes i j n (n - count) (omega (arith, few, low)) found passes in
      found_later walk bytes h k j ends.row (ends.led ∙ sym ends.read)
      (passes_forward h (Matches h body) (λ a b m. is_forward h body a b m) (n - count) k j rest).0
      (passes_between body walk.read reads_body h (n - count) k j rest)
      (found_ended bytes (encode_utf8_all (drop k h)) now walk ends here);
  reads = reads_passes least most greedy body walk.read reads_body;
  wider = subst (IsWider before.read) (sym ends.read) first.wider;
}
  where
    reads_body : ReadsAmong body walk.read
    reads_body = subst (ReadsAmong body) (sym ends.read) (first.reads some)

-- what was found up to some part of a row, where the others follow
pub record FindsParts (all left : Trees) (before now : NeededWalk) : Type 0 where
  pub finds : (h : Text) (bytes : List ℕ) (i j : ℕ)
      → HasFound bytes (encode_utf8_all (drop i h)) before → Chain h all i j
      → (k : ℕ) × HasFound bytes (encode_utf8_all (drop k h)) now × Chain h left k j
  pub reads : LeftAmong all left now.read
  pub wider : IsWider before.read now.read

pub no_part_passed : (all : Trees) (walk : NeededWalk) → FindsParts all all walk walk
no_part_passed all walk = record {
  finds = λ h bytes i j found chain. (i, found, chain);
  reads = λ s wider each. each;
  wider = same_width walk.read;
}

pub part_passed : (all left : Trees) (a : Tree) (before now next : NeededWalk)
    → FindsParts all (more a left) before now → FindsPast a now next
    → FindsParts all left before next
part_passed all left a before now next parts part = record {
  finds = λ h bytes i j found chain.
      let (k, here, (m, first, rest)) = parts.finds h bytes i j found chain in
      (m, part.finds h bytes k m here first, rest);
  reads = tree_left all left a now.read next.read part.wider part.reads parts.reads;
  wider = grown_on before.read now.read next.read parts.wider part.wider;
}

pub all_parts_passed : (all : Trees) (before now : NeededWalk) → FindsParts all none before now
    → FindsPast (concat all) before now
all_parts_passed all before now parts = record {
  finds = λ h bytes i j found chain.
      let (k, here, same) = parts.finds h bytes i j found chain in
      subst (λ m. HasFound bytes (encode_utf8_all (drop m h)) now) same here;
  reads = reads_parts all now.read (parts.reads now.read (same_width now.read) tt);
  wider = parts.wider;
}

-- or no others are looked at, and any characters are counted as read
pub parts_left : (all left : Trees) (before now after : NeededWalk)
    → FindsParts all left before now → ((c : ℕ) → begins_with after.read c ≡ true)
    → Leaves now after → FindsPast (concat all) before after
parts_left all left before now walk parts any leaves = record {
  finds = λ h bytes i j found chain.
      let (k, here, rest) = parts.finds h bytes i j found chain in
      leaves.finds h bytes k j (chain_forward h left k j rest).0 (λ m c low high there. any c) here;
  reads = λ h i j chain k c low high there. any c;
  wider = grown_on before.read now.read walk.read parts.wider leaves.wider;
}

-- each match of the whole tree has one of the best words
pub needed_by_walk : (tree : Tree) (before now after : NeededWalk) → before.best ≡ [] ∷ []
    → before.row ≡ [] → FindsPast tree before now → EndsRow now after
    → IsNeededBy tree (as_needed after.best after.best_lead)
needed_by_walk tree before now walk no_best no_row past ends h i j matches =
    (found_ended bytes (encode_utf8_all (drop j h)) now walk ends
    (past.finds h bytes i j begins matches)).best
  where
    bytes : List ℕ
    bytes = encode_utf8_all (drop i h)

    short : length before.row ≡ 0
    short = ap length no_row

    begins : HasFound bytes bytes before
    begins = record {
      best = subst (λ words. Reaches (as_needed words before.best_lead) bytes 0) (sym no_best)
          (0, (omega arith, any_stands [] bytes 0 tt, λ k low lt. absurd (omega (arith, lt))));
      row_at = 0;
      row = subst (λ row. StartsWith row bytes) (sym no_row) tt;
      behind = ap (λ row. drop (length row) bytes) no_row;
      led = λ k lt. absurd (omega (arith, lt));
      read = λ k lt. absurd (omega (arith, lt, short));
    }
