-- Replacements, match after match.
use Rattle.regex_lite.proofs.Common.{◌≡◌, ℕ, ◌+◌, List, [], ◌∷◌, ◌++◌, map, drop, slice_range}
use Rattle.regex_lite.proofs.Common.{Ok, Err, IfOk, Option, Result, chars, sym, refl, ap, ◌∙◌}
use Rattle.regex_lite.proofs.Common.{subst, inl, inr, arith, append_assoc, IfOk-weaker, Error}
use Rattle.regex_lite.proofs.Common.{Found, Ahead, IsOver, Passes, Expression, Groups, whole_span}
use Rattle.regex_lite.proofs.Common.{AreGroupsFound, found_span}
use Rattle.std.proofs.Common.{IfErr}
use Rattle.std.specs.Result.{IsErrAnd}
use Rattle.regex_lite.specs.Ahead.{AreAhead, AreFirstAhead, AreSoManyAhead}
use Rattle.regex_lite.specs.Compiled.{AreOfRegex}
use Rattle.regex_lite.specs.Replacements.{AreGroupsOfEach, IsAsked, IsChain, IsLeft}
use Rattle.regex_lite.specs.Replacements.{IsRefused, IsRefusedAt, IsReplacedBy, IsReplacedInTurn}
use Rattle.regex_lite.specs.Replacements.{replaced_by}
use Rattle.regex_lite.specs.Replacing.{Answer}
use Rattle.regex_lite.proofs.AheadLemmas.{ahead_cons, ahead_nil, first_cons}
use Rattle.regex_lite.proofs.string.ScanLemmas.{of_regex}

together : (a b c d : List ℕ) → ((a ++ b) ++ c) ++ d ≡ a ++ (b ++ c ++ d)
together a b c d = simp append_assoc

-- the text that was made, followed by the haystack from this offset on with what is ahead of it
-- replaced, is a replacement of what was ahead at the start
pub record Continues (text : List ℕ) (start a : Ahead) (from : ℕ) (made : List ℕ) : Type 0 where
  pub on : (found : List Found) → AreAhead a found
      → IsReplacedBy text start
      (made ++ replaced_by text start.haystack from (map (found_span (chars start.haystack)) found))

pub passed_on : {text : List ℕ} {start old new : Ahead} {found : Found} {from to : ℕ}
    {span : ℕ × ℕ} {made written : List ℕ} → Continues text start old from made
    → Passes old found new → span ≡ found_span (chars start.haystack) found → to ≡ span.1
    → written ≡ (made ++ slice_range start.haystack from span.0) ++ text
    → Continues text start new to written
passed_on {text} {start} {old} {new} {found} {from} {span} {made} so_far passes is at more =
    rw (at, more) (record {
      on = λ list are.
          let rest : ℕ × ℕ → List ℕ = λ own. replaced_by text start.haystack own.1
          (map (found_span (chars start.haystack)) list) in
          subst (IsReplacedBy text start)
          (ap (λ (own : ℕ × ℕ). made ++ (slice_range start.haystack from own.0 ++ text ++ rest own))
          (sym is) ∙ sym (together made (slice_range start.haystack from span.0) text (rest span)))
          (so_far.on (found ∷ list) (ahead_cons old new found list passes are));
    })

pub replaced_at_end : {text : List ℕ} {start a : Ahead} {from : ℕ} {made : List ℕ}
    → Continues text start a from made → IsOver a
    → IsReplacedBy text start (made ++ drop from start.haystack)
replaced_at_end {a} so_far over = so_far.on [] (ahead_nil a over)

-- this many were passed: with those that are ahead they are as many as were ahead at the start
pub record Counts (start a : Ahead) (count : ℕ) : Type 0 where
  pub on : (more : ℕ) → AreSoManyAhead a more → AreSoManyAhead start (count + more)

pub counts_one_more : {start old new : Ahead} {found : Found} {count now : ℕ}
    → Counts start old count → Passes old found new → now ≡ count + 1 → Counts start new now
counts_one_more {start} {old} {new} {found} {count} so_far passes one = record {
  on = λ more (list, are, is).
      let all = so_far.on (more + 1)
      (found ∷ list, ahead_cons old new found list passes are, omega (arith, is)) in
      (all.0, all.1, omega (arith, all.2, one));
}

-- so at the end all are counted
pub counted_at_end : {T E : Type 0} {start a : Ahead} {count : ℕ} (result : Result (T × ℕ) E)
    → Counts start a count → IsOver a → IfOk result (λ reported. reported.1 ≡ count)
    → IfOk result (λ reported. AreSoManyAhead start reported.1)
counted_at_end {start} {a} {count} result so_far over =
    let all = so_far.on 0 ([], ahead_nil a over, refl) in
    IfOk-weaker result (λ reported. reported.1 ≡ count)
    (λ reported. AreSoManyAhead start reported.1)
    (λ reported is. (all.0, all.1, omega (arith, all.2, is)))

module _ {R : Type 0} (Fixed : R → Option (List ℕ) → R → Type 0)
    (Appends : R → Groups → List ℕ → Answer → R → Type 0) where
  -- the same for what a replacer appends match by match, for what it refuses, and for what it was
  -- asked for
  pub record ContinuesInTurn (first : R) (start a : Ahead) (rep : R) (from : ℕ) (made : List ℕ)
      : Type 0 where
    pub on : (found : List Found) (groups : List Groups) (rest : List ℕ) (last : R)
        → AreAhead a found → AreGroupsOfEach start.sought start.haystack found groups
        → IsChain Fixed Appends start.haystack rep from groups rest last
        → IsReplacedInTurn Fixed Appends first start (made ++ rest) last
    pub refuses : (found : List Found) (groups : List Groups) (error : Error) (last : R)
        → AreFirstAhead a found → AreGroupsOfEach start.sought start.haystack found groups
        → IsRefusedAt Fixed Appends rep groups error last
        → IsRefused Fixed Appends first start error last
    pub leaves : (found : List Found) (groups : List Groups) (last : R) → AreFirstAhead a found
        → AreGroupsOfEach start.sought start.haystack found groups
        → IsAsked Fixed Appends rep groups last → IsLeft Fixed Appends first start last

  pub in_turn_passed : {first : R} {start old new : Ahead} {rep after : R} {found : Found}
      {groups : Groups} {from to : ℕ} {made text written : List ℕ}
      → ContinuesInTurn first start old rep from made → Passes old found new
      → AreGroupsFound start.sought start.haystack found groups
      → Appends rep groups text (Ok tt) after → to ≡ (whole_span groups).1
      → written ≡ (made ++ slice_range start.haystack from (whole_span groups).0) ++ text
      → ContinuesInTurn first start new after to written
  in_turn_passed {first} {start} {old} {new} {after} {found} {groups} {from} {made} {text} so_far
      passes are asked is more =
      rw (is, more) (record {
        on = λ list others rest last ahead each chain.
            let before = slice_range start.haystack from (whole_span groups).0 in
            subst (λ new. IsReplacedInTurn Fixed Appends first start new last)
            (sym (together made before text rest))
            (so_far.on (found ∷ list) (groups ∷ others) (before ++ text ++ rest) last
            (ahead_cons old new found list passes ahead) (are, each)
            (text, rest, after, asked, refl, chain));
        refuses = λ list others error last ahead each refused.
            so_far.refuses (found ∷ list) (groups ∷ others) error last
            (first_cons old new found list passes ahead) (are, each)
            (inr (text, after, asked, refused));
        leaves = λ list others last ahead each more.
            so_far.leaves (found ∷ list) (groups ∷ others) last
            (first_cons old new found list passes ahead) (are, each) (text, after, asked, more);
      })

  pub in_turn_at_end : {first : R} {start a : Ahead} {rep : R} {from : ℕ} {made : List ℕ}
      → ContinuesInTurn first start a rep from made → IsOver a
      → IsReplacedInTurn Fixed Appends first start (made ++ drop from start.haystack) rep
  in_turn_at_end {start} {a} {rep} {from} so_far over =
      so_far.on [] [] (drop from start.haystack) rep (ahead_nil a over) tt (refl, refl)

  -- a replacer that refused none so far is left as it is
  pub in_turn_left : {first : R} {start a : Ahead} {rep : R} {from : ℕ} {made : List ℕ}
      → ContinuesInTurn first start a rep from made → IsLeft Fixed Appends first start rep
  in_turn_left {rep} so_far = so_far.leaves [] [] rep tt tt refl

  pub in_turn_refused : {first : R} {start old new : Ahead} {rep after : R} {found : Found}
      {groups : Groups} {from : ℕ} {made text : List ℕ} {error : Error}
      → ContinuesInTurn first start old rep from made → Passes old found new
      → AreGroupsFound start.sought start.haystack found groups
      → Appends rep groups text (Err error) after
      → IsRefused Fixed Appends first start error after
  in_turn_refused {old} {new} {after} {found} {groups} {text} {error} so_far passes are asked =
      so_far.refuses (found ∷ []) (groups ∷ []) error after (first_cons old new found [] passes tt)
      (are, tt) (inl (text, asked))

-- groups that were found by the same regex in the same haystack
pub found_there : {re other : Expression} {bytes haystack : List ℕ} (found : Found)
    (groups : Groups) → re ≡ other → bytes ≡ haystack → AreGroupsFound re bytes found groups
    → AreGroupsFound other haystack found groups
found_there {re} {haystack} found groups same there are =
    subst (λ own. AreGroupsFound own haystack found groups) same
    (subst (λ own. AreGroupsFound re own found groups) there are)

-- a match that was passed leaves what is searched for
pub sought_kept : (start : Ahead) {old new : Ahead} {found : Found} → Passes old found new
    → old.sought ≡ start.sought → new.sought ≡ start.sought
sought_kept start passes same = ap (λ (a : Ahead). a.sought) passes.passed ∙ same

-- and the haystack
pub haystack_kept : (start : Ahead) {old new : Ahead} {found : Found} → Passes old found new
    → old.haystack ≡ start.haystack → new.haystack ≡ start.haystack
haystack_kept start passes same = ap (λ (a : Ahead). a.haystack) passes.passed ∙ same

-- so its groups are of the regex that is searched for after it
pub of_passed : {old new : Ahead} {found : Found} (groups : Groups) → Passes old found new
    → AreGroupsFound old.sought old.haystack found groups → AreOfRegex new.sought groups
of_passed {old} {found} groups passes are =
    subst (λ own. AreOfRegex own groups) (sym (sought_kept old passes refl))
    (of_regex old.sought old.haystack found groups are)

-- a replacer that was asked for none is left as it is
pub none_asked : {R : Type 0} (Fixed : R → Option (List ℕ) → R → Type 0)
    (Appends : R → Groups → List ℕ → Answer → R → Type 0) (rep : R) (a : Ahead)
    → IsLeft Fixed Appends rep a rep
none_asked Fixed Appends rep a =
    record { found = []; are_first = tt; groups = []; each = tt; are = refl }

-- what follows from what holds of an error holds of it
pub of_error : {T E : Type 0} {Is Was : E → Type 0} (result : Result T E) → IfErr result Was
    → ((error : E) → Was error → Is error) → IfErr result Is
of_error (Ok value) was so = tt
of_error (Err error) was so = so error was

-- what holds of each error that was handed on holds of the one that is returned
pub handed_on : {T E : Type 0} {Is Was : E → Type 0} (result : Result T E)
    → IsErrAnd result Was → ((error : E) → Was error → Is error) → IfErr result Is
handed_on (Ok value) handed so = absurd handed
handed_on (Err error) handed so = so error handed
