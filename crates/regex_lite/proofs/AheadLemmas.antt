-- Steps of what is ahead.
use Rattle.regex_lite.proofs.Common.{◌≡◌, ℕ, zero, suc, ◌+◌, ◌-◌, ◌<◌, ◌≤◌, ◌≢◌, ◌⊎◌, List, [], ◌∷◌}
use Rattle.regex_lite.proofs.Common.{length, Some, None, Option, chars, refl, subst, inl, inr}
use Rattle.regex_lite.proofs.Common.{arith, Text, Found, Ahead, IsOver, Passes, IsOnward}
use Rattle.regex_lite.proofs.Common.{most_ahead, Expression, one_less, AreWithin, Scanning}
use Rattle.regex_lite.specs.Ahead.{AreAhead, AreFirstAhead, most_left}
use Rattle.regex_lite.specs.MatchList.{AreFirst, IsNext}

module _ (re : Expression) (haystack : Text) where
  within_cons : (limit ended : Option ℕ) (found : Found) (list : List Found) → limit ≢ Some 0
      → IsNext re haystack ended (Some found)
      → AreWithin re haystack (one_less limit) (Some found.end) list
      → AreWithin re haystack limit ended (found ∷ list)
  within_cons None ended found list may next rest = (next, rest)
  within_cons (Some zero) ended found list may next rest = absurd (may refl)
  within_cons (Some (suc k)) ended found list may next rest =
      (next, subst (λ n. AreFirst re haystack n (Some found.end) list) (omega arith) rest)

  within_nil : (limit ended : Option ℕ) → (limit ≡ Some 0) ⊎ IsNext re haystack ended None
      → AreWithin re haystack limit ended []
  within_nil None ended (inl none) = absurd cc
  within_nil None ended (inr over) = over
  within_nil (Some zero) ended over = refl
  within_nil (Some (suc k)) ended (inl none) = absurd cc
  within_nil (Some (suc k)) ended (inr over) = over

-- where a match is passed, it was ahead with those that are ahead now
pub ahead_cons : (old new : Ahead) (found : Found) (list : List Found) → Passes old found new
    → AreAhead new list → AreAhead old (found ∷ list)
ahead_cons old new found list passes are =
    within_cons old.sought (chars old.haystack) old.limit old.ended found list passes.may_come
    passes.comes (subst (λ a. AreAhead a list) passes.passed are)

-- so it was before the first of those that are ahead now
pub first_cons : (old new : Ahead) (found : Found) (list : List Found) → Passes old found new
    → AreFirstAhead new list → AreFirstAhead old (found ∷ list)
first_cons old new found list passes are =
    (passes.may_come, passes.comes, subst (λ a. AreFirstAhead a list) passes.passed are)

-- at the end none is ahead
pub ahead_nil : (a : Ahead) → IsOver a → AreAhead a []
ahead_nil a over = within_nil a.sought (chars a.haystack) a.limit a.ended over

at_most_left : (limit : Option ℕ) (bytes e : ℕ) → most_left limit bytes (Some e) ≤ (bytes + 1) - e
at_most_left None bytes e = omega arith
at_most_left (Some zero) bytes e = omega arith
at_most_left (Some (suc k)) bytes e = omega arith

all_left : (limit ended : Option ℕ) (bytes : ℕ) → limit ≢ Some 0
    → most_left limit bytes ended ≡ most_left None bytes ended
all_left None ended bytes may = refl
all_left (Some zero) ended bytes may = absurd (may refl)
all_left (Some (suc k)) None bytes may = refl
all_left (Some (suc k)) (Some e) bytes may = refl

fewer_left : (ended : Option ℕ) (bytes : ℕ) (span : ℕ × ℕ) → IsOnward ended span → span.1 ≤ bytes
    → (bytes + 1) - span.1 < most_left None bytes ended
fewer_left None bytes span onward inside = omega (arith, inside)
fewer_left (Some e) bytes span onward inside =
    omega (arith, inside, onward.1)

-- after a match fewer are ahead
pub fewer_after : (limit now ended : Option ℕ) (bytes : ℕ) (span : ℕ × ℕ) → limit ≢ Some 0
    → IsOnward ended span → span.1 ≤ bytes
    → most_left now bytes (Some span.1) < most_left limit bytes ended
fewer_after limit now ended bytes span may onward inside =
    let fewer = fewer_left ended bytes span onward inside in
    omega (arith, at_most_left now bytes span.1, all_left limit ended bytes may, fewer)

pub fewer_ahead : {F : Type 0} (old new : Scanning F) (span : ℕ × ℕ) → old.limit ≢ Some 0
    → new.haystack ≡ old.haystack → new.ended ≡ Some span.1 → IsOnward old.ended span
    → span.1 ≤ length old.haystack → most_ahead new < most_ahead old
fewer_ahead old new span may same ended onward inside =
    rw (same, ended)
    (fewer_after old.limit new.limit old.ended (length old.haystack) span may onward inside)
