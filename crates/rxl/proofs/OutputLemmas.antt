-- What is printed, buffered and written, step by step.
use Rattle.std.proofs.Common.{◌≡◌, ℕ, Bool, true, false, not, List, [], ◌++◌, Option, Some}
use Rattle.std.proofs.Common.{None, MatchBool, Result, Ok, Err, IsErr, OnOk, is_ok, is_err}
use Rattle.std.proofs.Common.{refl, sym, ap, ◌∙◌, subst, take, drop, take-append-drop}
use Rattle.std.specs.Io.KnownBytes.{Appends, Keeps}
use Rattle.std.proofs.lemmas.Bool.{MatchBool-at_false}
use Rattle.std.proofs.lemmas.List.{append_assoc, append-nil}
use Rattle.rxl.specs.declared.output.Output.{Output}
use Rattle.rxl.specs.Output.{IsPrinted, IsWritten, Puts}

pub appends_nothing : (held : Option (List ℕ)) → Appends held held []
appends_nothing None = tt
appends_nothing (Some bytes) = sym (append-nil bytes)

pub appends_more : (before held holds : Option (List ℕ)) (first second : List ℕ)
    → Appends before held first → Appends held holds second → Appends before holds (first ++ second)
appends_more None held holds first second a b = tt
appends_more (Some x) None holds first second a b = absurd a
appends_more (Some x) (Some y) None first second a b = absurd b
appends_more (Some x) (Some y) (Some z) first second a b =
    b ∙ ap (λ bytes. bytes ++ second) a ∙ append_assoc x first second

pub appends_kept : (before held holds : Option (List ℕ)) (text : List ℕ)
    → Appends before held text → Keeps held holds → Appends before holds text
appends_kept None held holds text a k = tt
appends_kept (Some x) None holds text a k = absurd a
appends_kept (Some x) (Some y) None text a k = absurd k
appends_kept (Some x) (Some y) (Some z) text a k = k ∙ a

-- the front of what is left was written
pub front_written : (bytes written rest : List ℕ) (n : ℕ) → bytes ≡ written ++ rest
    → bytes ≡ (written ++ take n rest) ++ drop n rest
front_written bytes written rest n parts =
    parts ∙ ap (λ left. written ++ left) (sym (take-append-drop n rest))
    ∙ sym (append_assoc written (take n rest) (drop n rest))

pub at_true : (P Q : Type 0) (b : Bool) → b ≡ true → P → MatchBool b P Q
at_true P Q true is p = p
at_true P Q false is p = cc

at_false : (P Q : Type 0) (b : Bool) → b ≡ false → Q → MatchBool b P Q
at_false P Q true is q = cc
at_false P Q false is q = q

-- a text waits with the others
pub gathered : (old new : Output) (held : Option (List ℕ)) (text : List ℕ)
    → old.has_failed ≡ false → new.has_failed ≡ false
    → new.waiting.items ≡ old.waiting.items ++ text → Puts old held new held text
gathered old new held text still now waits before printed was = record {
  written = was.written;
  appended = was.appended;
  reported = at_false _ _ new.has_failed now
      (ap (λ x. x ++ text) (MatchBool-at_false _ _ still was.reported)
      ∙ append_assoc was.written old.waiting.items text ∙ ap (λ x. was.written ++ x) (sym waits));
}

-- two texts were written, or a beginning of both
pub both_written : (held holds done : Option (List ℕ)) (first second : List ℕ) (all : Bool)
    → IsWritten held holds first true → IsWritten holds done second all
    → IsWritten held done (first ++ second) all
both_written held holds done first second true a b = record {
  written = a.written ++ b.written;
  appended = appends_more held holds done a.written b.written a.appended b.appended;
  reported = ap (λ x. x ++ second) a.reported ∙ ap (λ x. a.written ++ x) b.reported;
}
both_written held holds done first second false a b = record {
  written = a.written ++ b.written;
  appended = appends_more held holds done a.written b.written a.appended b.appended;
  reported = (
    b.reported.0,
    ap (λ x. x ++ second) a.reported ∙ ap (λ x. a.written ++ x) b.reported.1
        ∙ sym (append_assoc a.written b.written b.reported.0),
  );
}

-- what waited and then a text were written, or a beginning of both
pub sent : (old new : Output) (held holds : Option (List ℕ)) (text : List ℕ) (all : Bool)
    → old.has_failed ≡ false → new.has_failed ≡ not all → new.waiting.items ≡ []
    → IsWritten held holds (old.waiting.items ++ text) all → Puts old held new holds text
sent old new held holds text true still now empty w before printed was = record {
  written = was.written ++ w.written;
  appended = appends_more before held holds was.written w.written was.appended w.appended;
  reported = at_false _ _ new.has_failed now
      (ap (λ x. x ++ text) (MatchBool-at_false _ _ still was.reported)
      ∙ append_assoc was.written old.waiting.items text
      ∙ ap (λ x. was.written ++ x) w.reported
      ∙ sym (append-nil (was.written ++ w.written))
      ∙ ap (λ x. (was.written ++ w.written) ++ x) (sym empty));
}
sent old new held holds text false still now empty w before printed was = record {
  written = was.written ++ w.written;
  appended = appends_more before held holds was.written w.written was.appended w.appended;
  reported = at_true _ _ new.has_failed now (
    w.reported.0,
    ap (λ x. x ++ text) (MatchBool-at_false _ _ still was.reported)
        ∙ append_assoc was.written old.waiting.items text
        ∙ ap (λ x. was.written ++ x) w.reported.1
        ∙ sym (append_assoc was.written w.written w.reported.0),
  );
}

-- what waited was written last, or a beginning of it
pub finished : (before held holds : Option (List ℕ)) (output : Output) (text : List ℕ)
    (all : Bool) → output.has_failed ≡ false → IsWritten held holds output.waiting.items all
    → IsPrinted before held output text → IsWritten before holds text all
finished before held holds output text all still w was =
    subst (λ x. IsWritten before holds x all)
    (sym (MatchBool-at_false _ _ still was.reported))
    (both_written before held holds was.written output.waiting.items all
    (record { written = was.written; appended = was.appended; reported = refl }) w)

pub unflushed : (before holds done : Option (List ℕ)) (text : List ℕ) → Keeps holds done
    → IsWritten before holds text true → IsWritten before done text false
unflushed before holds done text kept w = record {
  written = w.written;
  appended = appends_kept before holds done w.written w.appended kept;
  reported = ([], w.reported ∙ sym (append-nil w.written));
}

-- what a failed call answers is not `Ok`
pub failed_is_not_ok : {T E : Type 0} (result : Result T E) → IsErr result → is_ok result ≡ false
failed_is_not_ok (Ok value) failed = cc
failed_is_not_ok (Err error) failed = refl

pub error_is_not_ok : {T E : Type 0} (result : Result T E) → is_err result ≡ not (is_ok result)
error_is_not_ok (Ok value) = refl
error_is_not_ok (Err error) = refl

-- one text after another
pub puts_more : (old mid new : Output) (held holds done : Option (List ℕ)) (first second : List ℕ)
    → Puts old held mid holds first → Puts mid holds new done second
    → Puts old held new done (first ++ second)
puts_more old mid new held holds done first second a b before printed was =
    subst (IsPrinted before done new) (append_assoc printed first second)
    (b before (printed ++ first) (a before printed was))

pub puts_nothing : (output : Output) (held : Option (List ℕ)) → Puts output held output held []
puts_nothing output held before printed was =
    subst (IsPrinted before held output) (sym (append-nil printed)) was

-- nothing is printed yet
pub nothing_printed : (output : Output) (held : Option (List ℕ)) → output.waiting.items ≡ []
    → output.has_failed ≡ false → IsPrinted held held output []
nothing_printed output held empty still = record {
  written = [];
  appended = appends_nothing held;
  reported = at_false _ _ output.has_failed still (sym empty);
}

-- a text was refused where it was to wait, and so all further ones are dropped
pub refused : (old new : Output) (held : Option (List ℕ)) (text : List ℕ)
    → old.has_failed ≡ false → new.has_failed ≡ true → Puts old held new held text
refused old new held text still now before printed was = record {
  written = was.written;
  appended = was.appended;
  reported = at_true _ _ new.has_failed now (
    old.waiting.items ++ text,
    ap (λ x. x ++ text) (MatchBool-at_false _ _ still was.reported)
        ∙ append_assoc was.written old.waiting.items text,
  );
}

-- a text that is to wait does so, or was refused
pub waits_or_refused : (old new : Output) (held : Option (List ℕ)) (text : List ℕ)
    → old.has_failed ≡ false
    → (new.has_failed ≡ false → new.waiting.items ≡ old.waiting.items ++ text)
    → Puts old held new held text
waits_or_refused old new held text still waits = by_end new.has_failed refl
  where
    by_end : (has_failed : Bool) → new.has_failed ≡ has_failed → Puts old held new held text
    by_end true is = refused old new held text still is
    by_end false is = gathered old new held text still is (waits is)

-- what a call that didn't fail ensures
pub on_ok : {T E : Type 0} (result : Result T E) (P : Type 0) → is_err result ≡ false
    → OnOk result P → P
on_ok (Ok value) P is reported = reported
on_ok (Err error) P is reported = cc
