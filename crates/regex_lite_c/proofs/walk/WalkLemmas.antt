-- Matches that are listed one after another, and spans that are written one after another.
use Rattle.regex_lite_c.proofs.Common.{◌≡◌, ℕ, zero, suc, ◌+◌, ◌-◌, ◌<◌, List, [], ◌∷◌, ◌++◌, map}
use Rattle.regex_lite_c.proofs.Common.{length, slice_get, slice_set, Some, None, Option, option_map}
use Rattle.regex_lite_c.proofs.Common.{chars, sym, refl, ap, ◌∙◌, subst, inl, inr, append_assoc}
use Rattle.regex_lite_c.proofs.Common.{append-nil, arith, length-append, cases_lt, length-map}
use Rattle.regex_lite_c.proofs.Common.{map-append, Found, IsAnswerOf, AreWrittenAs}
use Rattle.regex_lite_syntax.specs.Text.{Text}
use Rattle.regex_lite_syntax.proofs.LookupLemmas.{get_left, get_seam, set_elsewhere, set_here}
use Rattle.regex_lite.specs.Ahead.{Ahead, AheadOf, AnswerComesNext, NoneIsAhead, PassesAnswer}
use Rattle.regex_lite.specs.MatchList.{AreFirstAnswers, IsNextAnswer, one_less}

-- whatever is searched for, a regex or several patterns
module _ {S A : Type 0} (found_of : A → Found)
    (IsAnswerTo : S → Text → (s : ℕ) → Option A → Type 0) where
  -- these are the first of the answers after a match that ended there
  abbrev pub AreFirstOf : (sought : S) (haystack : Text) (count : ℕ) (ended : Option ℕ)
      (list : List A) → Type 0
  AreFirstOf sought haystack count ended list =
      AreFirstAnswers found_of (IsAnswerTo sought haystack) count ended list

  -- with the answers of this list passed, this many are left of those that there is room for: the
  -- first of those ahead now go on with the list
  pub record ListsAnswers (start a : AheadOf S) (buffer left : ℕ) (list : List A) : Type 0 where
    pub limit : a.limit ≡ None
    pub sought : a.sought ≡ start.sought
    pub haystack : a.haystack ≡ start.haystack
    pub on : (rest : List A) → AreFirstOf start.sought (chars start.haystack) left a.ended rest
        → AreFirstOf start.sought (chars start.haystack) buffer start.ended (list ++ rest)

  pub lists_none : (start : AheadOf S) (buffer : ℕ) → start.limit ≡ None
      → ListsAnswers start start buffer buffer []
  lists_none start buffer limit = record {
    limit = limit;
    sought = refl;
    haystack = refl;
    on = λ rest are. are;
  }

  pub lists_more : (start old new : AheadOf S) (buffer left : ℕ) (list : List A) (answer : A)
      → ListsAnswers start old buffer (suc left) list
      → PassesAnswer found_of IsAnswerTo old answer new
      → ListsAnswers start new buffer left (list ++ (answer ∷ []))
  lists_more start old new buffer left list answer so passes =
      let is = passes.passed in
      let First : Option ℕ → List A → Type 0 =
      λ ended rest. AreFirstOf start.sought (chars start.haystack) left ended rest in
      let Next : S → List ℕ → Type 0 =
      λ sought bytes.
      IsNextAnswer found_of (IsAnswerTo sought (chars bytes)) old.ended (Some answer) in
      let comes : Next start.sought start.haystack =
      subst (λ sought. Next sought start.haystack) so.sought
      (subst (λ bytes. Next old.sought bytes) so.haystack passes.comes) in
      record {
        limit = ap (λ a. a.limit) is ∙ ap one_less so.limit;
        sought = ap (λ a. a.sought) is ∙ so.sought;
        haystack = ap (λ a. a.haystack) is ∙ so.haystack;
        on = λ rest are.
            subst (AreFirstOf start.sought (chars start.haystack) buffer start.ended)
            (sym (append_assoc list (answer ∷ []) rest))
            (so.on (answer ∷ rest)
            (comes, subst (λ ended. First ended rest) (ap (λ a. a.ended) is) are));
      }

  pub lists_all : (start a : AheadOf S) (buffer : ℕ) (list : List A)
      → ListsAnswers start a buffer 0 list
      → AreFirstOf start.sought (chars start.haystack) buffer start.ended list
  lists_all start a buffer list so =
      subst (AreFirstOf start.sought (chars start.haystack) buffer start.ended) (append-nil list)
      (so.on [] refl)

  none_left : (sought : S) (haystack : Text) (left : ℕ) (ended : Option ℕ)
      → IsNextAnswer found_of (IsAnswerTo sought haystack) ended None
      → AreFirstOf sought haystack left ended []
  none_left sought haystack zero ended next = refl
  none_left sought haystack (suc k) ended next = next

  pub comes_none : (a : AheadOf S) → a.limit ≡ None → NoneIsAhead found_of IsAnswerTo a
      → AnswerComesNext found_of IsAnswerTo a None
  comes_none a limit (inl zero_left) = absurd cc
  comes_none a limit (inr next) = next

  pub lists_to_end : (start a : AheadOf S) (buffer left : ℕ) (list : List A)
      → ListsAnswers start a buffer left list → NoneIsAhead found_of IsAnswerTo a
      → AreFirstOf start.sought (chars start.haystack) buffer start.ended list
  lists_to_end start a buffer left list so over =
      let Next : S → List ℕ → Type 0 =
      λ sought bytes. IsNextAnswer found_of (IsAnswerTo sought (chars bytes)) a.ended None in
      let here : Next start.sought start.haystack =
      subst (λ sought. Next sought start.haystack) so.sought
      (subst (λ bytes. Next a.sought bytes) so.haystack (comes_none a so.limit over)) in
      subst (AreFirstOf start.sought (chars start.haystack) buffer start.ended) (append-nil list)
      (so.on [] (none_left start.sought (chars start.haystack) left a.ended here))

-- so of the matches of a regex
abbrev pub Lists : (start a : Ahead) (buffer left : ℕ) (list : List Found) → Type 0
Lists start a buffer left list = ListsAnswers (λ own. own) IsAnswerOf start a buffer left list

-- one more was written
pub written_more : {X Y : Type 0} (stands_for : Y → X) (reported : List Y) (one : Y)
    (old now : List X) (n : ℕ) (s : X)
    → AreWrittenAs stands_for reported old now → length reported ≡ n → n < length now → s
    ≡ stands_for one → AreWrittenAs stands_for (reported ++ (one ∷ [])) old (slice_set now n s)
written_more stands_for reported one old now n s is number below same =
    let longer = length-append reported (one ∷ []) in
    record {
      each = λ k lt. elim (cases_lt k n) [
        | inl before ↦
            set_elsewhere now n k s (λ e. omega (arith, e, before))
            ∙ is.each k (omega (arith, number, before))
            ∙ ap (option_map stands_for)
            (sym (get_left reported (one ∷ []) k (omega (arith, number, before))))
        | inr after ↦
            let here : k ≡ n = omega (arith, after, lt, longer, number) in
            subst (λ j. slice_get (slice_set now n s) j
            ≡ option_map stands_for (slice_get (reported ++ (one ∷ [])) j)) (sym here)
            (set_here now n s below ∙ ap Some same
            ∙ ap (option_map stands_for)
            (sym (subst (λ j. slice_get (reported ++ (one ∷ [])) j ≡ Some one) number
            (get_seam reported one []))))
      ];
      rest = λ k le.
          set_elsewhere now n k s (λ e. omega (arith, e, le, longer, number))
          ∙ is.rest k (omega (arith, le, longer));
    }

-- an answer is reported as this, and written as what stands for that
module _ {S A X Y : Type 0} (found_of : A → Found)
    (IsAnswerTo : S → Text → (s : ℕ) → Option A → Type 0) (stands_for : Y → X)
    (tell : List ℕ → A → Y) where
  -- this many of the answers ahead were written, the first of them
  pub record AreFirstWritten (start a : AheadOf S) (old now : List X) (k : ℕ) : Type 0 where
    pub list : List A
    pub number : length list ≡ k
    pub lists : ListsAnswers found_of IsAnswerTo start a (length old) (length old - k) list
    pub written : AreWrittenAs stands_for (map (tell start.haystack) list) old now
    pub same : k ≡ 0 → (a ≡ start) × (now ≡ old)

  -- at the start none was
  pub none_written : (start : AheadOf S) (old : List X) → start.limit ≡ None
      → AreFirstWritten start start old old 0
  none_written start old limit = record {
    list = [];
    number = refl;
    lists = subst (λ n. ListsAnswers found_of IsAnswerTo start start (length old) n [])
        (omega arith) (lists_none found_of IsAnswerTo start (length old) limit);
    written = record { each = λ k lt. absurd (omega (arith, lt)); rest = λ k le. refl };
    same = λ _. (refl, refl);
  }

  -- one more was
  pub first_written_more : (start a next : AheadOf S) (old now : List X) (k : ℕ) (answer : A)
      (s : X)
      → AreFirstWritten start a old now k → k < length old → length now ≡ length old
      → PassesAnswer found_of IsAnswerTo a answer next
      → s ≡ stands_for (tell start.haystack answer)
      → AreFirstWritten start next old (slice_set now k s) (k + 1)
  first_written_more start a next old now k answer s so below len passes is =
      let left = length old - (k + 1) in
      let less : length old - k ≡ suc left = omega (arith, below) in
      let own = tell start.haystack in
      record {
        list = so.list ++ (answer ∷ []);
        number = omega (arith, length-append so.list (answer ∷ []), so.number);
        lists = lists_more found_of IsAnswerTo start a next (length old) left so.list answer
            (subst (λ n. ListsAnswers found_of IsAnswerTo start a (length old) n so.list) less
            so.lists) passes;
        written = subst (λ reported. AreWrittenAs stands_for reported old (slice_set now k s))
            (sym (map-append own so.list (answer ∷ [])))
            (written_more stands_for (map own so.list) (own answer) old now k s so.written
            (length-map so.list own ∙ so.number) (omega (arith, below, len)) is);
        same = λ none. absurd (omega (arith, none));
      }
