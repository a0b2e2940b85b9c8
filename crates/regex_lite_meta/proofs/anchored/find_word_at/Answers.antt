use Rattle.regex_lite_meta.proofs.Common.{Some, None, subst}
use Rattle.regex_lite_syntax.specs.Prefilter.NumberedWords.{IsNextOfPatterns}
use Rattle.regex_lite_syntax.specs.Prefilter.Words.{AnyStandsAt}
use Rattle.regex_lite_meta.proofs.AnchoredSpanLemmas.{none_stand, none_to, word_later, word_starts}
use Rattle.regex_lite_meta.proofs.anchored.find_word_at.Goals as goal
use Rattle.regex_lite_meta.proofs.anchored.find_word_at.Goals.{After-find_span}

-- the words that come next
next : (c : After-find_span) → IsNextOfPatterns c.args.words.now c.args.haystack.now c.args.start
    c.find_span.result
next c =
    subst (λ bytes. IsNextOfPatterns c.args.words.now bytes c.args.start c.find_span.result)
    c.as_bytes-bytes.ensures.value c.find_span.ensures

pub returns-in-Some : goal.returns-in-Some
returns-in-Some c = λ table entries answers each.
    let a = c.args in
    let bytes = a.haystack.now in
    rw (c.in-Some.number-is, c.in-Some.span-is)
    (word_starts table bytes c.utf8.haystack entries a.start c.requires c.in-Some.number
    c.in-Some.span c.if-span-start.true
    (answers bytes a.start (Some (c.in-Some.number, c.in-Some.span)) c.utf8.haystack c.requires
    (rw c.in-Some.is at (next (goal.at.returns-in-Some c).After-find_span))))

pub returns-in_default : goal.returns-in_default
returns-in_default c = λ table entries answers each.
    let a = c.args in
    let bytes = a.haystack.now in
    word_later table bytes c.utf8.haystack entries a.start c.requires c.in-Some.number
    c.in-Some.span c.if-span-start.false
    (answers bytes a.start (Some (c.in-Some.number, c.in-Some.span)) c.utf8.haystack c.requires
    (rw c.in-Some.is at (next (goal.at.returns-in_default c).After-find_span)))

pub returns-in_default-2 : goal.returns-in_default-2
returns-in_default-2 c = λ table entries answers each.
    let a = c.args in
    let bytes = a.haystack.now in
    none_to table bytes entries a.start
    (answers bytes a.start None c.utf8.haystack c.requires
    (rw c.in_default.is at (next (goal.at.returns-in_default-2 c).After-find_span)))

pub returns-then-not-may_stand : goal.returns-then-not-may_stand
returns-then-not-may_stand c = λ table entries answers each.
    let a = c.args in
    none_stand table a.haystack.now c.utf8.haystack entries a.start c.requires a.words.now each
    (subst (λ bytes. ¬ (AnyStandsAt a.words.now.words bytes a.start)) c.as_bytes-bytes.ensures.value
    (c.may_stand.ensures c.if-not-may_stand.true))
