use Rattle.regex_lite_syntax.proofs.Common.{◌-◌, subst, sym}
use Rattle.regex_lite_syntax.proofs.Common.{◌∙◌, inl, arith, StartsWith}
use Rattle.regex_lite_syntax.specs.Prefilter.WordLists.{all_words}
use Rattle.regex_lite_syntax.proofs.prefilter.words.LinkLemmas.{linked_before}
use Rattle.regex_lite_syntax.proofs.prefilter.words.shifts.link_words.Goals as goal

pub words-init : goal.words-init
words-init c = record {
  left_inside = omega arith;
  first_inside = λ bucket. let none = c.requires.none_first bucket in omega (arith, none);
  next_inside = λ number. let none = c.requires.none_next number in omega (arith, none);
  past = λ bucket. inl (c.requires.none_first bucket);
  rise = λ number. inl (c.requires.none_next number);
  reached = λ number bytes low inside. absurd (omega (arith, low, inside));
}

pub words-preserved : goal.words-preserved
words-preserved c =
    let left = c.words.left in
    let words = all_words c.args.words.now in
    linked_before words c.args.hashed left (left - 1) c.words.first c.words.next
    c.bucket_of_word-bucket.result (omega arith) c.bucket_of_word-bucket.ensures.inside
    (omega (arith, c.words.invariant.left_inside))
    (λ bytes starts. c.bucket_of_word-bucket.ensures.bucket bytes
    (subst (λ word. StartsWith word bytes) (sym c.word.ensures) starts))
    c.words.invariant

pub returns : goal.returns
returns c =
    let v = c.words.invariant in
    record {
      buckets = omega arith;
      numbers = c.words.auto.next ∙ c.requires.numbers;
      first_inside = v.first_inside;
      next_inside = v.next_inside;
      rise = v.rise;
      reached = λ number bytes inside starts. v.reached number bytes (omega arith) inside starts;
    }
