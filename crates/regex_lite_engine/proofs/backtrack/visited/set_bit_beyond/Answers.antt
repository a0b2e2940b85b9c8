use Rattle.regex_lite_engine.proofs.Common.{◌≡◌, ℕ, ◌-◌, true, false, ◌↔◌, length, IsTrue}
use Rattle.regex_lite_engine.proofs.Common.{slice_index_or, slice_set, ap, ◌∙◌, subst, arith}
use Rattle.regex_lite_engine.proofs.Common.{bits_of}
use Rattle.std.proofs.lemmas.List.{with_items_is}
use Rattle.regex_lite_engine.proofs.backtrack.BitLemmas.{bits_before_zeros}
use Rattle.regex_lite_engine.proofs.backtrack.visited.set_bit_beyond.Goals.{then-len-k, else-len-k}
use Rattle.regex_lite_engine.proofs.backtrack.visited.set_bit_beyond.Goals as goal

-- what was added changes no bit
same_bits : (c : goal.After-words-1) (count : ℕ)
    → bits_of c.deref_mut.result.now count ≡ bits_of c.args.words.now.items count
same_bits c count =
    let words = c.args.words.now.items in
    let kept : bits_of c.if-len-k.words.items count ≡ bits_of words count =
    elim c.if-len-k.branch [
      | then-len-k w ↦
          ap (λ z. bits_of z.items count) w.words-is
          ∙ ap (λ z. bits_of z count) w.fill_to.ensures.items
          ∙ bits_before_zeros words (w.min.result - length words) count
      | else-len-k w ↦ ap (λ z. bits_of z.items count) w.words-is
    ] in
    ap (λ z. bits_of z count) c.deref_mut.ensures.value ∙ kept

pub returns-clause-fresh : goal.returns-clause-fresh
returns-clause-fresh c count lt =
    subst (λ bits. IsTrue c.set_bit.result ↔ (slice_index_or bits c.args.k false ≡ false))
    (same_bits c count) (c.set_bit.ensures.fresh count lt)

pub returns-clause-set : goal.returns-clause-set
returns-clause-set c count lt =
    let all = with_items_is c.if-len-k.words c.set_bit.new.words
    (omega (arith, c.set_bit.auto.words, c.deref_mut.ensures.len)) in
    ap (λ z. bits_of z count) all
    ∙ c.set_bit.ensures.set count lt
    ∙ ap (λ bits. slice_set bits c.args.k true) (same_bits c count)
