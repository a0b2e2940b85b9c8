use Rattle.regex_lite_engine.proofs.Common.{◌-◌, ℕ, ◌∙◌, sym, arith}
use Rattle.regex_lite_engine.proofs.Common.{inl, inr, cases_lt, get_or_past, replicate, length-take}
use Rattle.std.specs.Vec.{vec_len}
use Rattle.regex_lite_engine.proofs.pikevm.PlaceSetLemmas.{blank_stamp}
use Rattle.regex_lite_engine.proofs.pikevm.place_set.extend.Goals as goal

pub blocks-2-preserved : goal.blocks-2-preserved
blocks-2-preserved c =
    let before = c.blocks-2.stamps in let added = c.extend_from_slice.ensures in record {
      same = λ k. elim (cases_lt k (vec_len before)) [
        | inl lt ↦ added.by_index.0 k 0 lt ∙ c.blocks-2.invariant.same k
        | inr le ↦
            added.by_index.1 k 0 (added.succeeds (omega (
              arith,
              length-take {A = ℕ} c.min-more.result (replicate 64 0),
              c.min-more.ensures,
              c.capacity.ensures,
              c.len-in-blocks-2.ensures,
              before.ok,
            ))) le
            ∙ blank_stamp 64 c.min-more.result (k - vec_len before)
            ∙ sym (get_or_past before.items k 0 (omega (arith, le, before.ok.0)))
            ∙ c.blocks-2.invariant.same k
      ];
      capacity = omega (arith, c.blocks-2.invariant.capacity, added.capacity);
    }
