use Rattle.regex_lite_engine.proofs.Common.{◌≡◌, ◌-◌, ◌<◌, ◌≤◌, ◌↔◌, ℕ, [], ◌∷◌, ap, ◌∙◌, sym}
use Rattle.regex_lite_engine.proofs.Common.{subst, arith, length, slice_index_or, slice_set, false}
use Rattle.regex_lite_engine.proofs.Common.{true, IsTrue, bits_of}
use Rattle.regex_lite_engine.proofs.backtrack.BitLemmas.{new_in_word, set_in_word}
use Rattle.regex_lite_engine.proofs.pikevm.PlaceSetLemmas.{members_long, listed_at, one_listed}
use Rattle.regex_lite_engine.specs.Pikevm.PlaceSets.{is_stamped, members, FitPlaces}
use Rattle.regex_lite_engine.specs.declared.pikevm.place_set.Marks.{Marks}
use Rattle.regex_lite_engine.specs.declared.pikevm.place_set.Marks.TheVariants as marks
use Rattle.regex_lite_engine.proofs.pikevm.place_set.PlaceSet.insert.Goals.{in-Bits, in-Stamps}
use Rattle.regex_lite_engine.proofs.pikevm.place_set.PlaceSet.insert.Goals as goal

-- the place has a bit or a stamp
is_inside : {n k places : ℕ} (kept : Marks) → k < n → length (members kept places) ≡ n
    → k < places
is_inside {places = places} kept lt all = omega (arith, lt, all, members_long kept places)

has_bit : {k places : ℕ} (kept : Marks) (bits : ℕ) → FitPlaces kept places
    → kept ≡ marks.Bits bits → k < places → k < 64
has_bit {places = places} kept bits fit is lt =
    let few : places ≤ 64 = subst (λ m. FitPlaces m places) is fit in omega (arith, few, lt)

pub set_bit-requires : goal.set_bit-requires
set_bit-requires c =
    let i = c.self.inside in
    has_bit i.marks c.in-Bits.bits c.self.invariant c.in-Bits.is
    (is_inside i.marks c.requires (ap length c.self.view_is))

pub overflow_sub-self-inside : goal.overflow_sub-self-inside
overflow_sub-self-inside c =
    let i = c.self.inside in
    omega (arith, c.requires, ap length c.self.view_is, members_long i.marks i.places)

pub insert-requires-clause-some : goal.insert-requires-clause-some
insert-requires-clause-some c =
    let i = c.self.inside in
    omega (arith, c.requires, ap length c.self.view_is, members_long i.marks i.places)

pub returns-clause-fresh : goal.returns-clause-fresh
returns-clause-fresh c =
    let i = c.self.inside in let k = c.args.place in
    let lt = is_inside i.marks c.requires (ap length c.self.view_is) in
    subst (λ set. IsTrue c.match-self.result ↔ (slice_index_or set k false ≡ false))
    c.self.view_is
    (elim c.match-self.branch [
      | in-Bits w ↦
          let found = w.set_bit.ensures.fresh in
          let clear = new_in_word w.in-Bits.bits i.places k
          (has_bit i.marks w.in-Bits.bits c.self.invariant w.in-Bits.is lt) lt in
          subst (λ m. IsTrue c.match-self.result
          ↔ (slice_index_or (members m i.places) k false ≡ false)) (sym w.in-Bits.is)
          (subst (λ r. IsTrue r
          ↔ (slice_index_or (bits_of (w.in-Bits.bits ∷ []) i.places) k false ≡ false))
          (sym w.result-is)
          ((λ new. clear.0 (found.0 new)), (λ none. found.1 (clear.1 none))))
      | in-Stamps w ↦
          let s = w.in-Stamps.stamps in
          subst (λ m. IsTrue c.match-self.result
          ↔ (slice_index_or (members m i.places) k false ≡ false)) (sym w.in-Stamps.is)
          (subst (λ r. IsTrue r
          ↔ (slice_index_or (members (marks.Stamps s) i.places) k false ≡ false))
          (sym w.result-is)
          (subst (λ b. IsTrue w.insert.result ↔ (b ≡ false))
          (sym (listed_at (λ q. is_stamped s.stamps.items s.generation (i.places - q)) i.places k
          lt)) w.insert.ensures.fresh))
    ])

pub returns-clause-added : goal.returns-clause-added
returns-clause-added c =
    let i = c.self.inside in let k = c.args.place in
    let lt = is_inside i.marks c.requires (ap length c.self.view_is) in
    subst (λ set. members c.match-self.self-inside.marks c.match-self.self-inside.places
    ≡ slice_set set k true) c.self.view_is
    (elim c.match-self.branch [
      | in-Bits w ↦
          ap (λ z. members z.marks z.places) w.self-inside-is
          ∙ ap (λ word. bits_of (word ∷ []) i.places) w.set_bit.ensures.set
          ∙ set_in_word w.in-Bits.bits i.places k
          (has_bit i.marks w.in-Bits.bits c.self.invariant w.in-Bits.is lt) lt
          ∙ ap (λ m. slice_set (members m i.places) k true) (sym w.in-Bits.is)
      | in-Stamps w ↦
          let s = w.in-Stamps.stamps in let n = w.insert.new.self in
          ap (λ z. members z.marks z.places) w.self-inside-is
          ∙ one_listed (λ q. is_stamped s.stamps.items s.generation (i.places - q)) i.places
          (λ q. is_stamped n.stamps.items n.generation (i.places - q)) k lt w.insert.ensures.added
          (λ l below other. w.insert.ensures.others (i.places - l)
          (λ e. other (omega (arith, e, below, lt))) (omega (arith, below)))
          ∙ ap (λ m. slice_set (members m i.places) k true) (sym w.in-Stamps.is)
    ])
