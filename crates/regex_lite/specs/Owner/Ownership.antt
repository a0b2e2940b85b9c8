-- The separation logic of counted owners. The owners of a block and their count follow the
-- library's protocol for `Rc`, which lets its user choose how a count is stored. Here a count below
-- the top is the stored word. A word at the top says nothing about the count, and the value is
-- leaked.
use Rattle.std.specs.Prelude.{ℕ, ◌^◌, ◌-◌, ◌<◌, ◌≡◌, Bool, true, false, []}
use base.Fraction.{full_share}
use base.Fml.{Lft, Fml, ftrue, fsep, fex, fwand}
use mir.Raw.{raw}
use mir.Syntax.{Ty}
use denote.RattleType.{RattleType}
use denote.Memory.{lone}
use denote.RawPtr.{Ptr, block_of, count_of, lies_at, ◌+ₚ◌}
use denote.Struct.Lending.{lent_at}
use denote.RcWeak.{rc_cell_owns, rc_lends}
use prog.Memory.{align, up}
use Rattle.std.specs.Global.{Global}
use Rattle.std.specs.Rc.Ownership.{counter_at}
use Rattle.std.specs.contracts.impls.GlobalAllocator.TheImpl.{ghosts}
use Rattle.regex_lite.specs.contracts.owner.counted.Block.{the_row}

-- the right of some `Global` to free a place with this layout, and so of each, as all are equal
abbrev pub frees : Ty → Ptr → Fml
frees layout place = fex Global (λ alloc. ghosts.dealloc_token alloc layout place)

-- what a `&'static` to a value holds
abbrev pub lent_static : (R : RattleType) → (place : Ptr) → R.Denot → Fml
lent_static R place value = lent_at R place value []

-- the word at which a count stays
abbrev pub top : ℕ
top = 2 ^ 64 - 1

-- the meaning of a stored word with n owners: below the top it is their number, and at the top the
-- value is leaked
abbrev pub stands_for : (leaked : Fml) → (n word : ℕ) → (below : Bool) → Fml
stands_for leaked n word true = fex ((word ≡ n) × (n < top)) (λ _. ftrue)
stands_for leaked n word false = fex (word ≡ top) (λ _. leaked)

abbrev pub is_stored : (leaked : Fml) → (n word : ℕ) → Fml
is_stored leaked n word = fex Bool (stands_for leaked n word)

-- the count of n owners in memory
abbrev pub count_at : Ptr → (leaked : Fml) → (n : ℕ) → Fml
count_at place leaked n =
    fex ℕ (λ word. fsep (counter_at place 0 word) (is_stored leaked n word))

-- there are no weak owners: the strong ones count as one weak owner together
abbrev pub only_one : ℕ → Fml
only_one weak = fex (weak ≡ 1) (λ _. ftrue)

module _ (R : RattleType) (place : Ptr) (value : R.Denot) where
  abbrev pub Whole : RattleType
  Whole = the_row R

  -- the block, with its first owner
  abbrev pub whole : Whole.Denot
  whole = record { count = 1; value = value }

  abbrev pub value_place : Ptr
  value_place = place +ₚ up (align (lone R.mir)) 8

  -- each owner has the value borrowed for a lifetime
  abbrev pub lends : Lft → Fml
  lends = lent_at R value_place value

  -- besides the value, the last owner has the right to free the block, and can make the block again
  -- from the count of one and the value
  abbrev pub block_back : Fml
  block_back =
      fsep (frees (raw (lone Whole.mir)) place)
      (fwand (fsep (counter_at place 0 1) (lies_at R full_share value_place value))
      (lies_at Whole full_share place whole))

  abbrev pub owned : Fml
  owned = fsep (lies_at R full_share value_place value) block_back

  -- what an owner owns by value, and what a reference to one owns
  abbrev pub owner_owns : Fml
  owner_owns =
      rc_cell_owns 64 (block_of place, count_of place) (count_at place (lends [])) only_one
      owned ftrue ftrue lends

  abbrev pub owner_shares : Lft → Fml
  owner_shares =
      rc_lends 64 (block_of place, count_of place) (count_at place (lends [])) only_one
      owned ftrue ftrue lends
