-- The value that an owner shares.
use Rattle.regex_lite.specs.declared.owner.shared.Owner.{Owner}
use Rattle.regex_lite.specs.declared.owner.shared.Owner.TheVariants.{Counted, Uncounted}

module _ {X : Type 0} where
  abbrev pub value_of : Owner X → X
  value_of (Counted owner) = owner.value
  value_of (Uncounted lasting) = lasting.value
