-- What is there, and what is not.
use Rattle.regex_lite_syntax.proofs.Common.{◌≡◌, Some, None, Option}

pub not_there : {A : Type 0} {x : A} → ◌≡◌ {A = Option A} None (Some x) → ⊥
not_there e = cc

pub same_some : {A : Type 0} {x y : A} → ◌≡◌ {A = Option A} (Some x) (Some y) → x ≡ y
same_some e = cc
