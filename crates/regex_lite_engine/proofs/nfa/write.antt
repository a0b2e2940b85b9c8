-- lemmas that several proofs here share
pub mod ApartAddressLemmas
pub mod ApartLemmas
pub mod NumberedPlaceLemmas
pub mod NumberedRowLemmas
pub mod NumberedTreeLemmas
pub mod NumberingLemmas
pub mod AddedLemmas
pub mod OnePlaceLemmas
pub mod RenumberingLemmas
pub mod CapacityLemmas
pub mod SeveralLemmas
pub mod SeveralNameLemmas
pub mod SeveralRowLemmas
pub mod WrittenOverLemmas
