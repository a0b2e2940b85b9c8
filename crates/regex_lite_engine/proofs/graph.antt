-- lemmas about the addresses of a written-out pattern
pub mod AddressLemmas
pub mod AmongLemmas
pub mod CopyRowLemmas
pub mod ListedAddressLemmas
pub mod ListedRowLemmas
