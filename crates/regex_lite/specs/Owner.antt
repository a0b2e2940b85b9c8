-- Values that several owners share, as each owner sees them.
pub mod Ownership
pub mod Values
