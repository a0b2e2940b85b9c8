-- The written-out pattern, its ways and its size, and the graph that stands for it.
pub mod Places
pub mod NoLooks
pub mod Ways
pub mod Addresses
pub mod Repetitions
pub mod WrittenOut
pub mod PlaceCounts
pub mod Size
pub mod Stored
pub mod Parts
pub mod Renumbered
pub mod SideBySide
pub mod StoredList
