-- The internal contracts of the bounded backtracker.
pub mod Bits
pub mod PairMaps
pub mod DepthFirst
pub mod Machine
pub mod Entering
pub mod Walking
pub mod Capacity
pub mod Searching
pub mod Short
