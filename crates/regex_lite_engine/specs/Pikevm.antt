-- The internal contracts of the PikeVM.
pub mod Machine
pub mod Cells
pub mod PlaceSets
pub mod InStep
pub mod Walking
pub mod Entering
pub mod Again
pub mod Capacity
pub mod Stepping
pub mod Searching
pub mod Passing
pub mod Stopping
