-- The internal contracts of the lazy DFA.
pub mod Boundaries
pub mod Intervals
pub mod Parts
pub mod Automaton
pub mod Stored
pub mod NextStates
pub mod Extending
pub mod Scanning
pub mod Cursors
pub mod Determinizing
pub mod Running
pub mod Starting
pub mod Spans
