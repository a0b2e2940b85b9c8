-- The internal contracts of the functions that write a graph.
pub mod Saturation
pub mod Fragments
pub mod Repetitions
pub mod Layout
pub mod Totals
