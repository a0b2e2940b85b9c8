-- The internal contracts of the parser.
pub mod RangeEnds
pub mod RunStorage
pub mod SetNames
pub mod KnownSets
pub mod KnownNames
pub mod Readings
pub mod Numbers
pub mod ClassReadings
pub mod FlagRuns
pub mod NameOpenings
pub mod Machine
pub mod States
pub mod Starts
pub mod FaultEnds
pub mod FurtherDigits
pub mod BoundaryNames
