-- what a pass knows of a pattern
pub mod PassLemmas
-- the patterns that it tries at a position
pub mod ReportedLemmas
pub mod TriedLemmas
-- which patterns match
pub mod WhichLemmas
