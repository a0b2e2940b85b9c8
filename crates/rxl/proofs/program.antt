-- lemmas that several proofs here share
pub mod ReportedLemmas
pub mod FaultLemmas
