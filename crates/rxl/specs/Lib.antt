pub mod Commands
pub mod Printed
pub mod Output
pub mod Program
pub mod Faults
