-- What the contracts of the program's calls cite.
pub mod Codes
pub mod Streams
pub mod Written
pub mod Results
pub mod Answers
pub mod Faults
pub mod Ends
pub mod Registries
pub mod TagCommands
pub mod Rows
pub mod Selected
pub mod Shown
pub mod Plans
pub mod Runs
pub mod Performed
pub mod Program
