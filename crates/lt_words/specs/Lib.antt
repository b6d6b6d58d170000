-- What the words of the command line name.
pub mod CommandLine
pub mod Reading
pub mod Given
