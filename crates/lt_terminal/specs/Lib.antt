-- What is known of a run at a terminal: that it is the run of the program, and whether anything is said besides.
pub mod People
