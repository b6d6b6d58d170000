-- What is answered to lines: objects of JSON, the lines that ranges select, and the verdict on an explanation.
pub mod Parts
pub mod Tags
pub mod Objects
pub mod Answering
pub mod Selection
pub mod Selecting
pub mod Searching
pub mod LookedUp
pub mod Closest
pub mod Served
pub mod StepLines
pub mod Verdicts
pub mod Judging
pub mod Verifying
pub mod Laws
