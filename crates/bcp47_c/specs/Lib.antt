-- What the functions of the C library answer: outcomes in numbers, and what they write to buffers.
pub mod Numbers
pub mod Outcomes
pub mod Records
pub mod Handles
pub mod Names
pub mod Texts
pub mod Parts
pub mod Parents
pub mod Replacing
pub mod Posix
pub mod Steps
pub mod Traces
pub mod Ends
pub mod Matches
pub mod Serving
