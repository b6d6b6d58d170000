-- What a program in Rattle is promised: what a registry holds, and what its calls answer.
pub mod Promise
pub mod Errors
