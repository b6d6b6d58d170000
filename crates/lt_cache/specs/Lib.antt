-- What was made canonical lately, and texts that are canonical already.
pub mod Padded
pub mod Places
pub mod Recent
pub mod Ends
pub mod Appending
pub mod SettledEnds
pub mod KeywordEnds
