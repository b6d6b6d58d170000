-- What the contracts on rows of text cite.
pub mod Splitting
pub mod Quotes
pub mod Rows
pub mod Plain
pub mod Lanes
pub mod Looks
pub mod Marks
pub mod Records
