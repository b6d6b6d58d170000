-- Language ranges (RFC 4647, 2) and the header Accept-Language (RFC 9110, 12.5.4): reading them, which tags they match,
-- which tag they serve, and the laws of matching by extlang forms (RFC 5646, 4.5).
pub mod Ranges
pub mod Reading
pub mod Spellings
pub mod Matching
pub mod Filtering
pub mod Lookup
pub mod Preferences
pub mod Names
pub mod Words
pub mod Weights
pub mod Elements
pub mod Grammar
pub mod Headers
pub mod Priority
pub mod AcceptNames
pub mod Matched
pub mod OtherSpellings
pub mod Refusals
pub mod HeaderRefusals
pub mod Asked
pub mod Available
pub mod Laws
