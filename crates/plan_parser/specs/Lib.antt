pub mod Signatures
pub mod Programs
pub mod Values
pub mod InsideValues
pub mod ReadTexts
