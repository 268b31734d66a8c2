pub mod Leaves
pub mod FormLaws
pub mod SameTypes
pub mod SizeLaws
pub mod WordLaws
