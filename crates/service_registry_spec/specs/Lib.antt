pub mod Offered
pub mod Answers
pub mod Serving
pub mod Beginning
