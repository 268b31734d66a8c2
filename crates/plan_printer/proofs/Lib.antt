pub mod PrintLaws
pub mod ValueLaws
