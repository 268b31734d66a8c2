pub mod CountLaws
pub mod KeyTexts
pub mod NoteLaws
