pub mod Names
pub mod LogTaking
pub mod FileTaking
